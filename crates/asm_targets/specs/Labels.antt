-- The labels and services of a source, as the maps keep them.
use Rattle.std.specs.Prelude.{ℕ, List, Option}
use Rattle.std.specs.Option.{option_map}
use Rattle.std.specs.Cmp.Lexicographic.{slice_cmp}
use Rattle.std.specs.Ordering.{nat_cmp}
use Rattle.std.specs.BTreeMap.{BTreeMap, get_by}
use Rattle.std.specs.Borrow.{Bor}
use Rattle.asm_targets.specs.declared.labels.Mark.{Mark}
use Rattle.asm_targets.specs.declared.labels.Service.{Service}

-- the place of a label
abbrev pub mark_in : BTreeMap (Bor (List ℕ)) Mark → List ℕ → Option Mark
mark_in m w = get_by (λ k. slice_cmp nat_cmp w k.now) m

-- the line that gives a service, and its label
pub record ServiceOf : Type 0 where
  pub line : ℕ
  pub label : List ℕ

abbrev pub service_seen : Service → ServiceOf
service_seen s = record { line = s.line; label = s.label.now }

-- the service of a number
abbrev pub service_in : BTreeMap ℕ Service → ℕ → Option ServiceOf
service_in m n = option_map service_seen (get_by (λ k. nat_cmp n k) m)
