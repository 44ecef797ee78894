-- A set of slots and a run that is taken out of it.
use Rattle.std.specs.Prelude.{ℕ, List, [], Option, Some, None}
use Rattle.slot_space.specs.Sets.{minus, run}

-- the slots of the run that starts here, or none
abbrev pub run_from : Option ℕ → ℕ → List ℕ
run_from None count = []
run_from (Some first) count = run first count

-- the set without that run
abbrev pub without : Option ℕ → ℕ → List ℕ → List ℕ
without None count set = set
without (Some first) count set = minus set (run first count)
