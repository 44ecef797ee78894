-- The moves of a node's own slots.
use Rattle.std.specs.Prelude.{ℕ, List, [], Option, Some, None, Bool, true, false, if◌then◌else◌}
use Rattle.slot_space.specs.Limits.{slot_limit}
use Rattle.slot_space.specs.Sets.{has, union, lowest_run}
use Rattle.negotiate.specs.declared.lender.Phase.{Phase}
use Rattle.negotiate.specs.declared.lender.Phase.TheVariants.{Free, Buying, Away}
use Rattle.negotiate.specs.declared.lender.Kept.{Kept}
use Rattle.negotiate.specs.declared.lender.Kept.TheVariants.{Nothing, Ask, Turn}
use Rattle.negotiate.specs.declared.lender.Grant.{Grant}
use Rattle.negotiate.specs.declared.lender.Grant.TheVariants.{Run, NoRun, Locked}
use Rattle.negotiate.specs.Runs.{without}

-- a node as its callers see it
pub record LenderView : Type 0 where
  pub own : List ℕ
  pub phase : Phase
  pub kept : Kept

abbrev pub view_of : List ℕ → Phase → Kept → LenderView
view_of own phase kept = record { own = own; phase = phase; kept = kept }

-- a node with these slots that may give them, and keeps nothing
abbrev pub unlocked : List ℕ → LenderView
unlocked own = view_of own Free Nothing

abbrev pub is_free : Phase → Bool
is_free Free = true
is_free Buying = false
is_free Away = false

abbrev pub is_kept : Kept → Bool
is_kept Nothing = false
is_kept (Ask by) = true
is_kept Turn = true

-- the lowest run of so many own slots
abbrev pub lowest_own : LenderView → ℕ → Option ℕ
lowest_own l count = lowest_run (λ s. has s l.own) count slot_limit

-- what a claim is answered, where this is the lowest run of own slots
abbrev pub granted : Phase → Option ℕ → Grant
granted Free (Some first) = Run first
granted Free None = NoRun
granted Buying lowest = Locked
granted Away lowest = Locked

-- a grant takes the lowest run of own slots out, where there is one
abbrev pub after_grant : ℕ → LenderView → LenderView
after_grant count l = record l { own = if is_free l.phase then without (lowest_own l count) count l.own else l.own }

-- a node that isn't locked takes the slots in
abbrev pub after_give : List ℕ → LenderView → LenderView
after_give set l = record l { own = if is_free l.phase then union l.own set else l.own }

-- the loan that an ask gets: all own slots of a node that isn't locked
abbrev pub loan_for : LenderView → Option (List ℕ)
loan_for l = if is_free l.phase then Some l.own else None

-- they are away then; where they were away before, the ask is kept
abbrev pub after_asked : ℕ → LenderView → LenderView
after_asked by l = if is_free l.phase then record l { own = []; phase = Away } else record l { kept = Ask by }

-- the turn makes a node that isn't locked a buyer; where its slots are away, the turn is kept
abbrev pub after_turn : LenderView → LenderView
after_turn l = if is_free l.phase then record l { phase = Buying } else record l { kept = Turn }
