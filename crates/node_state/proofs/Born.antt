-- A birth, made of its steps one after another.
use Rattle.std.proofs.Common.{◌≡◌, ℕ, [], ◌∷◌, refl}
use Rattle.slot_space.specs.declared.names.Tid.{Tid}
use Rattle.run_trace.specs.declared.label.Label.TheVariants.{Born}
use Rattle.run_trace.specs.declared.label.Why.{Why}
use Rattle.run_trace.specs.declared.node.Wait.TheVariants as wait
use Rattle.run_trace.specs.Bubbles.{bubble_for}
use Rattle.run_trace.specs.Guests.{Thread, waits, newborn, stack_end}
use Rattle.run_trace.specs.Local.{EventSoFar}
use Rattle.run_trace.specs.Steps.{say, enter, thread_in, slots_out, birth_in, next_name, birth}

pub born : (me : ℕ) (reason : Why) (entry a0 priority slot sp : ℕ) (t : Tid) (x : Thread) (d said out counted inside : EventSoFar)
    → t ≡ next_name me d → sp ≡ stack_end slot → said ≡ say (Born t reason entry a0 0 sp slot) d → out ≡ slots_out (slot ∷ []) said → counted ≡ birth_in out
    → x ≡ waits wait.No (newborn entry a0 0 sp slot priority) → inside ≡ thread_in t x counted
    → enter t priority (bubble_for reason) inside ≡ birth me reason entry a0 priority slot d
unfolding birth
born me reason entry a0 priority slot sp t x d said out counted inside n s l o b new i = rw (i, new, b, o, l, s, n) refl
