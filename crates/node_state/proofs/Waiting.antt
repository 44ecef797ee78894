-- A thread that lowers a semaphore of its node and waits for it.
use Rattle.std.proofs.Common.{◌≡◌, ℕ, List, Option, Some, None, refl, sym, ap, ◌∙◌}
use Rattle.slot_space.specs.declared.names.Tid.{Tid}
use Rattle.marcel_sync.specs.declared.sem.SemRow.{SemRow}
use Rattle.marcel_sync.specs.declared.sem.Pgot.{Pgot}
use Rattle.marcel_sync.specs.declared.sem.Pgot.TheVariants as lowering
use Rattle.marcel_sync.specs.Semaphores.{number_in, lowered}
use Rattle.run_trace.specs.declared.call.Call.{Call}
use Rattle.run_trace.specs.Guests.{Thread}
use Rattle.run_trace.specs.Local.{EventSoFar}
use Rattle.run_trace.specs.Steps.{thread_at, at_found, at_thread, asks_here, asks_waiting, asks, say, keep}
use Rattle.run_trace.specs.Machine.{lowers}
use Rattle.node_state.specs.Asking.{IsHere, waits_here}

-- it asks first, and then waits where it stands
waits_after : (t : Tid) (c : Call) (sems : List SemRow) (d : EventSoFar) → IsHere (thread_at t d)
    → at_thread t (waits_here t) (asks_here t c sems d) ≡ at_thread t (asks_waiting t c sems) d
unfolding asks_here asks_waiting waits_here asks say keep
waits_after t c sems d = by (thread_at t d)
  where
    by : (o : Option Thread) → IsHere o → at_found o (waits_here t) (asks_here t c sems d) ≡ at_found o (asks_waiting t c sems) d
    by None h = absurd h
    by (Some x) h = refl

pub lowered_later : (me : ℕ) (t : Tid) (c : Call) (id : ℕ) (got answer : Pgot) (d mid new : EventSoFar) → IsHere (thread_at t d) → got ≡ lowering.Later → got ≡ answer
    → mid ≡ asks_here t c (lowered (number_in id) (t, me) d.node.sems) d → new ≡ at_thread t (waits_here t) mid
    → new ≡ lowers me t c id answer d
lowered_later me t c id got answer d mid new here later same m n =
    n ∙ ap (at_thread t (waits_here t)) m ∙ waits_after t c (lowered (number_in id) (t, me) d.node.sems) d here
    ∙ ap (λ (g : Pgot). lowers me t c id g d) (sym later ∙ same)
