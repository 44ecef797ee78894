-- What the checks of a call come to in code is what the machine takes.
use Rattle.std.proofs.Common.{◌≡◌, ℕ, List, Option, Some, None, refl, sym, ap, ◌∙◌}
use Rattle.slot_space.specs.declared.names.Tid.{Tid}
use Rattle.slot_space.specs.declared.names.Reply.{Reply}
use Rattle.rv_step.specs.declared.hart.Stop.{Stop}
use Rattle.rv_step.specs.declared.hart.Stop.TheVariants as stops
use Rattle.run_trace.specs.declared.call.Call.{Call}
use Rattle.run_trace.specs.declared.call.Call.TheVariants.{Print}
use Rattle.run_trace.specs.Program.{Program}
use Rattle.run_trace.specs.Guests.{Thread}
use Rattle.run_trace.specs.Calls.{bytes_of, refusal, call_of}
use Rattle.run_trace.specs.Local.{EventSoFar}
use Rattle.run_trace.specs.Steps.{thread_at, at_found, at_thread, asks, asks_show, say}
use Rattle.run_trace.specs.Machine.{calls, does, stopped}
use Rattle.node_state.specs.declared.call.Checked.{Checked}
use Rattle.node_state.specs.declared.call.Checked.TheVariants.{Refused, Shows, Passed}
use Rattle.node_state.specs.Asking.{IsChecked, IsPrint, CanBeDone, refused_by, named_by}

-- a thread that asks stays where it is
pub asked : (t u : Tid) (c : Call) (d : EventSoFar) → thread_at u (asks t c d) ≡ thread_at u d
unfolding asks say
asked t u c d = refl

-- a print is done by showing its line
pub shown : (p : Program) (me : ℕ) (t : Tid) (c : Call) (bytes : List ℕ) (d : EventSoFar) → IsPrint c → at_thread t (asks_show t c bytes) d ≡ does p me t c bytes d
shown p me t (Print address len) bytes d h = refl
shown p me t _ bytes d h = absurd h

calls_is : (p : Program) (me : ℕ) (t : Tid) (x : Thread) (c : Call) (checked : Checked) (d : EventSoFar) → IsChecked p t x.guest.solo c checked
    → calls p me t c (refused_by checked) (named_by checked) d ≡ calls p me t c (refusal p t x.guest.solo c) (bytes_of p x.guest.solo.state c) d
calls_is p me t x c (Refused reply) d h = ap (λ (o : Option Reply). calls p me t c o (bytes_of p x.guest.solo.state c) d) (sym h)
calls_is p me t x c (Shows bytes) d h =
    ap (λ (b : List ℕ). calls p me t c None b d) h.bytes ∙ ap (λ (o : Option Reply). calls p me t c o (bytes_of p x.guest.solo.state c) d) (sym h.unrefused)
calls_is p me t x c Passed d h =
    ap (λ (b : List ℕ). calls p me t c None b d) h.bytes ∙ ap (λ (o : Option Reply). calls p me t c o (bytes_of p x.guest.solo.state c) d) (sym h.unrefused)

-- a call that is checked can be done by its thread
pub can_be_done : (p : Program) (t : Tid) (x : Thread) (c : Call) (checked : Checked) → IsChecked p t x.guest.solo c checked → CanBeDone c (Some x) checked
can_be_done p t x c (Refused reply) h = tt
can_be_done p t x c (Shows bytes) h = h.print
can_be_done p t x c Passed h = (h.small, h.block, tt)

-- a thread that stops at a call asks it
pub stop_is : (p : Program) (me : ℕ) (t : Tid) (stop : Stop) (x : Thread) (c : Call) (checked : Checked) (d : EventSoFar)
    → stop ≡ stops.Call → thread_at t d ≡ Some x → c ≡ call_of x.guest.solo.state → IsChecked p t x.guest.solo c checked
    → calls p me t c (refused_by checked) (named_by checked) d ≡ at_thread t (stopped p me t stop) d
stop_is p me t stop x c checked d at here same h =
    calls_is p me t x c checked d h
    ∙ ap (λ (k : Call). calls p me t k (refusal p t x.guest.solo k) (bytes_of p x.guest.solo.state k) d) same
    ∙ sym (ap (λ s. at_thread t (stopped p me t s) d) at ∙ ap (λ o. at_found o (stopped p me t stops.Call) d) here)
