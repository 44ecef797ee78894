-- A thread that comes by its parts is the one of the packet.
use Rattle.std.proofs.Common.{◌≡◌, ℕ, Bool, true, not, cond, sym, ap, ◌∙◌}
use Rattle.pack_thread.specs.Threads.{PackedThread as Packed}
use Rattle.run_trace.specs.declared.packet.Body.TheVariants.{Mover}
use Rattle.run_trace.specs.Program.{Program}
use Rattle.run_trace.specs.Local.{EventSoFar, nothing}
use Rattle.run_trace.specs.Steps.{comes}
use Rattle.run_trace.specs.Machine.{may_come, takes}
use Rattle.node_thread.specs.declared.newcomer.Newcomer.{Newcomer}
use Rattle.node_thread.specs.Newcomers.{newcomer_of}
use Rattle.node_state.specs.Moves.{may_enter, enters}

pub came : (p : Program) (me from : ℕ) (x : Packed) (n : Newcomer) (d old : EventSoFar) → d ≡ old → n ≡ newcomer_of x → old ≡ nothing old.node
    → may_enter p me d.node n ≡ true → enters n d ≡ takes p me from (Mover x) old.node
unfolding comes
came p me from x n d old seen is fresh may =
    let expected : may_come p me old.node x ≡ true = sym (ap (λ (e : EventSoFar). may_enter p me e.node n) seen ∙ ap (may_enter p me old.node) is) ∙ may in
    ap (enters n) seen ∙ ap (λ (m : Newcomer). enters m old) is ∙ ap (enters (newcomer_of x)) fresh
    ∙ sym (ap (λ (b : Bool). cond (not b) (nothing old.node) (comes x (nothing old.node))) expected)
