use Rattle.std.proofs.Common.{◌≡◌, IfOk, subst, sym, ◌∙◌, refl}
use Rattle.run_trace.specs.Local.{EventSoFar}
use Rattle.node_state.proofs.Coming.{came}
use Rattle.node_state.proofs.event_so_far.EventSoFar.takes_thread.Goals as goal

pub returns-then-may_enter : goal.returns-then-may_enter
returns-then-may_enter c =
    subst (λ (d : EventSoFar). IfOk c.enters.result (λ _. c.enters.new.self ≡ d))
    (came c.args.here.now.program.now c.args.here.now.me c.args.from c.args.packed c.in_ok-newcomer.newcomer c.args.self.now c.args.self.now refl
    c.in_ok-newcomer.ensures c.requires (sym c.may_enter.ensures ∙ c.if-may_enter.true))
    c.enters.ensures
