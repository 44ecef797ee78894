use Rattle.std.proofs.Common.{rules, ◌≡◌, Some, subst, IfOk}
use Rattle.run_trace.specs.Local.{EventSoFar}
use Rattle.run_trace.specs.Steps.{thread_at}
use Rattle.node_state.proofs.Granting.{served_at}
use Rattle.node_state.proofs.event_so_far.EventSoFar.serves.Goals as goal

pub returns : goal.returns
returns c =
    let here : thread_at c.args.t.now c.args.self.now ≡ Some c.in-Some.thread.now = search rules in
    subst (λ (d : EventSoFar). IfOk c.serves_call.result (λ _. c.serves_call.new.self ≡ d))
    (served_at c.args.here.now.me c.args.t.now c.in-Some.thread.now c.call-call.result c.args.self.now here c.call-call.ensures)
    c.serves_call.ensures
