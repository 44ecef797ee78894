use Rattle.std.proofs.Common.{rules, ◌≡◌, Some, subst, IfOk}
use Rattle.run_trace.specs.Local.{EventSoFar}
use Rattle.run_trace.specs.Steps.{thread_at}
use Rattle.node_state.proofs.Granting.{refused_at}
use Rattle.node_state.proofs.event_so_far.EventSoFar.refuses.Goals as goal

pub returns : goal.returns
returns c =
    let here : thread_at c.args.t.now c.args.self.now ≡ Some c.in-Some.thread.now = search rules in
    subst (λ (d : EventSoFar). IfOk c.answer.result (λ _. c.answer.new.self ≡ d))
    (refused_at c.args.t.now c.in-Some.thread.now c.in_ok-count.count c.code.result c.args.self.now c.decides.new.self here c.in_ok-count.ensures.count
    c.code.ensures c.in_ok-decides.ensures)
    c.answer.ensures
