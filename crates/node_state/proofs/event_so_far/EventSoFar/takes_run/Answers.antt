use Rattle.std.proofs.Common.{rules, ◌≡◌, Some, subst}
use Rattle.run_trace.specs.Steps.{thread_at}
use Rattle.node_state.specs.Heaps.{IsNewAt}
use Rattle.node_state.proofs.event_so_far.EventSoFar.takes_run.Goals as goal

pub take-requires-clause-new : goal.take-requires-clause-new
take-requires-clause-new c =
    let here : thread_at c.args.t.now c.args.self.now ≡ Some c.in-Some.thread.now = search rules in
    subst (IsNewAt c.args.first c.args.count) here c.requires.1
