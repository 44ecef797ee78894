use Rattle.std.proofs.Common.{rules, ◌≡◌, Some, ap, ◌∙◌}
use Rattle.std.specs.Prelude.{is_some}
use Rattle.run_trace.specs.Steps.{thread_at}
use Rattle.run_trace.specs.Machine.{free_run}
use Rattle.node_state.proofs.Granting.{has_run_at}
use Rattle.node_state.proofs.event_so_far.EventSoFar.has_run_for.Goals as goal

pub returns : goal.returns
returns c =
    let here : thread_at c.args.t.now c.args.self.now ≡ Some c.in-Some.thread.now = search rules in
    let found : c.lowest_run.result ≡ free_run c.args.self.now.node.slots.free c.in_ok-count.count = search rules in
    has_run_at c.args.t.now c.in-Some.thread.now c.in_ok-count.count c.args.self.now c.is_some.result here c.in_ok-count.ensures.count
    (c.is_some.ensures ∙ ap is_some found)
