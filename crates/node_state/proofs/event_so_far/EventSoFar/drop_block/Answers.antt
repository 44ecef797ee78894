use Rattle.std.proofs.Common.{rules, ◌≡◌, Some, subst}
use Rattle.run_trace.specs.Steps.{thread_at}
use Rattle.node_state.specs.Asking.{HasBlock}
use Rattle.node_state.proofs.event_so_far.EventSoFar.drop_block.Goals as goal

pub free-requires : goal.free-requires
free-requires c =
    let here : thread_at c.args.t.now c.args.self.now ≡ Some c.in-Some.thread.now = search rules in
    subst (HasBlock c.args.address) here c.requires
