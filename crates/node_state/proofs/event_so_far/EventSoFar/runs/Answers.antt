use Rattle.std.proofs.Common.{rules, ◌≡◌, Some, ap}
use Rattle.run_trace.specs.Steps.{keep, thread_at}
use Rattle.node_thread.specs.Runs.{run_at}
use Rattle.node_state.proofs.Choices.{ran_is}
use Rattle.node_state.proofs.event_so_far.EventSoFar.runs.Goals as goal

pub returns-clause-after : goal.returns-clause-after
unfolding keep
returns-clause-after c =
    let here : thread_at c.args.t.now c.args.self.now ≡ Some c.in-Some.thread.now = search rules in
    rw here (ran_is c.args.t.now c.args.vp (run_at c.args.image.now.bytes c.args.quantum c.in-Some.thread.now) c.in-Some.thread.now c.args.self.now _ c.say.new.self _ _
    (search rules) c.run-ran.ensures.count c.run-ran.ensures.stop c.in_ok-say.ensures)

pub returns-clause-stop : goal.returns-clause-stop
returns-clause-stop c =
    let here : thread_at c.args.t.now c.args.self.now ≡ Some c.in-Some.thread.now = search rules in
    rw here (ap Some c.run-ran.ensures.stop)
