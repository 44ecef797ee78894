use Rattle.node_thread.proofs.Aligned.{run_owns, run_travels}
use Rattle.node_thread.proofs.thread.Thread.run.Goals as goal

pub invariant_of-self : goal.invariant_of-self
invariant_of-self c = (
  run_owns c.self.inside.stack c.self.inside.hart c.run.new.self c.self.inside.slots c.self.inside.blocks c.run.ensures.keeps c.self.invariant.0,
  run_travels c.args.image.now.bytes c.self.inside.priority c.run.result.count c.self.inside.hart c.run.new.self c.run.ensures.steps c.run.ensures.keeps c.self.invariant.1,
)
