use Rattle.node_thread.proofs.Travel.{can_travel}
use Rattle.node_thread.proofs.thread.Thread.pack.Goals as goal

pub of-requires : goal.of-requires
of-requires c = can_travel c.args.t.now c.self.inside.priority c.self.inside.stack c.self.inside.hart c.self.inside.slots c.self.inside.blocks
    c.requires c.are_all.ensures c.contains-stack.ensures.proper c.heap_slots-sound.ensures.sound c.self.invariant.0 c.self.invariant.1
