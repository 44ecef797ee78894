use Rattle.node_loop.proofs.Rounding.{TakesSoFar}
use Rattle.node_loop.proofs.node.Node.take_each.Given as goal

-- the takes from the senders so far are done, and what is known of the others is known still
abbrev pub invariant-loop-sender : goal.invariant-loop-sender
invariant-loop-sender g l = TakesSoFar l.fn.room l.sender l.taken l.fn.self l.self
