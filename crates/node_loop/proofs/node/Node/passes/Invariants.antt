use Rattle.node_loop.proofs.Rounding.{PassesSoFar}
use Rattle.node_loop.proofs.node.Node.passes.Given as goal

-- so many passes are done, and there is room for so many events more
abbrev pub invariant-loop-n : goal.invariant-loop-n
invariant-loop-n g l = PassesSoFar l.fn.events l._n l.left l.fn.self l.self
