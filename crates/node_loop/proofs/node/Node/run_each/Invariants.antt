use Rattle.node_loop.proofs.Rounding.{RunsSoFar}
use Rattle.node_loop.proofs.node.Node.run_each.Given as goal

-- the processors so far have been asked
abbrev pub invariant-loop-vp : goal.invariant-loop-vp
invariant-loop-vp g l = RunsSoFar l.fn.room l.vp l.ran l.fn.self l.self
