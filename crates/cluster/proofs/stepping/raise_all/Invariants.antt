use Rattle.std.proofs.Common.{◌≡◌}
use Rattle.cluster.proofs.Lists.{raised_below}
use Rattle.cluster.proofs.stepping.raise_all.Given as goal

-- the nodes so far are raised
abbrev pub invariant-loop-node : goal.invariant-loop-node
invariant-loop-node l = l.nodes ≡ raised_below l.clock l.node-index l.fn.nodes
