use Rattle.std.proofs.Common.{◌≡◌, drop, max}
use Rattle.cluster.specs.View.{greatest_clock}
use Rattle.cluster.proofs.stepping.next_clock.Given as goal

-- the greatest so far, with what is left, is that of all
abbrev pub invariant-loop-node : goal.invariant-loop-node
invariant-loop-node l = max l.greatest (greatest_clock (drop l.node-index l.nodes)) ≡ greatest_clock l.nodes
