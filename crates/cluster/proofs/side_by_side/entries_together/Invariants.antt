use Rattle.std.proofs.Common.{◌≡◌, ◌+◌, drop}
use Rattle.cluster.specs.SideBySide.{entries_together}
use Rattle.cluster.proofs.side_by_side.entries_together.Given as goal

-- those so far, with what is left, are all
abbrev pub invariant-loop-node : goal.invariant-loop-node
invariant-loop-node l = l.together + entries_together (drop l.node-index l.nodes) ≡ entries_together l.nodes
