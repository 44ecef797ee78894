use Rattle.std.proofs.Common.{◌≡◌, drop}
use Rattle.cluster.specs.SideBySide.{all_stand}
use Rattle.cluster.proofs.side_by_side.all_stand.Given as goal

-- what is left says it of all
abbrev pub invariant-loop-node : goal.invariant-loop-node
invariant-loop-node l = all_stand (drop l.node-index l.nodes) ≡ all_stand l.nodes
