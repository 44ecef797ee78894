use Rattle.std.proofs.Common.{◌≡◌, drop}
use Rattle.cluster.specs.Between.{any_of, has_row}
use Rattle.cluster.proofs.deciding.any_ready.Given as goal

-- what is left says it of all
abbrev pub invariant-loop-node : goal.invariant-loop-node
invariant-loop-node l = any_of has_row (drop l.node-index l.nodes) ≡ any_of has_row l.nodes
