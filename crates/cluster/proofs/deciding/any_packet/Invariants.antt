use Rattle.std.proofs.Common.{◌≡◌, drop}
use Rattle.cluster.specs.Between.{any_of, knows_packet}
use Rattle.cluster.proofs.deciding.any_packet.Given as goal

-- what is left says it of all
abbrev pub invariant-loop-node : goal.invariant-loop-node
invariant-loop-node l = any_of knows_packet (drop l.node-index l.nodes) ≡ any_of knows_packet l.nodes
