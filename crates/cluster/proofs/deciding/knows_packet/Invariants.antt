use Rattle.std.proofs.Common.{◌≡◌, ◌-◌}
use Rattle.slot_space.specs.Sets.{run}
use Rattle.cluster.specs.Between.{knows_of, knows_packet}
use Rattle.cluster.proofs.deciding.knows_packet.Given as goal

-- what is left says it of all
abbrev pub invariant-loop-sender : goal.invariant-loop-sender
invariant-loop-sender l = knows_of l.node (run l.sender (l.count - l.sender)) ≡ knows_packet l.node
