use Rattle.std.proofs.Common.{◌≡◌, ◌≤◌, ◌+◌, ◌-◌, length}
use Rattle.slot_space.specs.Sets.{run}
use Rattle.run_trace.specs.Program.{nodes_of}
use Rattle.cluster.specs.Between.{takes_from}
use Rattle.cluster.proofs.choosing.known_senders.Given as goal

-- those so far and those of what is left are all
abbrev pub invariant-loop-sender : goal.invariant-loop-sender
invariant-loop-sender l = record {
  all : l.known + length (takes_from l.node (run l.sender (nodes_of l.node.program - l.sender))) ≡ length (takes_from l.node (run 0 (nodes_of l.node.program)));
  few : l.known ≤ l.sender;
}
