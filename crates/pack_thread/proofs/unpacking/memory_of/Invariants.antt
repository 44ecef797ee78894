use Rattle.std.proofs.Common.{◌≡◌, ◌+◌, ◌*◌, ◌≤◌, length, max}
use Rattle.slot_space.specs.Limits.{slot_size}
use Rattle.pack_thread.proofs.Memories.{Granted}
use Rattle.pack_thread.proofs.unpacking.memory_of.Given as goal

abbrev pub invariant-loop-slot : goal.invariant-loop-slot
invariant-loop-slot l = record {
  granted : Granted l.held l.bytes l.slot-index l.memory.0;
  place : l.at ≡ slot_size * l.slot-index;
  room : length l.held ≤ l.memory.1 + l.slot-index;
  spare : l.pool + l.slot-index ≡ max l.fn.pool (length l.held);
}
