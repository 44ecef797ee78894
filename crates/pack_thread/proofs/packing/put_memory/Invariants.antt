use Rattle.std.proofs.Common.{◌≡◌, ◌++◌, take}
use Rattle.pack_thread.specs.Threads.{bytes_of, AreWhole}
use Rattle.pack_thread.proofs.packing.put_memory.Given as goal

abbrev pub invariant-loop-slot : goal.invariant-loop-slot
invariant-loop-slot l = record {
  text : l.bytes.items ≡ l.fn.bytes.items ++ bytes_of (take l.slot-index l.memory.0);
  whole : AreWhole (take l.slot-index l.memory.0);
}
