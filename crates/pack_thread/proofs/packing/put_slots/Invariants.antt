use Rattle.std.proofs.Common.{ℕ}
use Rattle.pack_thread.proofs.WriteSteps.{SlotsWritten}
use Rattle.pack_thread.proofs.packing.put_slots.Given as goal

abbrev pub invariant-loop-slot : goal.invariant-loop-slot
invariant-loop-slot l = (stack : ℕ) → SlotsWritten l.fn.bytes.items l.bytes.items l.slots l.slot-index stack
