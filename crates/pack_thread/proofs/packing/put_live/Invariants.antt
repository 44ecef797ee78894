use Rattle.pack_thread.proofs.WriteSteps.{LiveWritten}
use Rattle.pack_thread.proofs.packing.put_live.Given as goal

abbrev pub invariant-loop-block : goal.invariant-loop-block
invariant-loop-block l = LiveWritten l.fn.bytes.items l.bytes.items l.live l.slots l.block-index
