use Rattle.pack_thread.specs.Threads.{thread_of, IsThread}
use Rattle.bench.proofs.packing.moved.Given as goal

abbrev pub invariant-loop-n : goal.invariant-loop-n
invariant-loop-n l = IsThread (thread_of l.thread)
