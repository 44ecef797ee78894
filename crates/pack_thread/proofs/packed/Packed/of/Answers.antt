use Rattle.pack_thread.specs.Threads.{thread_of}
use Rattle.pack_thread.proofs.TextThreads.{moving_thread, moving_again}
use Rattle.pack_thread.proofs.packed.Packed.of.Goals as goal

pub invariant_of-result : goal.invariant_of-result
invariant_of-result c = moving_again c.in-Ok.moving (thread_of c.args.b) c.in-Ok.ensures.moving

pub returns-in-Ok-clause-thread : goal.returns-in-Ok-clause-thread
returns-in-Ok-clause-thread c = moving_thread c.in-Ok.moving (thread_of c.args.b) c.in-Ok.ensures.moving
