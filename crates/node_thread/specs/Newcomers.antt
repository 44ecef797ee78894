-- A thread that comes, as it is once its packet is opened.
use Rattle.pack_thread.specs.Threads.{PackedThread as Packed}
use Rattle.run_trace.specs.declared.node.Wait.TheVariants as wait
use Rattle.run_trace.specs.Guests.{waits, unpacked}
use Rattle.run_trace.specs.Machine.{is_unserving}
use Rattle.node_thread.specs.declared.newcomer.Newcomer.{Newcomer}

abbrev pub newcomer_of : Packed → Newcomer
newcomer_of x = record { tid = x.tid; unserving = is_unserving x; thread = waits wait.No (unpacked x) }
