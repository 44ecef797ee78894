use Rattle.std.proofs.Common.{◌≡◌, ◌++◌}
use Rattle.std.specs.List.{flat_map}
use Rattle.picture_texts.specs.PajeHead.{thread_container}
use Rattle.picture_texts.proofs.paje_head.push_threads.Given as goal

abbrev pub invariant-loop-t : goal.invariant-loop-t
invariant-loop-t l = l.out.items ++ flat_map thread_container l.t-iterator ≡ l.fn.out.items ++ flat_map thread_container l.lanes.entries
