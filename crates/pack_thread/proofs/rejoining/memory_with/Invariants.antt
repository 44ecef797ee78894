use Rattle.std.proofs.Common.{◌≡◌, ◌+◌, ◌≤◌, ◌++◌, length, take, vec_len, vec_capacity}
use Rattle.std.specs.Vec.Iter.{into_iter_items}
use Rattle.rv_step.specs.Memory.{slots_of}
use Rattle.pack_thread.specs.Threads.{AreWhole}
use Rattle.pack_thread.specs.Moving.{blocks_of}
use Rattle.pack_thread.proofs.rejoining.memory_with.Given as goal

abbrev pub invariant-loop-block : goal.invariant-loop-block
invariant-loop-block l = record {
  all : l.yielded ++ into_iter_items l.block-iterator ≡ l.fn.blocks.items;
  at : l.at ≡ length l.yielded;
  slots : slots_of l.all.items ≡ take l.at l.held;
  blocks : blocks_of l.all.items ≡ l.yielded;
  whole : AreWhole l.all.items;
  room : vec_len l.all + length (into_iter_items l.block-iterator) ≤ vec_capacity l.all;
}
