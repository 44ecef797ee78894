use Rattle.std.proofs.Common.{◌≡◌, ◌+◌, ◌≤◌, ◌++◌, length, vec_len, vec_capacity}
use Rattle.std.specs.Vec.Iter.{into_iter_items}
use Rattle.pack_thread.specs.Threads.{AreWhole}
use Rattle.pack_thread.specs.Moving.{blocks_of}
use Rattle.pack_thread.proofs.splitting.push_blocks.Given as goal

abbrev pub invariant-loop-held : goal.invariant-loop-held
invariant-loop-held l = record {
  all : l.yielded ++ into_iter_items l.held-iterator ≡ l.fn.mem.0;
  blocks : l.blocks.items ≡ blocks_of l.yielded;
  whole : AreWhole l.yielded;
  room : vec_len l.blocks + length (into_iter_items l.held-iterator) ≤ vec_capacity l.blocks;
}
