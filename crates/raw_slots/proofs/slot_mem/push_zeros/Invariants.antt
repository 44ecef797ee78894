use Rattle.std.proofs.Common.{◌≡◌, vec_len, vec_capacity}
use Rattle.std.specs.Vec.{vec_ptr}
use Rattle.raw_slots.specs.Zeros.{zeros}
use Rattle.raw_slots.proofs.slot_mem.push_zeros.Given as goal

abbrev pub invariant-loop-n : goal.invariant-loop-n
invariant-loop-n l = record {
  items : l.bytes.items ≡ zeros l._n;
  len : vec_len l.bytes ≡ l._n;
  ptr : vec_ptr l.bytes ≡ vec_ptr l.initial.bytes;
  capacity : vec_capacity l.bytes ≡ vec_capacity l.initial.bytes;
}
