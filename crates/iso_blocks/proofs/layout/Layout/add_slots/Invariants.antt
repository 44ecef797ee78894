use Rattle.std.proofs.Common.{◌≡◌, ◌+◌, ◌-◌, ◌*◌, ◌≤◌, vec_capacity}
use Rattle.iso_blocks.specs.Heap.{with_slots}
use Rattle.iso_blocks.specs.Kept.{heap_of, holes_to_be, IsKept}
use Rattle.iso_blocks.proofs.layout.Layout.add_slots.Given as goal

abbrev pub invariant-loop-slot : goal.invariant-loop-slot
invariant-loop-slot l = record {
  kept : IsKept l.self;
  heap : heap_of l.self ≡ with_slots (heap_of l.initial.self) l.first (l.slot - l.first);
  room : holes_to_be l.self + 2 * (l.slot-end - l.slot) ≤ vec_capacity l.self.holes;
}
