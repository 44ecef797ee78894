use Rattle.std.proofs.Common.{◌≡◌, ◌-◌, ◌≤◌}
use Rattle.slot_space.specs.Limits.{slot_limit}
use Rattle.iso_blocks.specs.Kept.{IsKept}
use Rattle.iso_blocks.proofs.HeapSets.{IsLeft}
use Rattle.iso_blocks.proofs.layout.Layout.drop_slots.Given as goal

abbrev pub invariant-loop-slot : goal.invariant-loop-slot
invariant-loop-slot l = record {
  kept : IsKept l.self;
  live : l.self.live.items ≡ l.initial.self.live.items;
  heap : IsLeft l.from l.slots l.initial.self.heap l.self.heap;
  small : l.from ≤ slot_limit;
}

abbrev pub decreases-loop-slot : goal.decreases-loop-slot
decreases-loop-slot l = slot_limit - l.from
