-- What the parts of the block layer keep of one another.
use Rattle.std.specs.Prelude.{◌≡◌, ℕ, ◌+◌, ◌≤◌, length, vec_capacity}
use Rattle.slot_space.specs.Sets.{has, IsSlotSet}
use Rattle.iso_blocks.specs.declared.layout.Layout.{Layout}
use Rattle.iso_blocks.specs.Bytes.{is_met}
use Rattle.iso_blocks.specs.Heap.{Heap, is_free, IsSound}
use Rattle.iso_blocks.specs.Holes.{in_holes, StandApart}

-- the heap that the parts stand for
abbrev pub heap_of : Layout → Heap
heap_of l = record { live = l.live.items; slots = l.heap }

-- how many holes there can be after frees, which take no memory: each free and each slot that it gives back makes at most one more
abbrev pub holes_to_be : Layout → ℕ
holes_to_be l = length l.holes.items + length l.live.items + length l.heap

-- the blocks stand in order in the slots, the holes are the free bytes, merged, and there is room for the holes that frees can make
pub record IsKept (l : Layout) : Type 0 where
  pub sound : IsSound (heap_of l)
  pub proper : IsSlotSet l.heap
  pub apart : StandApart 0 l.holes.items
  pub bytes : (x : ℕ) → in_holes l.holes.items x ≡ is_free (heap_of l) x
  pub met : (s : ℕ) → has s l.met ≡ is_met l.live.items s
  pub counted : l.slots ≡ length l.heap
  pub room : holes_to_be l ≤ vec_capacity l.holes
