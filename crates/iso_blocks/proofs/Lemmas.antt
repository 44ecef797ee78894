-- Lemmas of blocks in slots. Other crates cite these alone.
use Rattle.std.proofs.Common.{List, None, Some, false, true, ℕ, ◌+◌, ◌<◌, ◌||◌, ◌≡◌, ◌≤◌}
use Rattle.iso_blocks.specs.Bytes.{in_blocks, in_slots, is_met, lies_in}
use Rattle.iso_blocks.specs.Heap.{Fits, Heap, place, with_block}
use Rattle.slot_space.specs.Addresses.{HoldsAddress, slot_base}
use Rattle.slot_space.specs.Limits.{slot_limit}
use Rattle.slot_space.specs.Sets.{IsSlotSet, has}
use Rattle.iso_blocks.proofs.Fit
use Rattle.iso_blocks.proofs.KeptBy
use Rattle.iso_blocks.proofs.LiveBlocks
use Rattle.iso_blocks.proofs.Place
use Rattle.iso_blocks.proofs.SlotBytes

-- ## Bytes

-- a byte that lies between two ends is at the first or past it, and below the second
pub lies_in-true : (from end x : ℕ) → lies_in from end x ≡ true → (from ≤ x) × (x < end)
lies_in-true = Fit.lies_in-true

-- ## Bytes in slots

-- bytes in slots lie within the memory of all slots
pub slots_within : (slots : List ℕ) (a n : ℕ) → IsSlotSet slots → 0 < n → ((x : ℕ) → a ≤ x → x < a + n → in_slots slots x ≡ true) → (slot_base 0 ≤ a) × (a + n ≤ slot_base slot_limit)
slots_within = KeptBy.slots_within

-- ## Live blocks

-- the bytes of live blocks with one block more are theirs and its own
pub in_blocks-with_block : (b : ℕ × ℕ) (live : List (ℕ × ℕ)) (x : ℕ) → in_blocks (with_block b live) x ≡ (in_blocks live x || lies_in b.0 (b.0 + b.1) x)
in_blocks-with_block = LiveBlocks.in_blocks-with_block

-- ## The place of a block

-- a block fits where it is placed
pub place_fits : (h : Heap) (size : ℕ) → (a : ℕ) → place h size ≡ Some a → Fits h size a
place_fits = Place.place_fits

-- a block that has no place fits nowhere
pub place_none : (h : Heap) (size : ℕ) → (a : ℕ) → place h size ≡ None → a < slot_base slot_limit → Fits h size a → ⊥
place_none = Place.place_none

-- ## Slots of bytes

-- a byte of a slot lies in the slots exactly where that slot is one of them
pub in_slots-has : (slots : List ℕ) (s x : ℕ) → HoldsAddress s x → in_slots slots x ≡ has s slots
in_slots-has = SlotBytes.in_slots-has

-- a byte that lies in the slots lies in one of them
pub in_slots-some : (slots : List ℕ) (x : ℕ) → in_slots slots x ≡ true → (s : ℕ) × (has s slots ≡ true) × HoldsAddress s x
in_slots-some = SlotBytes.in_slots-some

-- where no block meets a slot, its bytes lie in no block
pub is_met-false : (live : List (ℕ × ℕ)) (s x : ℕ) → is_met live s ≡ false → HoldsAddress s x → in_blocks live x ≡ false
is_met-false = SlotBytes.is_met-false

-- a byte lies in one slot alone
pub same_slot : (s t x : ℕ) → HoldsAddress s x → HoldsAddress t x → s ≡ t
same_slot = SlotBytes.same_slot
