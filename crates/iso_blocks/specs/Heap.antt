-- What a thread's block layer is seen as, where a block is placed, and what a free gives back.
use Rattle.std.specs.Prelude.{◌≡◌, ℕ, ◌+◌, ◌*◌, ◌/◌, ◌%◌, ◌<◌, ◌≤◌, Bool, true, false, not, ◌&&◌, List, [], ◌∷◌, Option, Some, None, nat_le, ◌==◌, filter, slice_index_or, if◌then◌else◌}
use Rattle.std.specs.Option.{option_map}
use Rattle.slot_space.specs.Limits.{slots_end}
use Rattle.slot_space.specs.Addresses.{slot_base}
use Rattle.slot_space.specs.Sets.{minus, union, run, has_run, lowest_run, IsSlotSet}
use Rattle.iso_blocks.specs.Bytes.{in_slots, in_blocks, is_met}

-- the live blocks, ascending by address, and the heap slots, ascending
pub record Heap : Type 0 where
  pub live : List (ℕ × ℕ)
  pub slots : List ℕ

-- a size rounded up to a multiple of 16
abbrev pub rounded : ℕ → ℕ
rounded n = (n + 15) / 16 * 16

-- byte x lies in a heap slot and in no live block
abbrev pub is_free : Heap → ℕ → Bool
is_free heap x = in_slots heap.slots x && not (in_blocks heap.live x)

-- `size` bytes fit at an address: it is a multiple of 16, and from there on they are all free
pub record Fits (heap : Heap) (size address : ℕ) : Type 0 where
  pub aligned : address % 16 ≡ 0
  pub free : (x : ℕ) → address ≤ x → x < address + size → is_free heap x ≡ true

-- the lowest address at which `size` bytes fit, or none
abbrev pub IsLowestFit : Heap → ℕ → Option ℕ → Type 0
IsLowestFit heap size None = (address : ℕ) → Fits heap size address → ⊥
IsLowestFit heap size (Some lowest) = Fits heap size lowest × ((address : ℕ) → Fits heap size address → lowest ≤ address)

-- `size` bytes from the address on are all free
abbrev pub has_room : Heap → ℕ → ℕ → Bool
has_room heap size address = has_run (is_free heap) address size

-- the same as a number: the least multiple of 16, below the end of the last slot, from which `size` bytes are free, or none
unfoldable pub place : Heap → ℕ → Option ℕ
place heap size = option_map (λ k. 16 * k) (lowest_run (λ k. has_room heap size (16 * k)) 1 (slots_end / 16))

-- the ascending list with one more block
abbrev pub with_block : ℕ × ℕ → List (ℕ × ℕ) → List (ℕ × ℕ)
with_block b [] = b ∷ []
with_block b (c ∷ blocks) = if nat_le b.0 c.0 then b ∷ c ∷ blocks else c ∷ with_block b blocks

-- the heap after a placing: with the block, where there is an address for it
abbrev pub placed : Heap → ℕ → Option ℕ → Heap
placed heap size None = heap
placed heap size (Some address) = record heap { live = with_block (address, size) heap.live }

-- the heap with the slots from `first` on
abbrev pub with_slots : Heap → ℕ → ℕ → Heap
with_slots heap first count = record heap { slots = union heap.slots (run first count) }

-- a live block starts at the address
abbrev pub starts_at : List (ℕ × ℕ) → ℕ → Bool
starts_at [] address = false
starts_at (b ∷ blocks) address = if b.0 == address then true else starts_at blocks address

-- the block at place k starts at the address
abbrev pub IsBlockAt : List (ℕ × ℕ) → ℕ → ℕ → Type 0
IsBlockAt blocks k address = (b : ℕ × ℕ) → b ≡ slice_index_or blocks k b → b.0 ≡ address

-- the blocks but the one at the address
abbrev pub without : List (ℕ × ℕ) → ℕ → List (ℕ × ℕ)
without blocks address = filter (λ b. not (b.0 == address)) blocks

-- the heap slots that no live block meets once the block at the address is freed
abbrev pub emptied : Heap → ℕ → List ℕ
emptied heap address = filter (λ s. not (is_met (without heap.live address) s)) heap.slots

-- the heap after a free of the block at the address: the emptied slots are given back
abbrev pub freed : Heap → ℕ → Heap
freed heap address = record { live = without heap.live address; slots = minus heap.slots (emptied heap address) }

-- a block's address and size are multiples of 16, and its bytes lie in the slots, of which touching ones are one region
pub record IsBlock (slots : List ℕ) (b : ℕ × ℕ) : Type 0 where
  pub aligned : b.0 % 16 ≡ 0
  pub rounded : b.1 % 16 ≡ 0
  pub some : 16 ≤ b.1
  pub inside : (x : ℕ) → b.0 ≤ x → x < b.0 + b.1 → in_slots slots x ≡ true

-- the blocks are blocks in the slots, the first starts at or after `from`, and each later one at or after the end of the one before
abbrev pub StandFrom : ℕ → List ℕ → List (ℕ × ℕ) → Type 0
StandFrom from slots [] = Unit {0}
StandFrom from slots (b ∷ blocks) = IsBlock slots b × (from ≤ b.0) × StandFrom (b.0 + b.1) slots blocks

-- the live blocks lie in the heap slots, and none meets another
abbrev pub IsSound : Heap → Type 0
IsSound heap = StandFrom 0 heap.slots heap.live

-- the blocks can stand in some set of slots
abbrev pub IsRow : List (ℕ × ℕ) → Type 0
IsRow blocks = (slots : List ℕ) × IsSlotSet slots × StandFrom 0 slots blocks
