-- Lemmas of a thread's memory as a map from slots to blocks. Other crates cite these alone.
use Rattle.std.proofs.Common.{None, Some, get_or, length, set, ℕ, ◌<◌, ◌≡◌, ◌≢◌}
use Rattle.rv_step.specs.Memory.{IsAscending, Memory, block_of, slot_place, slots_of}
use Rattle.rv_step.specs.declared.memory.Held.{Held}
use Rattle.std.specs.Option.{option_map}
use Rattle.std.specs.Prelude.{find, ◌==◌}
use Rattle.rv_step.proofs.AscendingLemmas
use Rattle.rv_step.proofs.MapLemmas
use Rattle.rv_step.proofs.InsideLemmas

-- ## Where a slot stands

-- a slot that stands at an index has that place
pub place_at : (m : Memory) (slot i : ℕ) (d : Held) → IsAscending m → i < length m → (get_or m i d).slot ≡ slot → slot_place m slot ≡ Some i
place_at = AscendingLemmas.place_at

-- a slot that stands at no index has no place
pub no_place : (m : Memory) (slot : ℕ) → ((k : ℕ) (d : Held) → k < length m → (get_or m k d).slot ≢ slot) → slot_place m slot ≡ None
no_place = AscendingLemmas.no_place

-- ## What a slot holds

-- the block of a slot is that of the first entry for the slot
pub block_find : (m : Memory) (s : ℕ) → block_of m s ≡ option_map (λ (h : Held). h.block) (find (λ (h : Held). h.slot == s) m)
block_find = MapLemmas.block_find

-- ## A write into a slot

-- a write of a block keeps the slots
pub slots_set : (m : Memory) (p : ℕ) (held new : Held) → held ≡ get_or m p held → new.slot ≡ held.slot → slots_of (set m p new) ≡ slots_of m
slots_set = InsideLemmas.slots_set
