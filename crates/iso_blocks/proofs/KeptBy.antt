-- The parts of the block layer stay in step through each of its four changes.
use Rattle.std.proofs.Common.{refl, sym, ◌∙◌, ap, ◌≡◌, ℕ, ◌+◌, ◌-◌, ◌%◌, ◌<◌, ◌≤◌, Bool, true, false, List, [], ◌∷◌, length, get_or, arith, not, ◌||◌, ◌&&◌, cond, vec_capacity, suc, drop}
use Rattle.std.proofs.lemmas.Bool.{true≢false, le-leb, lt-ltb, and_parts, not-true}
use Rattle.slot_space.specs.Limits.{slots_end, slot_size, slot_limit}
use Rattle.slot_space.specs.Sets.{has, insert, union, minus, run, IsSlotSet}
use Rattle.slot_space.specs.Addresses.{slot_base, HoldsAddress}
use Rattle.slot_space.proofs.Lemmas.{has-union, ascending-insert, ascending-minus, below-insert, below-minus, length-insert, length-minus}
use Rattle.iso_blocks.specs.declared.layout.Layout.{Layout}
use Rattle.iso_blocks.specs.Bytes.{lies_in, in_slots, in_blocks, is_met}
use Rattle.iso_blocks.specs.Heap.{IsBlock, with_block, without, Fits}
use Rattle.iso_blocks.specs.Holes.{AreFree, AreTaken, cut, join}
use Rattle.iso_blocks.specs.Kept.{heap_of, IsKept}
use Rattle.iso_blocks.proofs.Fit.{lies_in-true}
use Rattle.iso_blocks.proofs.Edits.{in_holes-cut, StandApart-cut, length-cut, in_holes-join, StandApart-join, length-join}
use Rattle.iso_blocks.proofs.LiveBlocks.{StandFrom-with_block, StandFrom-without, StandFrom-slots, is_met-with_block, in_blocks-in_slots, block_at}
use Rattle.iso_blocks.proofs.SlotBytes.{in_slots-some, in_slots-insert, in_slots-minus, is_met-false, meets-run}
use Rattle.iso_blocks.proofs.FreeBytes.{is_free-with_block, is_free-without, is_free-insert, is_free-minus, slot_is_free, slot_is_taken, block_is_taken}
use Rattle.std.specs.Prelude.{nat_lt, nat_le}
use Rattle.iso_blocks.specs.Neighbours.{end_before, start_of, Owns}
use Rattle.iso_blocks.proofs.Beside.{is_met-gone}
use Rattle.iso_blocks.proofs.Lengths.{length-with_block, length-without}

-- bytes that fit lie in holes
pub fits_free : (l : Layout) (size a : ℕ) → IsKept l → Fits (heap_of l) size a → AreFree l.holes.items a (a + size)
fits_free l size a k f x lo hi = k.bytes x ∙ f.free x lo hi

-- what fits is a block
pub fits_block : (l : Layout) (size a : ℕ) → Fits (heap_of l) size a → 16 ≤ size → size % 16 ≡ 0 → IsBlock l.heap (a, size)
fits_block l size a f some whole =
    record {
      aligned = f.aligned;
      rounded = whole;
      some = some;
      inside = λ x lo hi. (and_parts (in_slots l.heap x) (not (in_blocks l.live.items x)) (f.free x lo hi)).0;
    }

-- bytes in slots lie within the memory of all slots
pub slots_within : (slots : List ℕ) (a n : ℕ) → IsSlotSet slots → 0 < n → ((x : ℕ) → a ≤ x → x < a + n → in_slots slots x ≡ true) → (slot_base 0 ≤ a) × (a + n ≤ slots_end)
slots_within slots a n proper some inside =
    let first = in_slots-some slots a (inside a (omega arith) (omega arith)) in
    let last = in_slots-some slots (a + n - 1) (inside (a + n - 1) (omega arith) (omega arith)) in
    let small = proper.small last.0 last.1 in
    (omega (arith, first.2.0), omega (arith, last.2.1, small))

-- what fits lies within the memory of all slots
pub fits_within : (l : Layout) (size a : ℕ) → IsKept l → Fits (heap_of l) size a → 16 ≤ size → (slot_base 0 ≤ a) × (a + size ≤ slots_end)
fits_within l size a k f some =
    slots_within l.heap a size k.proper (omega arith) (λ x lo hi. (and_parts (in_slots l.heap x) (not (in_blocks l.live.items x)) (f.free x lo hi)).0)

-- a live block lies within the memory of all slots
pub block_within : (l : Layout) (k : ℕ) (b : ℕ × ℕ) → IsKept l → k < length l.live.items → b ≡ get_or l.live.items k b → (slot_base 0 ≤ b.0) × (b.0 + b.1 ≤ slots_end) × (16 ≤ b.1)
block_within l k b kept within read =
    let block = block_at 0 l.heap l.live.items b k kept.sound within read in
    let w = slots_within l.heap b.0 b.1 kept.proper (omega (arith, block.some)) block.inside in
    (w.0, w.1, block.some)

-- a block comes in
pub record Settles (l m : Layout) (a size first count last : ℕ) : Type 0 where
  pub live : m.live.items ≡ with_block (a, size) l.live.items
  pub holes : m.holes.items ≡ cut a (a + size) l.holes.items
  pub heap : m.heap ≡ l.heap
  pub met : m.met ≡ union l.met (run first count)
  pub slots : m.slots ≡ l.slots
  pub room : length l.holes.items + length l.live.items + length l.heap + 2 ≤ vec_capacity m.holes
  pub starts : HoldsAddress first a
  pub ends : HoldsAddress last (a + size - 1)
  pub counts : first + count ≡ last + 1

pub kept-occupy : (l m : Layout) (a size first count last : ℕ) → IsKept l → Fits (heap_of l) size a → 16 ≤ size → size % 16 ≡ 0 → Settles l m a size first count last → IsKept m
kept-occupy l m a size first count last k f some whole g =
    let free = fits_free l size a k f in
    record {
      sound = rw (g.live, g.heap) (StandFrom-with_block 0 l.heap (a, size) l.live.items k.sound (fits_block l size a f some whole) (omega arith)
          (λ x lo hi. not-true (in_blocks l.live.items x) (and_parts (in_slots l.heap x) (not (in_blocks l.live.items x)) (f.free x lo hi)).1));
      proper = rw g.heap k.proper;
      apart = rw g.holes (StandApart-cut 0 a (a + size) l.holes.items (omega arith) (omega (arith, f.aligned, whole)) k.apart free);
      bytes = λ x. rw (g.holes, g.live, g.heap) (in_holes-cut 0 a (a + size) l.holes.items (omega arith) k.apart free x
          ∙ ap (λ b. b && not (lies_in a (a + size) x)) (k.bytes x) ∙ sym (is_free-with_block (a, size) l.live.items l.heap x));
      met = λ s. rw (g.met, g.live) (has-union s l.met (run first count) ∙ either (has s l.met) (has s (run first count))
          ∙ rw (k.met s, sym (meets-run a size s first last count (omega arith) g.starts g.ends g.counts)) (sym (is_met-with_block (a, size) l.live.items s)));
      counted = rw (g.slots, g.heap) k.counted;
      room = let c = length-cut a (a + size) l.holes.items in let n = length-with_block (a, size) l.live.items in
          omega (arith, c, n, g.room, ap length g.holes, ap length g.live, ap length g.heap);
    }
  where
    either : (p q : Bool) → cond p true q ≡ (p || q)
    either true q = refl
    either false q = refl

-- a slot comes in
pub record Grows (l m : Layout) (s : ℕ) : Type 0 where
  pub live : m.live.items ≡ l.live.items
  pub holes : m.holes.items ≡ join (slot_base s) (slot_base s + slot_size) l.holes.items
  pub heap : m.heap ≡ insert s l.heap
  pub met : m.met ≡ l.met
  pub slots : m.slots ≡ l.slots + 1
  pub room : length l.holes.items + length l.live.items + length l.heap + 2 ≤ vec_capacity m.holes

pub kept-grow : (l m : Layout) (s : ℕ) → IsKept l → s < slot_limit → has s l.heap ≡ false → Grows l m s → IsKept m
kept-grow l m s k small new g =
    let taken : AreTaken l.holes.items (slot_base s) (slot_base s + slot_size) = λ x lo hi. k.bytes x ∙ slot_is_taken s l.heap l.live.items x new (lo, hi) in
    record {
      sound = rw (g.live, g.heap) (StandFrom-slots 0 l.heap (insert s l.heap) l.live.items k.sound
          (λ x e. rw (in_slots-insert s l.heap x, in_blocks-in_slots 0 l.heap l.live.items x k.sound e) refl));
      proper = rw g.heap (record { ascending = ascending-insert s l.heap k.proper.ascending; small = below-insert slot_limit s l.heap small k.proper.small });
      apart = rw g.holes (StandApart-join 0 (slot_base s) (slot_base s + slot_size) l.holes.items (omega arith) (omega arith) (omega arith) k.apart taken);
      bytes = λ x. rw (g.holes, g.live, g.heap) (in_holes-join 0 (slot_base s) (slot_base s + slot_size) l.holes.items (omega arith) k.apart taken x
          ∙ ap (λ b. b || lies_in (slot_base s) (slot_base s + slot_size) x) (k.bytes x) ∙ sym (is_free-insert s 0 l.heap l.live.items k.sound new x));
      met = λ t. rw (g.met, g.live) (k.met t);
      counted = rw (g.slots, g.heap, length-insert s l.heap new, k.counted) refl;
      room = let c = length-join (slot_base s) (slot_base s + slot_size) l.holes.items in let n = length-insert s l.heap new in
          omega (arith, c, n, g.room, ap length g.holes, ap length g.live, ap length g.heap);
    }

-- a slot that no block meets goes
pub record Shrinks (l m : Layout) (s : ℕ) : Type 0 where
  pub live : m.live.items ≡ l.live.items
  pub holes : m.holes.items ≡ cut (slot_base s) (slot_base s + slot_size) l.holes.items
  pub heap : m.heap ≡ minus l.heap (s ∷ [])
  pub met : m.met ≡ l.met
  pub slots : m.slots + 1 ≡ l.slots
  pub room : vec_capacity l.holes ≤ vec_capacity m.holes

pub slot_free : (l : Layout) (s : ℕ) → IsKept l → has s l.heap ≡ true → is_met l.live.items s ≡ false → AreFree l.holes.items (slot_base s) (slot_base s + slot_size)
slot_free l s k member none x lo hi = k.bytes x ∙ slot_is_free s l.heap l.live.items x member none (lo, hi)

pub kept-shrink : (l m : Layout) (s : ℕ) → IsKept l → has s l.heap ≡ true → is_met l.live.items s ≡ false → Shrinks l m s → IsKept m
kept-shrink l m s k member none g =
    let free = slot_free l s k member none in
    record {
      sound = rw (g.live, g.heap) (StandFrom-slots 0 l.heap (minus l.heap (s ∷ [])) l.live.items k.sound
          (λ x e. rw (in_slots-minus s l.heap x, in_blocks-in_slots 0 l.heap l.live.items x k.sound e)
          (away (lies_in (slot_base s) (slot_base s + slot_size) x) (λ i. true≢false (sym e ∙ is_met-false l.live.items s x none (lies_in-true (slot_base s) (slot_base s + slot_size) x i))))));
      proper = rw g.heap (record { ascending = ascending-minus l.heap (s ∷ []) k.proper.ascending; small = below-minus slot_limit l.heap (s ∷ []) k.proper.small });
      apart = rw g.holes (StandApart-cut 0 (slot_base s) (slot_base s + slot_size) l.holes.items (omega arith) (omega arith) k.apart free);
      bytes = λ x. rw (g.holes, g.live, g.heap) (in_holes-cut 0 (slot_base s) (slot_base s + slot_size) l.holes.items (omega arith) k.apart free x
          ∙ ap (λ b. b && not (lies_in (slot_base s) (slot_base s + slot_size) x)) (k.bytes x) ∙ sym (is_free-minus s l.heap l.live.items x));
      met = λ t. rw (g.met, g.live) (k.met t);
      counted = rw g.heap (let n = length-minus s l.heap k.proper.ascending member in omega (arith, n, g.slots, k.counted));
      room = let n = length-minus s l.heap k.proper.ascending member in let c = length-cut (slot_base s) (slot_base s + slot_size) l.holes.items in
          omega (arith, n, c, k.room, g.room, ap length g.holes, ap length g.live, ap length g.heap);
    }
  where
    away : (i : Bool) → (i ≡ true → ⊥) → (true && not i) ≡ true
    away true h = absurd (h refl)
    away false h = refl

-- a block goes
pub record Leaves (l m : Layout) (a size k : ℕ) : Type 0 where
  pub within : k < length l.live.items
  pub block : (a, size) ≡ get_or l.live.items k (a, size)
  pub live : m.live.items ≡ without l.live.items a
  pub holes : m.holes.items ≡ join a (a + size) l.holes.items
  pub heap : m.heap ≡ l.heap
  pub met : (s : ℕ) → has s m.met ≡ is_met (without l.live.items a) s
  pub slots : m.slots ≡ l.slots
  pub room : vec_capacity l.holes ≤ vec_capacity m.holes

pub kept-leave : (l m : Layout) (a size k : ℕ) → IsKept l → Leaves l m a size k → IsKept m
kept-leave l m a size i k g =
    let block = block_at 0 l.heap l.live.items (a, size) i k.sound g.within g.block in
    let some : a < a + size = omega (arith, block.some) in
    let taken : AreTaken l.holes.items a (a + size) = λ x lo hi. k.bytes x ∙ block_is_taken l.heap l.live.items i a size x g.within g.block (rw (le-leb a x lo, lt-ltb x (a + size) hi) refl) in
    record {
      sound = rw (g.live, g.heap) (StandFrom-without 0 l.heap l.live.items a k.sound);
      proper = rw g.heap k.proper;
      apart = rw g.holes (StandApart-join 0 a (a + size) l.holes.items (omega arith) some block.aligned k.apart taken);
      bytes = λ x. rw (g.holes, g.live, g.heap) (in_holes-join 0 a (a + size) l.holes.items some k.apart taken x
          ∙ ap (λ b. b || lies_in a (a + size) x) (k.bytes x) ∙ sym (is_free-without 0 l.heap l.live.items a size i k.sound g.within g.block x));
      met = λ s. rw g.live (g.met s);
      counted = rw (g.slots, g.heap) k.counted;
      room = let n = length-without l.live.items a size i g.within g.block in let c = length-join a (a + size) l.holes.items in
          omega (arith, n, c, k.room, g.room, ap length g.holes, ap length g.live, ap length g.heap);
    }

-- which slots are met once the block at a place goes
pub met_gone : (l : Layout) (k : ℕ) (b : ℕ × ℕ) (first count from end s : ℕ) → IsKept l → k < length l.live.items → b ≡ get_or l.live.items k b
    → HoldsAddress first b.0 → HoldsAddress (first + count - 1) (b.0 + b.1 - 1) → 0 < count → first + count ≤ slot_limit
    → Owns (end_before 0 l.live.items k) (start_of (drop (suc k) l.live.items)) first count from end
    → is_met (without l.live.items b.0) s ≡ (has s l.met && not (nat_le from s && nat_lt s end))
met_gone l k b first count from end s kept within read f g some small owns =
    is_met-gone l.heap l.live.items k b.0 b.1 first count from end s kept.sound within read (block_within l k b kept within read).2 f g some small owns
    ∙ ap (λ m. m && not (nat_le from s && nat_lt s end)) (sym (kept.met s))
