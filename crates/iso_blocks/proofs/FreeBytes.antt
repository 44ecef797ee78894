-- What each change of a heap does to its free bytes.
use Rattle.std.proofs.Common.{refl, sym, ◌∙◌, ap, ◌≡◌, ℕ, ◌+◌, ◌<◌, Bool, true, false, List, [], ◌∷◌, length, get_or, arith, not, zero, suc, ◌||◌, ◌&&◌}
use Rattle.std.proofs.lemmas.Bool.{false≢true, true≢false, or_right}
use Rattle.slot_space.specs.Limits.{slot_size}
use Rattle.slot_space.specs.Sets.{has, insert, minus}
use Rattle.slot_space.specs.Addresses.{slot_base, HoldsAddress}
use Rattle.iso_blocks.specs.Bytes.{lies_in, in_slots, in_blocks, is_met}
use Rattle.iso_blocks.specs.Heap.{Heap, StandFrom, is_free, with_block, without}
use Rattle.iso_blocks.proofs.Fit.{lies_in-true}
use Rattle.iso_blocks.proofs.LiveBlocks.{in_blocks-with_block, in_blocks-without, in_blocks-in_slots}
use Rattle.iso_blocks.proofs.SlotBytes.{in_slots-has, in_slots-insert, in_slots-minus, is_met-false}

-- a heap of these blocks and slots
abbrev pub heap : List (ℕ × ℕ) → List ℕ → Heap
heap live slots = record { live = live; slots = slots }

-- after a placing
pub is_free-with_block : (b : ℕ × ℕ) (live : List (ℕ × ℕ)) (slots : List ℕ) (x : ℕ)
    → is_free (heap (with_block b live) slots) x ≡ (is_free (heap live slots) x && not (lies_in b.0 (b.0 + b.1) x))
is_free-with_block b live slots x = rw (in_blocks-with_block b live x) (apart (in_slots slots x) (in_blocks live x) (lies_in b.0 (b.0 + b.1) x))
  where
    apart : (i j l : Bool) → (i && not (j || l)) ≡ ((i && not j) && not l)
    apart true true l = refl
    apart true false l = refl
    apart false j l = refl

-- after a free, before slots are given back
pub is_free-without : (low : ℕ) (slots : List ℕ) (live : List (ℕ × ℕ)) (a n k : ℕ) → StandFrom low slots live → k < length live → (a, n) ≡ get_or live k (a, n) → (x : ℕ)
    → is_free (heap (without live a) slots) x ≡ (is_free (heap live slots) x || lies_in a (a + n) x)
is_free-without low slots live a n k s l read x =
    rw (in_blocks-without low slots live a n k s l read x)
    (back (in_slots slots x) (in_blocks live x) (lies_in a (a + n) x) (λ e. inside slots low live a n k x s l read e))
  where
    back : (i j l : Bool) → (l ≡ true → i ≡ true) → (i && not (j && not l)) ≡ ((i && not j) || l)
    back true true true h = refl
    back true true false h = refl
    back true false true h = refl
    back true false false h = refl
    back false j true h = absurd (false≢true (h refl))
    back false j false h = refl

    inside : (slots : List ℕ) (low : ℕ) (live : List (ℕ × ℕ)) (a n k x : ℕ) → StandFrom low slots live → k < length live → (a, n) ≡ get_or live k (a, n) → lies_in a (a + n) x ≡ true → in_slots slots x ≡ true
    inside slots low [] a n k x s l read e = absurd (omega arith)
    inside slots low (b ∷ live) a n zero x s l read e =
        let r = lies_in-true a (a + n) x e in
        let p : b.0 ≡ a = ap (λ (p : ℕ × ℕ). p.0) (sym read) in
        let q : b.1 ≡ n = ap (λ (p : ℕ × ℕ). p.1) (sym read) in
        s.0.inside x (omega (arith, r.0, p)) (omega (arith, r.1, p, q))
    inside slots low (b ∷ live) a n (suc k) x s l read e = inside slots (b.0 + b.1) live a n k x s.2 (omega arith) read e

-- after a slot comes in
pub is_free-insert : (s low : ℕ) (slots : List ℕ) (live : List (ℕ × ℕ)) → StandFrom low slots live → has s slots ≡ false → (x : ℕ)
    → is_free (heap live (insert s slots)) x ≡ (is_free (heap live slots) x || lies_in (slot_base s) (slot_base s + slot_size) x)
is_free-insert s low slots live stand new x =
    rw (in_slots-insert s slots x)
    (grow (in_slots slots x) (in_blocks live x) (lies_in (slot_base s) (slot_base s + slot_size) x)
    (λ e. let h = lies_in-true (slot_base s) (slot_base s + slot_size) x e in in_slots-has slots s x h ∙ new)
    (λ e. in_blocks-in_slots low slots live x stand e))
  where
    grow : (i j l : Bool) → (l ≡ true → i ≡ false) → (j ≡ true → i ≡ true) → ((i || l) && not j) ≡ ((i && not j) || l)
    grow true j true h k = absurd (true≢false (h refl))
    grow true true false h k = refl
    grow true false false h k = refl
    grow false true l h k = absurd (false≢true (k refl))
    grow false false l h k = and-true l
      where
        and-true : (l : Bool) → (l && true) ≡ l
        and-true true = refl
        and-true false = refl

-- after a slot goes
pub is_free-minus : (s : ℕ) (slots : List ℕ) (live : List (ℕ × ℕ)) (x : ℕ)
    → is_free (heap live (minus slots (s ∷ []))) x ≡ (is_free (heap live slots) x && not (lies_in (slot_base s) (slot_base s + slot_size) x))
is_free-minus s slots live x =
    rw (in_slots-minus s slots x) (swap (in_slots slots x) (in_blocks live x) (lies_in (slot_base s) (slot_base s + slot_size) x))
  where
    swap : (i j l : Bool) → ((i && not l) && not j) ≡ ((i && not j) && not l)
    swap true true true = refl
    swap true true false = refl
    swap true false true = refl
    swap true false false = refl
    swap false j l = refl

-- all bytes of a slot that no block meets are free
pub slot_is_free : (s : ℕ) (slots : List ℕ) (live : List (ℕ × ℕ)) (x : ℕ) → has s slots ≡ true → is_met live s ≡ false → HoldsAddress s x → is_free (heap live slots) x ≡ true
slot_is_free s slots live x member none h = rw (in_slots-has slots s x h, member, is_met-false live s x none h) refl

-- no byte of a slot that isn't in the heap is free
pub slot_is_taken : (s : ℕ) (slots : List ℕ) (live : List (ℕ × ℕ)) (x : ℕ) → has s slots ≡ false → HoldsAddress s x → is_free (heap live slots) x ≡ false
slot_is_taken s slots live x none h = rw (in_slots-has slots s x h, none) refl

-- no byte of a live block is free
pub block_is_taken : (slots : List ℕ) (live : List (ℕ × ℕ)) (k a n x : ℕ) → k < length live → (a, n) ≡ get_or live k (a, n) → lies_in a (a + n) x ≡ true → is_free (heap live slots) x ≡ false
block_is_taken slots live k a n x l read e = rw (lies live k a n x l read e) (and-false (in_slots slots x))
  where
    and-false : (i : Bool) → (i && false) ≡ false
    and-false true = refl
    and-false false = refl

    lies : (live : List (ℕ × ℕ)) (k a n x : ℕ) → k < length live → (a, n) ≡ get_or live k (a, n) → lies_in a (a + n) x ≡ true → in_blocks live x ≡ true
    lies [] k a n x l read e = absurd (omega arith)
    lies (b ∷ live) zero a n x l read e =
        let p : b.0 ≡ a = ap (λ (p : ℕ × ℕ). p.0) (sym read) in
        let q : b.1 ≡ n = ap (λ (p : ℕ × ℕ). p.1) (sym read) in rw (p, q, e) refl
    lies (b ∷ live) (suc k) a n x l read e = or_right (lies_in b.0 (b.0 + b.1) x) (in_blocks live x) (lies live k a n x (omega arith) read e)
