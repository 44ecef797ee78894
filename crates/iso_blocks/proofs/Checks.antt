-- When a block can stand in slots, and when blocks that stand one after another can be placed in turn.
use Rattle.std.proofs.Common.{refl, sym, ◌∙◌, ap, ◌≡◌, ℕ, ◌+◌, ◌-◌, ◌%◌, ◌<◌, ◌≤◌, Bool, true, false, List, [], ◌∷◌, length, get_or, take, arith, ⊎_elim, zero, suc, not, Option, Some, None}
use Rattle.std.specs.Prelude.{IsTrue, is_some, MatchOption}
use Rattle.std.proofs.lemmas.Bool.{false≢true, true≢false, lt-leb, cases_lt, or_cases}
use Rattle.slot_space.specs.Sets.{has}
use Rattle.slot_space.specs.Addresses.{slot_base, HoldsAddress}
use Rattle.iso_blocks.specs.Bytes.{lies_in, in_slots, in_blocks}
use Rattle.iso_blocks.specs.Heap.{IsBlock, StandFrom, with_block, Fits}
use Rattle.iso_blocks.specs.Neighbours.{end_before}
use Rattle.iso_blocks.proofs.Fit.{lies_in-true}
use Rattle.iso_blocks.proofs.SlotBytes.{in_slots-has, slot_of, slot_of-holds}
use Rattle.iso_blocks.proofs.LiveBlocks.{block_at}
use Rattle.iso_blocks.proofs.FreeBytes.{heap}

-- bytes lie in slots where all slots from that of the first byte to that of the last are there
pub inside_run : (slots : List ℕ) (a n first count : ℕ) → HoldsAddress first a → HoldsAddress (first + count - 1) (a + n - 1) → 0 < count
    → ((s : ℕ) → first ≤ s → s < first + count → has s slots ≡ true) → (x : ℕ) → a ≤ x → x < a + n → in_slots slots x ≡ true
inside_run slots a n first count f l some all x lo hi =
    let h = slot_of-holds x (omega (arith, f.0)) in
    in_slots-has slots (slot_of x) x h ∙ all (slot_of x) (omega (arith, h.0, h.1, f.0, lo)) (omega (arith, h.0, h.1, l.1, hi))

-- and only there
pub missing_out : (slots : List ℕ) (a n first count s : ℕ) → IsBlock slots (a, n) → HoldsAddress first a → HoldsAddress (first + count - 1) (a + n - 1)
    → first ≤ s → s < first + count → has s slots ≡ false → ⊥
missing_out slots a n first count s block f l lo hi gone =
    ⊎_elim (λ i. true≢false (sym (block.inside (slot_base s) (omega arith) (omega (arith, l.0, hi))) ∙ in_slots-has slots s (slot_base s) (omega arith, omega arith) ∙ gone))
    (λ i. true≢false (sym (block.inside a (omega arith) (omega (arith, block.some))) ∙ in_slots-has slots s a (i, omega (arith, f.1, lo)) ∙ gone))
    (cases_lt a (slot_base s))

-- what the search for a missing slot says of a block
pub block_iff : (slots : List ℕ) (a n first count : ℕ) (r : Option ℕ) (b : Bool) → is_some r ≡ not b → a % 16 ≡ 0 → n % 16 ≡ 0 → 16 ≤ n
    → HoldsAddress first a → HoldsAddress (first + count - 1) (a + n - 1) → 0 < count
    → MatchOption r ((s : ℕ) → first ≤ s → s < first + count → has s slots ≡ true) (λ s. (first ≤ s) × (s < first + count) × (has s slots ≡ false))
    → (IsTrue b → IsBlock slots (a, n)) × (IsBlock slots (a, n) → IsTrue b)
block_iff slots a n first count None true e aligned whole some f l c all =
    (λ _. record { aligned = aligned; rounded = whole; some = some; inside = inside_run slots a n first count f l c all }, λ _. refl)
block_iff slots a n first count None false e aligned whole some f l c all = absurd (false≢true e)
block_iff slots a n first count (Some s) true e aligned whole some f l c gone = absurd (true≢false e)
block_iff slots a n first count (Some s) false e aligned whole some f l c gone =
    (λ i. absurd (false≢true i), λ block. absurd (missing_out slots a n first count s block f l gone.0 gone.1 gone.2))

-- a byte of the blocks before a place lies before their end
in_blocks-before : (low : ℕ) (slots : List ℕ) (live : List (ℕ × ℕ)) (k x : ℕ) → StandFrom low slots live → in_blocks (take k live) x ≡ true → x < end_before low live k
in_blocks-before low slots live zero x s e = absurd (false≢true e)
in_blocks-before low slots [] (suc k) x s e = absurd (false≢true e)
in_blocks-before low slots (b ∷ live) (suc k) x s e =
    ⊎_elim (λ i. let r = lies_in-true b.0 (b.0 + b.1) x i in let m = low_end (b.0 + b.1) slots live k s.2 in omega (arith, r.1, m))
    (λ i. in_blocks-before (b.0 + b.1) slots live k x s.2 i) (or_cases (lies_in b.0 (b.0 + b.1) x) (in_blocks (take k live) x) e)
  where
    low_end : (low : ℕ) (slots : List ℕ) (live : List (ℕ × ℕ)) (k : ℕ) → StandFrom low slots live → low ≤ end_before low live k
    low_end low slots live zero s = omega arith
    low_end low slots [] (suc k) s = omega arith
    low_end low slots (b ∷ live) (suc k) s = let r = low_end (b.0 + b.1) slots live k s.2 in omega (arith, r, s.1)

at_end : (low : ℕ) (slots : List ℕ) (live : List (ℕ × ℕ)) (k : ℕ) (d : ℕ × ℕ) → StandFrom low slots live → k < length live → end_before low live k ≤ (get_or live k d).0
at_end low slots [] k d s l = absurd (omega arith)
at_end low slots (b ∷ live) zero d s l = s.1
at_end low slots (b ∷ live) (suc k) d s l = at_end (b.0 + b.1) slots live k d s.2 (omega arith)

-- a block of a row fits behind those before it
pub fits_next : (slots : List ℕ) (live : List (ℕ × ℕ)) (k : ℕ) (b : ℕ × ℕ) → StandFrom 0 slots live → k < length live → b ≡ get_or live k b → Fits (heap (take k live) slots) b.1 b.0
fits_next slots live k b s l read =
    let block = block_at 0 slots live b k s l read in
    let behind : end_before 0 live k ≤ b.0 = rw (sym read) at (at_end 0 slots live k b s l) in
    record {
      aligned = block.aligned;
      free = λ x lo hi. rw (block.inside x lo hi, out (in_blocks (take k live) x) (λ e. let r = in_blocks-before 0 slots live k x s e in omega (arith, r, behind, lo))) refl;
    }
  where
    out : (j : Bool) → (j ≡ true → ⊥) → j ≡ false
    out true h = absurd (h refl)
    out false h = refl

-- and comes at the end of them
pub with_block-next : (low : ℕ) (slots : List ℕ) (live : List (ℕ × ℕ)) (k : ℕ) (b : ℕ × ℕ) → StandFrom low slots live → k < length live → b ≡ get_or live k b
    → with_block b (take k live) ≡ take (suc k) live
with_block-next low slots [] k b s l read = absurd (omega arith)
with_block-next low slots (c ∷ live) zero b s l read = ap (λ (b : ℕ × ℕ). b ∷ []) read
with_block-next low slots (c ∷ live) (suc k) b s l read =
    let behind : c.0 + c.1 ≤ b.0 = rw (sym read) at (later (c.0 + c.1) slots live k b s.2 (omega arith)) in
    rw (lt-leb b.0 c.0 (omega (arith, behind, s.0.some))) (ap (λ t. c ∷ t) (with_block-next (c.0 + c.1) slots live k b s.2 (omega arith) read))
  where
    later : (low : ℕ) (slots : List ℕ) (live : List (ℕ × ℕ)) (k : ℕ) (d : ℕ × ℕ) → StandFrom low slots live → k < length live → low ≤ (get_or live k d).0
    later low slots [] k d s l = absurd (omega arith)
    later low slots (b ∷ live) zero d s l = s.1
    later low slots (b ∷ live) (suc k) d s l = let r = later (b.0 + b.1) slots live k d s.2 (omega arith) in omega (arith, r, s.1)
