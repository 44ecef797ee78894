-- The row of live blocks: kept in order, read at a place, with one more block or one less.
use Rattle.std.proofs.Common.{◌⊎◌, refl, subst, sym, ◌∙◌, ap, ◌≡◌, ℕ, ◌+◌, ◌<◌, ◌≤◌, Bool, true, false, List, [], ◌∷◌, length, get_or, arith, ⊎_elim, leb, eqb, not, zero, suc, inl, inr, ◌||◌, ◌&&◌}
use Rattle.std.specs.List.{AllWithin, insert, remove}
use Rattle.std.specs.List.Sorted.{IsNonDecreasingBy}
use Rattle.std.proofs.lemmas.Bool.{false≢true, true≢false, le-leb, lt-leb, lt-ltb, eq-eqb, ne_eqb, cases_lt, cases_eq, cases_Bool, or_cases, or_right}
use Rattle.std.specs.Prelude.{nat_lt}
use Rattle.slot_space.specs.Limits.{slot_size}
use Rattle.slot_space.specs.Addresses.{slot_base}
use Rattle.iso_blocks.specs.Bytes.{lies_in, in_slots, in_blocks, is_met}
use Rattle.iso_blocks.specs.Heap.{IsBlock, StandFrom, with_block, without, starts_at}
use Rattle.iso_blocks.proofs.Fit.{lies_in-true}

-- a block has a byte in slot s
abbrev pub meets : ℕ × ℕ → ℕ → Bool
meets b s = nat_lt b.0 (slot_base s + slot_size) && nat_lt (slot_base s) (b.0 + b.1)

pub or-assoc : (a b c : Bool) → (a || (b || c)) ≡ ((a || b) || c)
or-assoc true b c = refl
or-assoc false b c = refl

pub or-comm : (a b : Bool) → (a || b) ≡ (b || a)
or-comm true true = refl
or-comm true false = refl
or-comm false true = refl
or-comm false false = refl

pub or-false : (a : Bool) → (a || false) ≡ a
or-false true = refl
or-false false = refl

pub or_parts : (a b : Bool) → (a || b) ≡ false → (a ≡ false) × (b ≡ false)
or_parts true b e = absurd (true≢false e)
or_parts false b e = (refl, e)

first_out : (i j : Bool) → (i ≡ true → j ≡ true → ⊥) → j ≡ ((i || j) && not i)
first_out true true h = absurd (h refl refl)
first_out true false h = refl
first_out false true h = refl
first_out false false h = refl

other_stays : (i j o : Bool) → (i ≡ true → o ≡ true → ⊥) → (i || (j && not o)) ≡ ((i || j) && not o)
other_stays true j true h = absurd (h refl refl)
other_stays true j false h = refl
other_stays false j o h = refl

-- addresses rise
starts_from : (low : ℕ) (slots : List ℕ) (live : List (ℕ × ℕ)) (j : ℕ) (d : ℕ × ℕ) → StandFrom low slots live → j < length live → low ≤ (get_or live j d).0
starts_from low slots [] j d s l = absurd (omega arith)
starts_from low slots (b ∷ live) zero d s l = s.1
starts_from low slots (b ∷ live) (suc j) d s l = let r = starts_from (b.0 + b.1) slots live j d s.2 (omega arith) in omega (arith, r, s.1)

pub starts_rise : (low : ℕ) (slots : List ℕ) (live : List (ℕ × ℕ)) → StandFrom low slots live → IsNonDecreasingBy (λ (b : ℕ × ℕ). b.0) live
starts_rise low slots [] s i j d le l = absurd (omega arith)
starts_rise low slots (b ∷ live) s zero zero d le l = omega arith
starts_rise low slots (b ∷ live) s zero (suc j) d le l = let r = starts_from (b.0 + b.1) slots live j d s.2 (omega arith) in omega (arith, r)
starts_rise low slots (b ∷ live) s (suc i) zero d le l = absurd (omega arith)
starts_rise low slots (b ∷ live) s (suc i) (suc j) d le l = starts_rise (b.0 + b.1) slots live s.2 i j d (omega arith) (omega arith)

-- a new block stands where the first one at or after its address stood
pub with_block-at : (b : ℕ × ℕ) (live : List (ℕ × ℕ)) (k : ℕ) → k ≤ length live → AllWithin (λ (c : ℕ × ℕ). c.0 < b.0) live 0 k → AllWithin (λ (c : ℕ × ℕ). b.0 ≤ c.0) live k (length live)
    → with_block b live ≡ insert live k b
with_block-at b [] zero l before behind = refl
with_block-at b [] (suc k) l before behind = absurd (omega arith)
with_block-at b (c ∷ live) zero l before behind = rw (le-leb b.0 c.0 (behind 0 c (omega arith) (omega arith))) refl
with_block-at b (c ∷ live) (suc k) l before behind =
    let first : c.0 < b.0 = before 0 c (omega arith) (omega arith) in
    rw (lt-leb b.0 c.0 first) (ap (λ t. c ∷ t) (with_block-at b live k (omega arith) (λ j d low high. before (suc j) d (omega arith) (omega arith)) (λ j d low high. behind (suc j) d (omega arith) (omega arith))))

-- past an address that no block starts at or after, none starts at it
starts_at-behind : (low : ℕ) (slots : List ℕ) (live : List (ℕ × ℕ)) (a : ℕ) → a < low → StandFrom low slots live → starts_at live a ≡ false
starts_at-behind low slots [] a l s = refl
starts_at-behind low slots (b ∷ live) a l s =
    rw (ne_eqb b.0 a (λ e. omega (arith, s.1, e)), starts_at-behind (b.0 + b.1) slots live a (omega (arith, s.1)) s.2) refl

-- a block starts at the address only where the first one at or after it does
pub starts_at-place : (low : ℕ) (slots : List ℕ) (live : List (ℕ × ℕ)) (a k : ℕ) (d : ℕ × ℕ) → StandFrom low slots live → AllWithin (λ (c : ℕ × ℕ). c.0 < a) live 0 k
    → AllWithin (λ (c : ℕ × ℕ). a ≤ c.0) live k (length live) → k < length live → starts_at live a ≡ eqb (get_or live k d).0 a
starts_at-place low slots [] a k d s before behind l = absurd (omega arith)
starts_at-place low slots (b ∷ live) a zero d s before behind l =
    ⊎_elim (λ e. rw (eq-eqb b.0 a e) refl)
    (λ (e : b.0 ≡ a → ⊥).
    let le : a ≤ b.0 = behind 0 b (omega arith) (omega arith) in
    let past : a < b.0 + b.1 = omega (arith, le, s.0.some) in
    let none : starts_at live a ≡ false = starts_at-behind (b.0 + b.1) slots live a past s.2 in
    rw (ne_eqb b.0 a e, none) refl)
    (cases_eq b.0 a)
starts_at-place low slots (b ∷ live) a (suc k) d s before behind l =
    let first : b.0 < a = before 0 b (omega arith) (omega arith) in
    rw (ne_eqb b.0 a (λ e. omega (arith, e))) (starts_at-place (b.0 + b.1) slots live a k d s.2 (λ j d low high. before (suc j) d (omega arith) (omega arith))
    (λ j d low high. behind (suc j) d (omega arith) (omega arith)) (omega arith))

-- where all blocks start before the address, none starts at it
pub starts_at-none : (live : List (ℕ × ℕ)) (a k : ℕ) → AllWithin (λ (c : ℕ × ℕ). c.0 < a) live 0 k → length live ≤ k → starts_at live a ≡ false
starts_at-none [] a k before l = refl
starts_at-none (b ∷ live) a zero before l = absurd (omega arith)
starts_at-none (b ∷ live) a (suc k) before l =
    let first : b.0 < a = before 0 b (omega arith) (omega arith) in
    rw (ne_eqb b.0 a (λ e. omega (arith, e))) (starts_at-none live a k (λ j d low high. before (suc j) d (omega arith) (omega arith)) (omega arith))

pub without-behind : (low : ℕ) (slots : List ℕ) (live : List (ℕ × ℕ)) (a : ℕ) → a < low → StandFrom low slots live → without live a ≡ live
without-behind low slots [] a l s = refl
without-behind low slots (b ∷ live) a l s =
    rw (ne_eqb b.0 a (λ e. omega (arith, s.1, e)), without-behind (b.0 + b.1) slots live a (omega (arith, s.1)) s.2) refl

-- the row without the block at a place
pub without-place : (low : ℕ) (slots : List ℕ) (live : List (ℕ × ℕ)) (a k : ℕ) (d : ℕ × ℕ) → StandFrom low slots live → k < length live → (get_or live k d).0 ≡ a → without live a ≡ remove live k
without-place low slots [] a k d s l e = absurd (omega arith)
without-place low slots (b ∷ live) a zero d s l e =
    rw (eq-eqb b.0 a e) (without-behind (b.0 + b.1) slots live a (omega (arith, e, s.0.some)) s.2)
without-place low slots (b ∷ live) a (suc k) d s l e =
    let later = starts_from (b.0 + b.1) slots live k d s.2 (omega arith) in
    rw (ne_eqb b.0 a (λ i. omega (arith, i, e, later, s.0.some))) (ap (λ t. b ∷ t) (without-place (b.0 + b.1) slots live a k d s.2 (omega arith) e))

StandFrom-low : (low high : ℕ) (slots : List ℕ) (live : List (ℕ × ℕ)) → low ≤ high → StandFrom high slots live → StandFrom low slots live
StandFrom-low low high slots [] le s = tt
StandFrom-low low high slots (b ∷ live) le s = (s.0, omega (arith, s.1), s.2)

-- a byte of live blocks lies at or after the start of their row
pub in_blocks-from : (low : ℕ) (slots : List ℕ) (live : List (ℕ × ℕ)) (x : ℕ) → StandFrom low slots live → in_blocks live x ≡ true → low ≤ x
in_blocks-from low slots [] x s e = absurd (false≢true e)
in_blocks-from low slots (b ∷ live) x s e =
    ⊎_elim (λ i. let j = lies_in-true b.0 (b.0 + b.1) x i in omega (arith, j.0, s.1))
    (λ i. let j = in_blocks-from (b.0 + b.1) slots live x s.2 i in omega (arith, j, s.1))
    (or_cases (lies_in b.0 (b.0 + b.1) x) (in_blocks live x) e)

-- each byte of a live block lies in a slot
pub in_blocks-in_slots : (low : ℕ) (slots : List ℕ) (live : List (ℕ × ℕ)) (x : ℕ) → StandFrom low slots live → in_blocks live x ≡ true → in_slots slots x ≡ true
in_blocks-in_slots low slots [] x s e = absurd (false≢true e)
in_blocks-in_slots low slots (b ∷ live) x s e =
    ⊎_elim (λ i. let j = lies_in-true b.0 (b.0 + b.1) x i in s.0.inside x j.0 j.1)
    (λ i. in_blocks-in_slots (b.0 + b.1) slots live x s.2 i)
    (or_cases (lies_in b.0 (b.0 + b.1) x) (in_blocks live x) e)

-- blocks stand in any slots that hold their bytes
pub StandFrom-slots : (low : ℕ) (slots others : List ℕ) (live : List (ℕ × ℕ)) → StandFrom low slots live → ((x : ℕ) → in_blocks live x ≡ true → in_slots others x ≡ true) → StandFrom low others live
StandFrom-slots low slots others [] s hold = tt
StandFrom-slots low slots others (b ∷ live) s hold = (
  record { aligned = s.0.aligned; rounded = s.0.rounded; some = s.0.some; inside = λ x lo hi. hold x (rw (le-leb b.0 x lo, lt-ltb x (b.0 + b.1) hi) refl) },
  s.1,
  StandFrom-slots (b.0 + b.1) slots others live s.2 (λ x e. hold x (or_right (lies_in b.0 (b.0 + b.1) x) (in_blocks live x) e)),
)

-- the bytes of a row with one more block
pub in_blocks-with_block : (b : ℕ × ℕ) (live : List (ℕ × ℕ)) (x : ℕ) → in_blocks (with_block b live) x ≡ (in_blocks live x || lies_in b.0 (b.0 + b.1) x)
in_blocks-with_block b [] x = or-false (lies_in b.0 (b.0 + b.1) x)
in_blocks-with_block b (c ∷ live) x =
    ⊎_elim (λ (e : leb b.0 c.0 ≡ true). rw e (or-comm (lies_in b.0 (b.0 + b.1) x) (in_blocks (c ∷ live) x)))
    (λ (e : leb b.0 c.0 ≡ false). rw (e, in_blocks-with_block b live x) (or-assoc (lies_in c.0 (c.0 + c.1) x) (in_blocks live x) (lies_in b.0 (b.0 + b.1) x)))
    (cases_Bool (leb b.0 c.0))

-- the slots that a row with one more block meets
pub is_met-with_block : (b : ℕ × ℕ) (live : List (ℕ × ℕ)) (s : ℕ) → is_met (with_block b live) s ≡ (is_met live s || meets b s)
is_met-with_block b [] s = or-false (meets b s)
is_met-with_block b (c ∷ live) s =
    ⊎_elim (λ (e : leb b.0 c.0 ≡ true). rw e (or-comm (meets b s) (is_met (c ∷ live) s)))
    (λ (e : leb b.0 c.0 ≡ false). rw (e, is_met-with_block b live s) (or-assoc (meets c s) (is_met live s) (meets b s)))
    (cases_Bool (leb b.0 c.0))

-- blocks with one more that meets none of them still stand in order
pub StandFrom-with_block : (low : ℕ) (slots : List ℕ) (b : ℕ × ℕ) (live : List (ℕ × ℕ)) → StandFrom low slots live → IsBlock slots b → low ≤ b.0
    → ((x : ℕ) → b.0 ≤ x → x < b.0 + b.1 → in_blocks live x ≡ false) → StandFrom low slots (with_block b live)
StandFrom-with_block low slots b [] s block le apart = (block, le, tt)
StandFrom-with_block low slots b (c ∷ live) s block le apart =
    ⊎_elim (λ i. rw (le-leb b.0 c.0 i) (block, le, (s.0, ⊎_elim (λ j. absurd (true≢false (sym (lies c.0 c.1 s.0.some) ∙ (or_parts (lies_in c.0 (c.0 + c.1) c.0) (in_blocks live c.0) (apart c.0 i j)).0))) (λ j. j) (cases_lt c.0 (b.0 + b.1)), s.2)))
    (λ i. rw (lt-leb b.0 c.0 i) (
      s.0,
      s.1,
      StandFrom-with_block (c.0 + c.1) slots b live s.2 block
          (⊎_elim (λ j. absurd (true≢false (sym (rw (le-leb c.0 b.0 (omega arith), lt-ltb b.0 (c.0 + c.1) j) refl) ∙ (or_parts (lies_in c.0 (c.0 + c.1) b.0) (in_blocks live b.0) (apart b.0 (omega arith) (omega (arith, block.some)))).0))) (λ j. j) (cases_lt b.0 (c.0 + c.1)))
          (λ x lo hi. (or_parts (lies_in c.0 (c.0 + c.1) x) (in_blocks live x) (apart x lo hi)).1),
    ))
    (cases_le b.0 c.0)
  where
    lies : (a n : ℕ) → 16 ≤ n → lies_in a (a + n) a ≡ true
    lies a n h = rw (le-leb a a (omega arith), lt-ltb a (a + n) (omega arith)) refl

    cases_le : (a b : ℕ) → (a ≤ b) ⊎ (b < a)
    cases_le a b = ⊎_elim (λ i. inr i) (λ i. inl i) (cases_lt b a)

-- blocks without one still stand in order
pub StandFrom-without : (low : ℕ) (slots : List ℕ) (live : List (ℕ × ℕ)) (a : ℕ) → StandFrom low slots live → StandFrom low slots (without live a)
StandFrom-without low slots [] a s = tt
StandFrom-without low slots (b ∷ live) a s =
    ⊎_elim (λ (e : eqb b.0 a ≡ true). rw e (StandFrom-low low (b.0 + b.1) slots (without live a) (omega (arith, s.1)) (StandFrom-without (b.0 + b.1) slots live a s.2)))
    (λ (e : eqb b.0 a ≡ false). rw e (s.0, s.1, StandFrom-without (b.0 + b.1) slots live a s.2))
    (cases_Bool (eqb b.0 a))

-- the bytes of a row without the block at a place
pub in_blocks-without : (low : ℕ) (slots : List ℕ) (live : List (ℕ × ℕ)) (a n k : ℕ) → StandFrom low slots live → k < length live → (a, n) ≡ get_or live k (a, n) → (x : ℕ)
    → in_blocks (without live a) x ≡ (in_blocks live x && not (lies_in a (a + n) x))
in_blocks-without low slots [] a n k s l read x = absurd (omega arith)
in_blocks-without low slots (b ∷ live) a n zero s l read x =
    let e : b.0 ≡ a = ap (λ (p : ℕ × ℕ). p.0) (sym read) in
    let f : b.1 ≡ n = ap (λ (p : ℕ × ℕ). p.1) (sym read) in
    rw (eq-eqb b.0 a e, without-behind (b.0 + b.1) slots live a (omega (arith, e, s.0.some)) s.2, ← e, ← f)
    (first_out (lies_in b.0 (b.0 + b.1) x) (in_blocks live x) (λ i j. let u = lies_in-true b.0 (b.0 + b.1) x i in let v = in_blocks-from (b.0 + b.1) slots live x s.2 j in omega (arith, u.1, v)))
in_blocks-without low slots (b ∷ live) a n (suc k) s l read x =
    let later : b.0 + b.1 ≤ a = rw (ap (λ (p : ℕ × ℕ). p.0) (sym read)) at (starts_from (b.0 + b.1) slots live k (a, n) s.2 (omega arith)) in
    rw (ne_eqb b.0 a (λ e. omega (arith, e, later, s.0.some)), in_blocks-without (b.0 + b.1) slots live a n k s.2 (omega arith) read x)
    (other_stays (lies_in b.0 (b.0 + b.1) x) (in_blocks live x) (lies_in a (a + n) x) (λ i j. let u = lies_in-true b.0 (b.0 + b.1) x i in let v = lies_in-true a (a + n) x j in omega (arith, u.1, v.0, later)))

-- the block at a place is one in the slots
pub block_at : (low : ℕ) (slots : List ℕ) (live : List (ℕ × ℕ)) (b : ℕ × ℕ) (k : ℕ) → StandFrom low slots live → k < length live → b ≡ get_or live k b → IsBlock slots b
block_at low slots [] b k s l read = absurd (omega arith)
block_at low slots (c ∷ live) b zero s l read = let P : ℕ × ℕ → Type 0 = λ b. IsBlock slots b in subst P (sym read) s.0
block_at low slots (c ∷ live) b (suc k) s l read = block_at (c.0 + c.1) slots live b k s.2 (omega arith) read
