-- The neighbours of a block in the row.
use Rattle.std.proofs.Common.{◌⊎◌, refl, sym, ◌∙◌, ap, ◌≡◌, ℕ, ◌+◌, ◌-◌, ◌^◌, ◌<◌, ◌≤◌, Bool, true, false, List, [], ◌∷◌, length, get_or, take, drop, arith, ⊎_elim, zero, suc, inl, inr, ◌||◌, ◌&&◌, not}
use Rattle.std.specs.Prelude.{nat_lt, nat_le}
use Rattle.std.proofs.lemmas.Bool.Decides.{nat_tests}
use Rattle.std.proofs.lemmas.Bool.{false≢true, le-leb, lt-ltb, eq-eqb, ne_eqb, cases_lt, or_cases, or_right}
use Rattle.slot_space.specs.Limits.{slot_size, slot_limit}
use Rattle.slot_space.specs.Addresses.{slot_base, HoldsAddress}
use Rattle.iso_blocks.specs.Bytes.{is_met}
use Rattle.iso_blocks.specs.Heap.{StandFrom, without}
use Rattle.iso_blocks.specs.Neighbours.{end_before, start_of, Owns}
use Rattle.iso_blocks.proofs.LiveBlocks.{meets, or-assoc, without-behind}

-- the end before a place is the end of the block before it
pub end_before-read : (low : ℕ) (live : List (ℕ × ℕ)) (j : ℕ) (d : ℕ × ℕ) → j < length live → end_before low live (suc j) ≡ (get_or live j d).0 + (get_or live j d).1
end_before-read low [] j d l = absurd (omega arith)
end_before-read low (b ∷ live) zero d l = refl
end_before-read low (b ∷ live) (suc j) d l = end_before-read (b.0 + b.1) live j d (omega arith)

-- a row's start comes at or before the end before a place
stand_end : (low : ℕ) (slots : List ℕ) (live : List (ℕ × ℕ)) (k : ℕ) → StandFrom low slots live → low ≤ end_before low live k
stand_end low slots live zero s = omega arith
stand_end low slots [] (suc k) s = omega arith
stand_end low slots (b ∷ live) (suc k) s = let r = stand_end (b.0 + b.1) slots live k s.2 in omega (arith, r, s.1)

-- and that end at or before the block there
stand_at : (low : ℕ) (slots : List ℕ) (live : List (ℕ × ℕ)) (k a n : ℕ) → StandFrom low slots live → k < length live → (a, n) ≡ get_or live k (a, n) → end_before low live k ≤ a
stand_at low slots [] k a n s l read = absurd (omega arith)
stand_at low slots (b ∷ live) zero a n s l read = let e : a ≡ b.0 = ap (λ (p : ℕ × ℕ). p.0) read in omega (arith, e, s.1)
stand_at low slots (b ∷ live) (suc k) a n s l read = stand_at (b.0 + b.1) slots live k a n s.2 (omega arith) read

-- the blocks behind one stand from its end on
stand_behind : (low : ℕ) (slots : List ℕ) (live : List (ℕ × ℕ)) (k a n : ℕ) → StandFrom low slots live → k < length live → (a, n) ≡ get_or live k (a, n) → StandFrom (a + n) slots (drop (suc k) live)
stand_behind low slots [] k a n s l read = absurd (omega arith)
stand_behind low slots (b ∷ live) zero a n s l read =
    let p : a ≡ b.0 = ap (λ (p : ℕ × ℕ). p.0) read in let q : n ≡ b.1 = ap (λ (p : ℕ × ℕ). p.1) read in rw (p, q) s.2
stand_behind low slots (b ∷ live) (suc k) a n s l read = stand_behind (b.0 + b.1) slots live k a n s.2 (omega arith) read

meets-parts : (b : ℕ × ℕ) (s : ℕ) → meets b s ≡ true → (b.0 < slot_base s + slot_size) × (slot_base s < b.0 + b.1)
meets-parts b s e = grind (arith, nat_tests)

meets-from : (b : ℕ × ℕ) (s : ℕ) → b.0 < slot_base s + slot_size → slot_base s < b.0 + b.1 → meets b s ≡ true
meets-from b s p q = rw (lt-ltb b.0 (slot_base s + slot_size) p, lt-ltb (slot_base s) (b.0 + b.1) q) refl

-- a slot that the blocks before a place meet begins before their end
before_met : (low : ℕ) (slots : List ℕ) (live : List (ℕ × ℕ)) (k s : ℕ) → StandFrom low slots live → is_met (take k live) s ≡ true → slot_base s < end_before low live k
before_met low slots live zero s h e = absurd (false≢true e)
before_met low slots [] (suc k) s h e = absurd (false≢true e)
before_met low slots (b ∷ live) (suc k) s h e =
    ⊎_elim (λ i. let r = stand_end (b.0 + b.1) slots live k h.2 in let m = meets-parts b s i in omega (arith, r, m.1))
    (λ i. before_met (b.0 + b.1) slots live k s h.2 i) (or_cases (meets b s) (is_met (take k live) s) e)

-- the slot in which the blocks before a place end is met by them
before_last : (low : ℕ) (slots : List ℕ) (live : List (ℕ × ℕ)) (k s : ℕ) → StandFrom low slots live → low ≤ slot_base s → slot_base s < end_before low live k
    → end_before low live k < slot_base s + slot_size → is_met (take k live) s ≡ true
before_last low slots live zero s h le less near = absurd (omega arith)
before_last low slots [] (suc k) s h le less near = absurd (omega arith)
before_last low slots (b ∷ live) (suc k) s h le less near =
    ⊎_elim (λ i. let r = stand_end (b.0 + b.1) slots live k h.2 in rw (meets-from b s (omega (arith, r, h.0.some)) i) refl)
    (λ i. or_right (meets b s) (is_met (take k live) s) (before_last (b.0 + b.1) slots live k s h.2 i less near))
    (cases_lt (slot_base s) (b.0 + b.1))

-- a slot that blocks meet ends behind their start
after_met : (low : ℕ) (slots : List ℕ) (live : List (ℕ × ℕ)) (s : ℕ) → StandFrom low slots live → is_met live s ≡ true → start_of live < slot_base s + slot_size
after_met low slots [] s h e = absurd (false≢true e)
after_met low slots (b ∷ []) s h e = ⊎_elim (λ i. (meets-parts b s i).0) (λ i. absurd (false≢true i)) (or_cases (meets b s) false e)
after_met low slots (b ∷ (c ∷ live)) s h e =
    ⊎_elim (λ i. (meets-parts b s i).0) (λ i. let r = after_met (b.0 + b.1) slots (c ∷ live) s h.2 i in omega (arith, r, h.2.1)) (or_cases (meets b s) (is_met (c ∷ live) s) e)

-- the slot in which blocks start is met by them
after_first : (low : ℕ) (slots : List ℕ) (live : List (ℕ × ℕ)) (s : ℕ) → StandFrom low slots live → s < slot_limit → slot_base s < start_of live → start_of live < slot_base s + slot_size → is_met live s ≡ true
after_first low slots [] s h small less near = absurd (omega arith)
after_first low slots (b ∷ live) s h small less near = rw (meets-from b s near (omega (arith, h.0.some))) refl

start_low : (low : ℕ) (slots : List ℕ) (live : List (ℕ × ℕ)) → StandFrom low slots live → low < 2 ^ 64 → low ≤ start_of live
start_low low slots [] h l = omega arith
start_low low slots (b ∷ live) h l = h.1

-- who meets a slot: the blocks before a place, the one there, and those behind
is_met-split : (live : List (ℕ × ℕ)) (k a n s : ℕ) → k < length live → (a, n) ≡ get_or live k (a, n)
    → is_met live s ≡ (is_met (take k live) s || (meets (a, n) s || is_met (drop (suc k) live) s))
is_met-split [] k a n s l read = absurd (omega arith)
is_met-split (b ∷ live) zero a n s l read =
    let p : a ≡ b.0 = ap (λ (p : ℕ × ℕ). p.0) read in let q : n ≡ b.1 = ap (λ (p : ℕ × ℕ). p.1) read in rw (p, q) refl
is_met-split (b ∷ live) (suc k) a n s l read =
    rw (is_met-split live k a n s (omega arith) read) (or-assoc (meets b s) (is_met (take k live) s) (meets (a, n) s || is_met (drop (suc k) live) s))

is_met-around : (low : ℕ) (slots : List ℕ) (live : List (ℕ × ℕ)) (k a n s : ℕ) → StandFrom low slots live → k < length live → (a, n) ≡ get_or live k (a, n)
    → is_met (without live a) s ≡ (is_met (take k live) s || is_met (drop (suc k) live) s)
is_met-around low slots [] k a n s h l read = absurd (omega arith)
is_met-around low slots (b ∷ live) zero a n s h l read =
    let p : b.0 ≡ a = ap (λ (p : ℕ × ℕ). p.0) (sym read) in
    rw (eq-eqb b.0 a p, without-behind (b.0 + b.1) slots live a (omega (arith, p, h.0.some)) h.2) refl
is_met-around low slots (b ∷ live) (suc k) a n s h l read =
    let le = stand_at (b.0 + b.1) slots live k a n h.2 (omega arith) read in
    let e = stand_end (b.0 + b.1) slots live k h.2 in
    rw (ne_eqb b.0 a (λ i. omega (arith, le, e, h.0.some, i)), is_met-around (b.0 + b.1) slots live k a n s h.2 (omega arith) read)
    (or-assoc (meets b s) (is_met (take k live) s) (is_met (drop (suc k) live) s))

outcome : (p m q r : Bool) → (r ≡ true → p ≡ true → ⊥) → (r ≡ true → q ≡ true → ⊥) → (m ≡ true → r ≡ false → (p || q) ≡ true) → (p || q) ≡ ((p || (m || q)) && not r)
outcome true m q true f g h = absurd (f refl refl)
outcome true m q false f g h = refl
outcome false m true true f g h = absurd (g refl refl)
outcome false true false true f g h = refl
outcome false false false true f g h = refl
outcome false true true false f g h = refl
outcome false true false false f g h = h refl refl
outcome false false true false f g h = refl
outcome false false false false f g h = refl

-- which slots are met once a block goes: those that were, but the ones that are its own
pub is_met-gone : (slots : List ℕ) (live : List (ℕ × ℕ)) (k a n first count from end s : ℕ) → StandFrom 0 slots live → k < length live → (a, n) ≡ get_or live k (a, n) → 16 ≤ n
    → HoldsAddress first a → HoldsAddress (first + count - 1) (a + n - 1) → 0 < count → first + count ≤ slot_limit
    → Owns (end_before 0 live k) (start_of (drop (suc k) live)) first count from end
    → is_met (without live a) s ≡ (is_met live s && not (nat_le from s && nat_lt s end))
is_met-gone slots live k a n first count from end s h l read some f g c small o =
    let behind = stand_behind 0 slots live k a n h l read in
    let near = stand_at 0 slots live k a n h l read in
    let past = start_low (a + n) slots (drop (suc k) live) behind (omega (arith, g.1)) in
    let before : ℕ = end_before 0 live k in
    let after : ℕ = start_of (drop (suc k) live) in
    rw (is_met-around 0 slots live k a n s h l read, is_met-split live k a n s l read)
    (outcome (is_met (take k live) s) (meets (a, n) s) (is_met (drop (suc k) live) s) (nat_le from s && nat_lt s end)
    (λ r p. let w = within from end s r in let b = before_met 0 slots live k s h p in
    ⊎_elim (λ i. let e = o.from_shared i in omega (arith, w.0, b, near, f.1, e)) (λ i. let e = o.from_own i in omega (arith, w.0, b, i, e)) (cases_lt (slot_base first) before))
    (λ r q. let w = within from end s r in let b = after_met (a + n) slots (drop (suc k) live) s behind q in
    ⊎_elim (λ i. let e = o.end_shared i in omega (arith, w.1, b, past, g.0, e)) (λ i. let e = o.end_own i in omega (arith, w.1, b, i, e)) (cases_lt after (slot_base (first + count))))
    (λ m r. let t = meets-parts (a, n) s m in
    ⊎_elim (λ i. ⊎_elim
    (λ j. let e = o.from_shared j in
    or-left (is_met (take k live) s) (is_met (drop (suc k) live) s) (before_last 0 slots live k s h (omega arith) (omega (arith, i, j, e, t.0, t.1, f.0)) (omega (arith, near, f.1, i, e, t.0, f.0))))
    (λ j. let e = o.from_own j in absurd (omega (arith, i, e, t.0, f.0)))
    (cases_lt (slot_base first) before))
    (λ i. ⊎_elim
    (λ j. let e = o.end_shared j in
    or_right (is_met (take k live) s) (is_met (drop (suc k) live) s) (after_first (a + n) slots (drop (suc k) live) s behind (omega (arith, t.1, g.1, small)) (omega (arith, t.1, past)) (omega (arith, j, i, e))))
    (λ j. let e = o.end_own j in absurd (omega (arith, i, e, t.1, g.1)))
    (cases_lt after (slot_base (first + count))))
    (outside from end s r)))
  where
    within : (from end s : ℕ) → (nat_le from s && nat_lt s end) ≡ true → (from ≤ s) × (s < end)
    within from end s e = grind (arith, nat_tests)

    outside : (from end s : ℕ) → (nat_le from s && nat_lt s end) ≡ false → (s < from) ⊎ (end ≤ s)
    outside from end s e = ⊎_elim (λ i. inl i) (λ i. ⊎_elim (λ j. absurd (false≢true (sym e ∙ rw (le-leb from s i, lt-ltb s end j) refl))) (λ j. inr j) (cases_lt s end)) (cases_lt s from)

    or-left : (x y : Bool) → x ≡ true → (x || y) ≡ true
    or-left true y e = refl
    or-left false y e = absurd (false≢true e)
