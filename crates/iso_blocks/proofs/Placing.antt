-- The first hole that is large enough is the lowest place.
use Rattle.std.proofs.Common.{subst, sym, ◌∙◌, ◌≡◌, ℕ, ◌-◌, ◌<◌, ◌≤◌, Bool, true, List, length, get_or, arith, ⊎_elim, Some, None, leb}
use Rattle.std.specs.List.{position, position_or_len}
use Rattle.std.proofs.lemmas.List.Sums.{fails_before_first, passes_at_first}
use Rattle.std.proofs.lemmas.Bool.{leb-true, leb-false, lt-ltb, le-ltb, cases_lt}
use Rattle.iso_blocks.specs.declared.layout.Layout.{Layout}
use Rattle.iso_blocks.specs.Heap.{Fits}
use Rattle.iso_blocks.specs.Kept.{heap_of, IsKept}
use Rattle.iso_blocks.proofs.Fit.{lowest, none_fits, hole_at}
use Rattle.iso_blocks.proofs.KeptBy.{fits_free}

-- the test that a hole is large enough
pub holds_size : ℕ → ℕ × ℕ → Bool
holds_size size h = leb size (h.1 - h.0)

pub position_within : (p : ℕ × ℕ → Bool) (xs : List (ℕ × ℕ)) (k : ℕ) → position p xs ≡ Some k → (k < length xs) × (position_or_len p xs ≡ k)
position_within p xs k e =
    ⊎_elim (λ i. let r : Some (position_or_len p xs) ≡ Some k = rw (lt-ltb (position_or_len p xs) (length xs) i) at e in let s : position_or_len p xs ≡ k = cc in (omega (arith, i, s), s))
    (λ i. let r : None ≡ Some k = rw (le-ltb (position_or_len p xs) (length xs) i) at e in absurd (cc r))
    (cases_lt (position_or_len p xs) (length xs))

pub position_past : (p : ℕ × ℕ → Bool) (xs : List (ℕ × ℕ)) → position p xs ≡ None → length xs ≤ position_or_len p xs
position_past p xs e =
    ⊎_elim (λ i. let r : Some (position_or_len p xs) ≡ None = rw (lt-ltb (position_or_len p xs) (length xs) i) at e in absurd (cc r)) (λ i. i)
    (cases_lt (position_or_len p xs) (length xs))

pub first_is_lowest : (l : Layout) (size k : ℕ) (h : ℕ × ℕ) → IsKept l → 16 ≤ size → position (λ (h : ℕ × ℕ). leb size (h.1 - h.0)) l.holes.items ≡ Some k → h ≡ get_or l.holes.items k h
    → Fits (heap_of l) size h.0 × ((a : ℕ) → Fits (heap_of l) size a → h.0 ≤ a)
first_is_lowest l size k h kept some e read =
    let p : ℕ × ℕ → Bool = λ h. leb size (h.1 - h.0) in
    let xs = l.holes.items in
    let w = position_within p xs k e in
    let passes : leb size ((get_or xs k h).1 - (get_or xs k h).0) ≡ true =
    let P : ℕ → Type 0 = λ k. p (get_or xs k h) ≡ true in subst P w.1 (passes_at_first p xs h (omega (arith, w.0, w.1))) in
    let large = leb-true _ _ passes in
    let at = hole_at 0 xs k h kept.apart w.0 in
    let P : ℕ × ℕ → Type 0 = λ g. Fits (heap_of l) size g.0 × ((a : ℕ) → Fits (heap_of l) size a → g.0 ≤ a) in
    subst P (sym read) (
      record { aligned = at.0; free = λ x lo hi. sym (kept.bytes x) ∙ at.2 x lo (omega (arith, hi, large, at.1)) },
      λ a f. lowest 0 xs k size a h (omega arith) kept.apart w.0 (λ j b. leb-false _ _ (fails_before_first p xs j h (omega (arith, b, w.1)))) (fits_free l size a kept f),
    )

pub none_is_lowest : (l : Layout) (size : ℕ) → IsKept l → 16 ≤ size → position (λ (h : ℕ × ℕ). leb size (h.1 - h.0)) l.holes.items ≡ None → (a : ℕ) → Fits (heap_of l) size a → ⊥
none_is_lowest l size kept some e a f =
    let p : ℕ × ℕ → Bool = λ h. leb size (h.1 - h.0) in
    let past = position_past p l.holes.items e in
    none_fits 0 l.holes.items size a (0, 0) (omega arith) kept.apart (λ j b. leb-false _ _ (fails_before_first p l.holes.items j (0, 0) (omega (arith, b, past)))) (fits_free l size a kept f)
