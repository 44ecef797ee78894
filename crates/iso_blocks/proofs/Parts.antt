-- A row of holes cut in two parts, at the hole where an edit begins.
use Rattle.std.proofs.Common.{refl, ap, ◌≡◌, ℕ, ◌+◌, ◌<◌, ◌≤◌, List, [], ◌∷◌, ◌++◌, length, get_or, arith, ⊎_elim, zero, suc, take, drop}
use Rattle.std.specs.List.{AllWithin}
use Rattle.std.specs.List.Sorted.{IsNonDecreasingBy}
use Rattle.std.proofs.lemmas.Bool.{false≢true, le-leb, lt-ltb}
use Rattle.iso_blocks.specs.Holes.{StandApart, AreFree, cut, join}
use Rattle.iso_blocks.proofs.Fit.{AreFree-cases}

-- the ends of holes rise
ends_from : (low : ℕ) (holes : List (ℕ × ℕ)) (j : ℕ) (d : ℕ × ℕ) → StandApart low holes → j < length holes → low ≤ (get_or holes j d).1
ends_from low [] j d s l = absurd (omega arith)
ends_from low (h ∷ holes) zero d s l = omega (arith, s.0, s.1)
ends_from low (h ∷ holes) (suc j) d s l = let r = ends_from (h.1 + 1) holes j d s.3 (omega arith) in omega (arith, r, s.0, s.1)

pub ends_rise : (low : ℕ) (holes : List (ℕ × ℕ)) → StandApart low holes → IsNonDecreasingBy (λ (h : ℕ × ℕ). h.1) holes
ends_rise low [] s i j d le l = absurd (omega arith)
ends_rise low (h ∷ holes) s zero zero d le l = omega arith
ends_rise low (h ∷ holes) s zero (suc j) d le l = let r = ends_from (h.1 + 1) holes j d s.3 (omega arith) in omega (arith, r)
ends_rise low (h ∷ holes) s (suc i) zero d le l = absurd (omega arith)
ends_rise low (h ∷ holes) s (suc i) (suc j) d le l = ends_rise (h.1 + 1) holes s.3 i j d (omega arith) (omega arith)

-- a join goes past the holes that end before it
pub join-past : (from end : ℕ) (holes : List (ℕ × ℕ)) (k : ℕ) → k ≤ length holes → AllWithin (λ (h : ℕ × ℕ). h.1 < from) holes 0 k
    → join from end holes ≡ take k holes ++ join from end (drop k holes)
join-past from end holes zero le before = refl
join-past from end [] (suc k) le before = absurd (omega arith)
join-past from end (h ∷ holes) (suc k) le before =
    let first : h.1 < from = before 0 h (omega arith) (omega arith) in
    rw (lt-ltb h.1 from first) (ap (λ t. h ∷ t) (join-past from end holes k (omega arith) (λ j d low high. before (suc j) d (omega arith) (omega arith))))

-- a cut goes past the holes that end at or before it
pub cut-past : (from end : ℕ) (holes : List (ℕ × ℕ)) (k : ℕ) → k ≤ length holes → AllWithin (λ (h : ℕ × ℕ). h.1 < from + 1) holes 0 k
    → cut from end holes ≡ take k holes ++ cut from end (drop k holes)
cut-past from end holes zero le before = refl
cut-past from end [] (suc k) le before = absurd (omega arith)
cut-past from end (h ∷ holes) (suc k) le before =
    let first : h.1 < from + 1 = before 0 h (omega arith) (omega arith) in
    rw (le-leb h.1 from (omega arith)) (ap (λ t. h ∷ t) (cut-past from end holes k (omega arith) (λ j d low high. before (suc j) d (omega arith) (omega arith))))

-- a free run lies in the first hole that ends behind its start
pub found : (low : ℕ) (holes : List (ℕ × ℕ)) (k from end : ℕ) (d : ℕ × ℕ) → from < end → StandApart low holes → AreFree holes from end
    → AllWithin (λ (h : ℕ × ℕ). h.1 < from + 1) holes 0 k → AllWithin (λ (h : ℕ × ℕ). from + 1 ≤ h.1) holes k (length holes) → k ≤ length holes
    → (k < length holes) × ((get_or holes k d).0 ≤ from) × (end ≤ (get_or holes k d).1)
found low [] k from end d some s free before behind le = absurd (false≢true (free from (omega arith) some))
found low (h ∷ holes) zero from end d some s free before behind le =
    let past : from + 1 ≤ h.1 = behind 0 h (omega arith) (omega arith) in
    ⊎_elim (λ i. (omega arith, i.0, i.1)) (λ i. absurd (omega (arith, i.0))) (AreFree-cases low h holes from end some s free)
found low (h ∷ holes) (suc k) from end d some s free before behind le =
    let first : h.1 < from + 1 = before 0 h (omega arith) (omega arith) in
    ⊎_elim (λ i. absurd (omega (arith, i.1)))
    (λ i. let r = found (h.1 + 1) holes k from end d some s.3 i.1 (λ j e low' high. before (suc j) e (omega arith) (omega arith))
    (λ j e low' high. behind (suc j) e (omega arith) (omega arith)) (omega arith) in
    (omega (arith, r.0), r.1, r.2))
    (AreFree-cases low h holes from end some s free)
