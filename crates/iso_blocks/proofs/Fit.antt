-- The first hole that is large enough starts at the lowest address of a free run.
use Rattle.std.proofs.Common.{◌⊎◌, refl, ◌%◌, ◌≡◌, ℕ, ◌+◌, ◌-◌, ◌<◌, ◌≤◌, true, List, [], ◌∷◌, length, get_or, arith, inl, inr, ⊎_elim, zero, suc}
use Rattle.std.proofs.lemmas.Bool.Decides.{nat_tests}
use Rattle.std.proofs.lemmas.Bool.{or_cases, or_right, le-leb, lt-ltb, false≢true, cases_lt}
use Rattle.iso_blocks.specs.Bytes.{lies_in}
use Rattle.iso_blocks.specs.Holes.{in_holes, StandApart, AreFree}

-- what it means that a byte lies between two ends
pub lies_in-true : (from end x : ℕ) → lies_in from end x ≡ true → (from ≤ x) × (x < end)
lies_in-true from end x h = grind (arith, nat_tests)

-- a byte of a row of holes lies at or after its start
pub in_holes-from : (from : ℕ) (holes : List (ℕ × ℕ)) (x : ℕ) → StandApart from holes → in_holes holes x ≡ true → from ≤ x
in_holes-from from [] x s e = absurd (false≢true e)
in_holes-from from (h ∷ holes) x s e =
    ⊎_elim (λ i. let j = lies_in-true h.0 h.1 x i in omega (arith, j))
    (λ i. let j = in_holes-from (h.1 + 1) holes x s.3 i in omega (arith, j, s.0, s.1))
    (or_cases (lies_in h.0 h.1 x) (in_holes holes x) e)

-- the byte after a hole isn't free
pub in_holes-end : (from : ℕ) (h : ℕ × ℕ) (holes : List (ℕ × ℕ)) → StandApart from (h ∷ holes) → in_holes (h ∷ holes) h.1 ≡ true → ⊥
in_holes-end from h holes s e =
    ⊎_elim (λ i. let j = lies_in-true h.0 h.1 h.1 i in omega (arith, j))
    (λ i. let j = in_holes-from (h.1 + 1) holes h.1 s.3 i in omega (arith, j))
    (or_cases (lies_in h.0 h.1 h.1) (in_holes holes h.1) e)

-- a byte past a first hole lies in the holes behind it
pub in_holes-past : (h : ℕ × ℕ) (holes : List (ℕ × ℕ)) (x : ℕ) → h.1 ≤ x → in_holes (h ∷ holes) x ≡ true → in_holes holes x ≡ true
in_holes-past h holes x past e =
    ⊎_elim (λ i. let j = lies_in-true h.0 h.1 x i in absurd (omega (arith, j))) (λ i. i) (or_cases (lies_in h.0 h.1 x) (in_holes holes x) e)

-- a free run that begins before the end of a first hole lies in that hole
pub AreFree-in_first : (from : ℕ) (h : ℕ × ℕ) (holes : List (ℕ × ℕ)) (a b : ℕ) → a < b → StandApart from (h ∷ holes) → a < h.1 → AreFree (h ∷ holes) a b
    → (h.0 ≤ a) × (b ≤ h.1)
AreFree-in_first from h holes a b some s before free =
    let low : h.0 ≤ a =
    ⊎_elim (λ i. let j = lies_in-true h.0 h.1 a i in j.0)
    (λ i. let j = in_holes-from (h.1 + 1) holes a s.3 i in absurd (omega (arith, j)))
    (or_cases (lies_in h.0 h.1 a) (in_holes holes a) (free a (omega arith) some)) in
    let high : b ≤ h.1 =
    ⊎_elim (λ i. absurd (in_holes-end from h holes s (free h.1 (omega arith) i))) (λ i. i) (cases_lt h.1 b) in
    (low, high)

-- a free run that begins at or after the end of a first hole lies in the holes behind it
pub AreFree-behind : (h : ℕ × ℕ) (holes : List (ℕ × ℕ)) (a b : ℕ) → h.1 ≤ a → AreFree (h ∷ holes) a b → AreFree holes a b
AreFree-behind h holes a b past free x low high = in_holes-past h holes x (omega arith) (free x low high)

-- a free run lies in the first hole, or in those behind it
pub AreFree-cases : (from : ℕ) (h : ℕ × ℕ) (holes : List (ℕ × ℕ)) (a b : ℕ) → a < b → StandApart from (h ∷ holes) → AreFree (h ∷ holes) a b
    → ((h.0 ≤ a) × (b ≤ h.1)) ⊎ ((h.1 ≤ a) × AreFree holes a b)
AreFree-cases from h holes a b some s free =
    ⊎_elim (λ i. inl (AreFree-in_first from h holes a b some s i free)) (λ i. inr (i, AreFree-behind h holes a b i free)) (cases_lt a h.1)

-- the first hole that is large enough starts at or before any free run of that size
pub lowest : (from : ℕ) (holes : List (ℕ × ℕ)) (k size a : ℕ) (d : ℕ × ℕ) → 0 < size → StandApart from holes → k < length holes
    → ((j : ℕ) → j < k → (get_or holes j d).1 - (get_or holes j d).0 < size) → AreFree holes a (a + size) → (get_or holes k d).0 ≤ a
lowest from [] k size a d some s l small free = absurd (omega arith)
lowest from (h ∷ holes) zero size a d some s l small free =
    ⊎_elim (λ i. i.0) (λ i. omega (arith, i.0, s.1)) (AreFree-cases from h holes a (a + size) (omega arith) s free)
lowest from (h ∷ holes) (suc k) size a d some s l small free =
    ⊎_elim (λ i. let e = small 0 (omega arith) in absurd (omega (arith, e, i.0, i.1)))
    (λ i. lowest (h.1 + 1) holes k size a d some s.3 (omega arith) (λ j m. small (suc j) (omega arith)) i.1)
    (AreFree-cases from h holes a (a + size) (omega arith) s free)

-- where no hole is large enough, no free run has that size
pub none_fits : (from : ℕ) (holes : List (ℕ × ℕ)) (size a : ℕ) (d : ℕ × ℕ) → 0 < size → StandApart from holes
    → ((j : ℕ) → j < length holes → (get_or holes j d).1 - (get_or holes j d).0 < size) → AreFree holes a (a + size) → ⊥
none_fits from [] size a d some s small free = false≢true (free a (omega arith) (omega arith))
none_fits from (h ∷ holes) size a d some s small free =
    ⊎_elim (λ i. let e = small 0 (omega arith) in omega (arith, e, i.0, i.1))
    (λ i. none_fits (h.1 + 1) holes size a d some s.3 (λ j m. small (suc j) (omega arith)) i.1)
    (AreFree-cases from h holes a (a + size) (omega arith) s free)

-- a hole starts at a multiple of 16, and its bytes are free
pub hole_at : (from : ℕ) (holes : List (ℕ × ℕ)) (k : ℕ) (d : ℕ × ℕ) → StandApart from holes → k < length holes
    → ((get_or holes k d).0 % 16 ≡ 0) × ((get_or holes k d).0 < (get_or holes k d).1) × AreFree holes (get_or holes k d).0 (get_or holes k d).1
hole_at from [] k d s l = absurd (omega arith)
hole_at from (h ∷ holes) zero d s l = (s.2, s.1, λ x low high. rw (le-leb h.0 x low, lt-ltb x h.1 high) refl)
hole_at from (h ∷ holes) (suc k) d s l =
    let r = hole_at (h.1 + 1) holes k d s.3 (omega arith) in
    (r.0, r.1, λ x low high. or_right (lies_in h.0 h.1 x) (in_holes holes x) (r.2 x low high))
