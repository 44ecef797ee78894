-- How many members a set has after a change.
use Rattle.std.proofs.Common.{sym, refl, ◌≡◌, ℕ, ◌+◌, true, false, List, [], ◌∷◌, length, arith, ⊎_elim}
use Rattle.std.proofs.lemmas.Bool.{false≢true, true≢false, lt-ltb, le-ltb, eq-eqb, ne_eqb, cases_lt, cases_eq, cases_Bool}
use Rattle.slot_space.specs.Sets.{has, insert, minus, IsAscending}

-- a new member makes the set longer by one
pub length-insert : (s : ℕ) (xs : List ℕ) → has s xs ≡ false → length (insert s xs) ≡ length xs + 1
unfolding insert
length-insert s [] h = refl
length-insert s (x ∷ xs) h =
    ⊎_elim (λ e. absurd (true≢false (rw (eq-eqb x s e) at h)))
    (λ e. ⊎_elim (λ i. rw (lt-ltb s x i) (omega arith))
    (λ i. rw (le-ltb s x i, ne_eqb s x (λ j. e (sym j))) (let r = length-insert s xs (rw (ne_eqb x s e) at h) in omega (arith, r)))
    (cases_lt s x))
    (cases_eq x s)

-- a member that is there comes in without a change
pub insert-same : (s : ℕ) (xs : List ℕ) → IsAscending xs → has s xs ≡ true → insert s xs ≡ xs
unfolding insert
insert-same s [] r h = absurd (false≢true h)
insert-same s (x ∷ xs) r h =
    ⊎_elim (λ e. rw (le-ltb s x (omega (arith, e)), eq-eqb s x (sym e)) refl)
    (λ e. let later : has s xs ≡ true = rw (ne_eqb x s e) at h in
    let less = r.0 s later in
    rw (le-ltb s x (omega (arith, less)), ne_eqb s x (λ j. e (sym j)), insert-same s xs r.1 later) refl)
    (cases_eq x s)

minus-none : (s : ℕ) (xs : List ℕ) → has s xs ≡ false → minus xs (s ∷ []) ≡ xs
unfolding minus
minus-none s [] h = refl
minus-none s (x ∷ xs) h =
    ⊎_elim (λ e. absurd (true≢false (rw (eq-eqb x s e) at h)))
    (λ e. rw (ne_eqb s x (λ j. e (sym j)), minus-none s xs (rw (ne_eqb x s e) at h)) refl)
    (cases_eq x s)

-- a member that goes makes the set shorter by one
pub length-minus : (s : ℕ) (xs : List ℕ) → IsAscending xs → has s xs ≡ true → length (minus xs (s ∷ [])) + 1 ≡ length xs
unfolding minus
length-minus s [] r h = absurd (false≢true h)
length-minus s (x ∷ xs) r h =
    ⊎_elim (λ e. rw (eq-eqb s x (sym e), minus-none s xs (gone s x xs e r)) (omega arith))
    (λ e. rw (ne_eqb s x (λ j. e (sym j))) (let q = length-minus s xs r.1 (rw (ne_eqb x s e) at h) in omega (arith, q)))
    (cases_eq x s)
  where
    gone : (s x : ℕ) (xs : List ℕ) → x ≡ s → IsAscending (x ∷ xs) → has s xs ≡ false
    gone s x xs e r = ⊎_elim (λ i. let less = r.0 s i in absurd (omega (arith, less, e))) (λ i. i) (cases_Bool (has s xs))
