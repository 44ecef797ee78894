-- General lemmas of choices, lists and prefixes, for every crate.
use Rattle.std.proofs.Common.{◌≡◌, ◌≢◌, ℕ, ◌+◌, ◌-◌, zero, suc, ◌<◌, ◌≤◌, Bool, true, false, eqb, eqb-true, ltb, ltb-true, ltb-false, List, [], ◌∷◌, ◌++◌, length, set, get_or, refl, sym, ap, ◌∙◌, subst, arith, Some, length-append, length-set, append_assoc, append-nil}
use Rattle.std.proofs.lemmas.Bool.{eqb-false}
use Rattle.std.proofs.lemmas.List.{set-append_left, set-append_right, get_or_append_left, get_or-append_right}
use Rattle.std.proofs.lemmas.Option.{slice_get-get_or, same_Some}
use Rattle.std.specs.Prelude.{slice_get}
use Rattle.std.specs.List.{flat_map, range_with_len}
use mathlib.Core.List.{IsPrefix}

-- ## Choices

-- a test is true or false
pub by_test : {X : Type 0} (t : Bool) → (t ≡ true → X) → (t ≡ false → X) → X
by_test true y n = y refl
by_test false y n = n refl

-- two numbers are one or not
pub by_eq : {X : Type 0} (i k : ℕ) → (i ≡ k → X) → (i ≢ k → X) → X
by_eq i k y n = by_test (eqb i k) (λ t. y (eqb-true i k t)) (λ t. n (eqb-false i k t))

-- a number is below another or not
pub by_less : {X : Type 0} (i j : ℕ) → (i < j → X) → (j ≤ i → X) → X
by_less i j l g = by_test (ltb i j) (λ t. l (ltb-true i j t)) (λ t. g (ltb-false i j t))

-- p, q is i, j, or j, i, or another pair
pub by_pair : {X : Type 0} (p q i j : ℕ) → (p ≡ i → q ≡ j → X) → (p ≡ j → q ≡ i → X) → ((p ≡ i → q ≡ j → ⊥) → (p ≡ j → q ≡ i → ⊥) → X) → X
by_pair p q i j one two other = by_eq p i
    (λ e. by_eq q j (λ f. one e f) (λ nf. by_eq p j (λ e'. by_eq q i (λ f'. two e' f') (λ nf'. other (λ _ f. nf f) (λ _ f. nf' f))) (λ ne'. other (λ _ f. nf f) (λ e' _. ne' e'))))
    (λ ne. by_eq p j (λ e. by_eq q i (λ f. two e f) (λ nf. other (λ e' _. ne e') (λ _ f. nf f))) (λ ne'. other (λ e _. ne e) (λ e _. ne' e)))

-- ## What stands at a place of a list

module _ {A : Type 0} where
  -- what was written at a place stands there
  pub get_set_same : (xs : List A) (k : ℕ) (v : A) → k < length xs → slice_get (set xs k v) k ≡ Some v
  get_set_same [] k v h = absurd (omega arith)
  get_set_same (x ∷ xs) zero v h = refl
  get_set_same (x ∷ xs) (suc k) v h = get_set_same xs k v (omega arith)

  -- and each other place is as it was
  pub get_set_other : (xs : List A) (i k : ℕ) (v : A) → i ≢ k → slice_get (set xs k v) i ≡ slice_get xs i
  get_set_other [] i k v h = refl
  get_set_other (x ∷ xs) zero zero v h = absurd (h refl)
  get_set_other (x ∷ xs) zero (suc k) v h = refl
  get_set_other (x ∷ xs) (suc i) zero v h = refl
  get_set_other (x ∷ xs) (suc i) (suc k) v h = get_set_other xs i k v (λ e. h (ap suc e))

  -- what stands at a place, written there, changes nothing
  pub set_get : (xs : List A) (k : ℕ) (v : A) → slice_get xs k ≡ Some v → set xs k v ≡ xs
  set_get [] k v h = refl
  set_get (x ∷ xs) zero v h = ap (λ y. y ∷ xs) (same_Some v x (cc))
  set_get (x ∷ xs) (suc k) v h = ap (λ ys. x ∷ ys) (set_get xs k v h)

  -- an item put behind a list stands at its length
  pub get_last : (xs : List A) (x : A) → slice_get (xs ++ x ∷ []) (length xs) ≡ Some x
  get_last [] x = refl
  get_last (y ∷ ys) x = get_last ys x

  -- and each other place is as it was
  pub get_before : (xs : List A) (i : ℕ) (x : A) → i ≢ length xs → slice_get (xs ++ x ∷ []) i ≡ slice_get xs i
  get_before [] zero x h = absurd (h refl)
  get_before [] (suc i) x h = refl
  get_before (y ∷ ys) zero x h = refl
  get_before (y ∷ ys) (suc i) x h = get_before ys i x (λ e. h (ap suc e))

  -- at each place below the length something stands
  pub some_at : (xs : List A) (i : ℕ) → i < length xs → (x : A) × (slice_get xs i ≡ Some x)
  some_at [] i h = absurd (omega arith)
  some_at (x ∷ xs) zero h = (x, refl)
  some_at (x ∷ xs) (suc i) h = some_at xs i (omega arith)

-- ## A list in two parts

-- two items of a list, written through its two parts
pub set_two : {A : Type 0} (xs f b : List A) (i j : ℕ) (u v : A) → xs ≡ f ++ b → length f ≡ j → i < j → set f i u ++ set b 0 v ≡ set (set xs i u) j v
set_two xs f b i j u v e n h =
    let l : i < length f = omega arith in
    let z : j - j ≡ 0 = omega arith in
    rw (e, set-append_left f b i u l, set-append_right (set f i u) b j j v (length-set f i u ∙ n) (omega arith), z) refl

-- what stands in the first part stands at the same place of the list
pub get_front : {A : Type 0} (xs f b : List A) (i : ℕ) (d : A) → xs ≡ f ++ b → i < length f → slice_get xs i ≡ Some (get_or f i d)
get_front xs f b i d e h = subst (λ ys. slice_get ys i ≡ Some (get_or f i d)) (sym e)
    (slice_get-get_or (f ++ b) i d (omega (arith, length-append f b)) ∙ ap Some (get_or_append_left f b d i h))

-- the first item of the second part stands at the length of the first
pub get_back : {A : Type 0} (xs f b : List A) (j : ℕ) (d : A) → xs ≡ f ++ b → length f ≡ j → j < length xs → slice_get xs j ≡ Some (get_or b 0 d)
get_back xs f b j d e n h =
    let z : j - j ≡ 0 = omega arith in
    slice_get-get_or xs j d h ∙ ap Some (ap (λ ys. get_or ys j d) e ∙ get_or-append_right f b j j d n (omega arith) ∙ ap (λ k. get_or b k d) z)

-- ## A list made item by item from numbers in a row

-- the first of those that are left
pub range_left : (n k : ℕ) → k < n → range_with_len k (n - k) ≡ k ∷ range_with_len (k + 1) (n - (k + 1))
range_left n k h = let more : n - k ≡ suc (n - (k + 1)) = omega arith in rw more refl

-- one more is made
pub one_more : {A : Type 0} (f : ℕ → List A) (now new whole : List A) (n k : ℕ) → k < n → new ≡ now ++ f k
    → now ++ flat_map f (range_with_len k (n - k)) ≡ whole → new ++ flat_map f (range_with_len (k + 1) (n - (k + 1))) ≡ whole
one_more f now new whole n k h e so_far =
    let rest = flat_map f (range_with_len (k + 1) (n - (k + 1))) in
    ap (λ x. x ++ rest) e ∙ append_assoc now (f k) rest ∙ ap (λ ks. now ++ flat_map f ks) (sym (range_left n k h)) ∙ so_far

-- ## Prefixes

-- a list begins itself
pub prefix_refl : {A : Type 0} (xs : List A) → IsPrefix xs xs
prefix_refl xs = ([], append-nil xs)

-- what begins the beginning of a list begins it
pub prefix_trans : {A : Type 0} (xs ys zs : List A) → IsPrefix xs ys → IsPrefix ys zs → IsPrefix xs zs
prefix_trans xs ys zs h k = (h.0 ++ k.0, sym (append_assoc xs h.0 k.0) ∙ (ap (λ u. u ++ k.0) h.1 ∙ k.1))
