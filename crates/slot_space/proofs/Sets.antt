-- Who the members are after each change of a set.
use Rattle.std.proofs.Common.{◌≡◌, ℕ, List, [], ◌∷◌, true, false, eqb, cond, refl, ◌++◌, arith}
use Rattle.std.proofs.lemmas.Bool.{eq-eqb, eqb-true}
pub use Rattle.slot_space.specs.WordsBack.{has-filter, has-run}
use Rattle.slot_space.specs.Sets.{has, insert, union, minus, meets}

pub has-insert : (x s : ℕ) (ys : List ℕ) → has s (insert x ys) ≡ cond (eqb x s) true (has s ys)
unfolding insert
has-insert x s [] = refl
has-insert x s (y ∷ ys) = grind (arith, has-insert x s ys, eqb-true x y)

pub has-union : (s : ℕ) (xs ys : List ℕ) → has s (union xs ys) ≡ cond (has s xs) true (has s ys)
unfolding union
has-union s [] ys = refl
has-union s (x ∷ xs) ys = grind (arith, has-insert x s (union xs ys), has-union s xs ys)

pub has-minus : (s : ℕ) (xs ys : List ℕ) → has s (minus xs ys) ≡ cond (has s ys) false (has s xs)
unfolding minus
has-minus s [] ys = elim (has s ys) as (λ v. false ≡ cond v false false) [ true ↦ refl | false ↦ refl ]
has-minus s (x ∷ xs) ys = grind (arith, has-minus s xs ys, eqb-true x s)

-- two sets that meet have a member in common
pub meets-some : (xs ys : List ℕ) → meets xs ys ≡ true → (s : ℕ) × (has s xs ≡ true) × (has s ys ≡ true)
unfolding meets
meets-some [] ys h = absurd (cc h)
meets-some (x ∷ xs) ys h = elim (has x ys) as (λ o. has x ys ≡ o → cond o true (meets xs ys) ≡ true → (s : ℕ) × (has s (x ∷ xs) ≡ true) × (has s ys ≡ true)) [
  | true ↦ λ e g. (x, rw (eq-eqb x x refl) refl, e)
  | false ↦ λ e g. let k = meets-some xs ys g in (k.0, grind (arith, k.1), k.2)
] refl h

-- and two that have one meet
pub meets-common : (s : ℕ) (xs ys : List ℕ) → has s xs ≡ true → has s ys ≡ true → meets xs ys ≡ true
unfolding meets
meets-common s [] ys h g = absurd (cc h)
meets-common s (x ∷ xs) ys h g = grind (arith, h, g, meets-common s xs ys, eqb-true x s)

pub has-append : (s : ℕ) (xs ys : List ℕ) → has s (xs ++ ys) ≡ cond (has s xs) true (has s ys)
has-append s [] ys = refl
has-append s (x ∷ xs) ys = grind (arith, has-append s xs ys)
