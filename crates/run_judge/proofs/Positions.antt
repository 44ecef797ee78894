-- Where a test passes first, and that it passes nowhere.
use Rattle.std.proofs.Common.{◌≡◌, ℕ, zero, suc, ◌+◌, ◌<◌, ◌≤◌, List, [], ◌∷◌, Some, None, Bool, true, false, cond, ltb, not, refl, arith, length, get_or}
use Rattle.std.specs.List.{position, position_or_len, prefix_len}
use Rattle.std.proofs.lemmas.Bool.{ltb-false}

none_from : {X : Type 0} (p : X → Bool) (xs : List X) → length xs ≤ prefix_len (λ x. not (p x)) xs → (m : ℕ) (d : X) → m < length xs → p (get_or xs m d) ≡ false
none_from p [] h m d l = absurd (omega arith)
none_from p (x ∷ xs) h zero d l = elim (p x) as (λ b. length (x ∷ xs) ≤ cond (not b) (1 + prefix_len (λ x. not (p x)) xs) 0 → b ≡ false) [ true ↦ λ k. absurd (omega arith) | false ↦ λ k. refl ] h
none_from p (x ∷ xs) h (suc m) d l =
    none_from p xs (elim (p x) as (λ b. length (x ∷ xs) ≤ cond (not b) (1 + prefix_len (λ x. not (p x)) xs) 0 → length xs ≤ prefix_len (λ x. not (p x)) xs) [ true ↦ λ k. absurd (omega arith) | false ↦ λ k. omega arith ] h) m d (omega arith)

pub position-None : {X : Type 0} (p : X → Bool) (xs : List X) → position p xs ≡ None → (m : ℕ) (d : X) → m < length xs → p (get_or xs m d) ≡ false
position-None p xs h =
    none_from p xs (ltb-false (position_or_len p xs) (length xs)
    (elim (ltb (position_or_len p xs) (length xs)) as (λ b. cond b (Some (position_or_len p xs)) None ≡ None → b ≡ false) [ true ↦ λ k. absurd (cc k) | false ↦ λ k. refl ] h))
