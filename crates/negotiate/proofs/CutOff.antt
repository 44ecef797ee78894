-- A run that reaches past all members.
use Rattle.std.proofs.Common.{◌≡◌, ℕ, ◌-◌, ◌<◌, List, [], ◌∷◌, Some, None, true, false, cond, refl, sym, ◌∙◌, min, arith}
use Rattle.std.specs.Prelude.{nat_lt}
use Rattle.std.proofs.lemmas.Bool.{eq-eqb, eqb-true, ltb-true}
use Rattle.std.proofs.lemmas.Bool.Decides.{nat_tests}
use Rattle.slot_space.specs.Limits.{slot_limit}
use Rattle.slot_space.specs.Sets.{has, minus, run, least_from, IsSlotSet}
use Rattle.slot_space.proofs.Lemmas.{has-run, least_from-found}

-- what is taken out counts among the members alone
minus-same : (xs ys zs : List ℕ) → ((s : ℕ) → has s xs ≡ true → has s ys ≡ has s zs) → minus xs ys ≡ minus xs zs
unfolding minus
minus-same [] ys zs h = refl
minus-same (x ∷ xs) ys zs h =
    let here : has x ys ≡ has x zs = h x (rw (eq-eqb x x refl) refl) in
    let rest : minus xs ys ≡ minus xs zs = minus-same xs ys zs (λ s e. h s (grind (arith, e))) in
    grind (arith, here, rest)

minus-none : (xs ys : List ℕ) → ((s : ℕ) → has s xs ≡ true → has s ys ≡ false) → minus xs ys ≡ xs
unfolding minus
minus-none [] ys h = refl
minus-none (x ∷ xs) ys h =
    let here : has x ys ≡ false = h x (rw (eq-eqb x x refl) refl) in
    let rest : minus xs ys ≡ xs = minus-none xs ys (λ s e. h s (grind (arith, e))) in
    grind (arith, here, rest)

least_from-missing : (s k : ℕ) (xs : List ℕ) → least_from s xs ≡ None → has k xs ≡ true → k < s
unfolding least_from
least_from-missing s k [] e h = absurd (cc h)
least_from-missing s k (x ∷ xs) e h = elim (nat_lt x s) as (λ o. nat_lt x s ≡ o → cond o (least_from s xs) (Some x) ≡ None → k < s) [
  | true ↦ λ l g. let low : x < s = ltb-true x s l in grind (arith, h, low, eqb-true x k, least_from-missing s k xs g)
  | false ↦ λ l g. absurd (cc g)
] refl e

-- where no member is from the start on, none is taken out
pub past_all : (xs : List ℕ) (first count : ℕ) → None ≡ least_from first xs → xs ≡ minus xs (run first count)
past_all xs first count e = sym (minus-none xs (run first count) (λ s h.
    let low = least_from-missing first s xs (sym e) h in
    has-run s first count ∙ grind (arith, nat_tests, low)))

pub starts_low : (xs : List ℕ) (first s : ℕ) → IsSlotSet xs → Some s ≡ least_from first xs → first < slot_limit
starts_low xs first s p e = let f = least_from-found first s xs (sym e) in omega (arith, f.0, p.small s f.1)

-- a run may be cut off where no member can be
pub cut_off : (xs : List ℕ) (first count : ℕ) → IsSlotSet xs → minus xs (run first (min count (slot_limit - first))) ≡ minus xs (run first count)
cut_off xs first count p = minus-same xs (run first (min count (slot_limit - first))) (run first count) (λ s h.
    let low = p.small s h in
    has-run s first (min count (slot_limit - first)) ∙ grind (arith, nat_tests, low) ∙ sym (has-run s first count))
