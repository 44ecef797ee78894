-- How long the rows are after a change.
use Rattle.std.proofs.Common.{refl, sym, ap, ◌≡◌, ℕ, ◌+◌, ◌<◌, ◌≤◌, true, false, List, [], ◌∷◌, length, get_or, arith, ⊎_elim, leb, eqb, zero, suc}
use Rattle.std.proofs.lemmas.Bool.{eq-eqb, cases_Bool}
use Rattle.iso_blocks.specs.Heap.{with_block, without}

pub length-with_block : (b : ℕ × ℕ) (live : List (ℕ × ℕ)) → length (with_block b live) ≡ length live + 1
length-with_block b [] = refl
length-with_block b (c ∷ live) =
    ⊎_elim (λ (e : leb b.0 c.0 ≡ true). rw e (omega arith)) (λ (e : leb b.0 c.0 ≡ false). rw e (let r = length-with_block b live in omega (arith, r))) (cases_Bool (leb b.0 c.0))

length-without-le : (live : List (ℕ × ℕ)) (a : ℕ) → length (without live a) ≤ length live
length-without-le [] a = omega arith
length-without-le (b ∷ live) a =
    ⊎_elim (λ (e : eqb b.0 a ≡ true). rw e (let r = length-without-le live a in omega (arith, r))) (λ (e : eqb b.0 a ≡ false). rw e (let r = length-without-le live a in omega (arith, r))) (cases_Bool (eqb b.0 a))

pub length-without : (live : List (ℕ × ℕ)) (a n k : ℕ) → k < length live → (a, n) ≡ get_or live k (a, n) → length (without live a) + 1 ≤ length live
length-without [] a n k l read = absurd (omega arith)
length-without (b ∷ live) a n zero l read =
    let e : b.0 ≡ a = ap (λ (p : ℕ × ℕ). p.0) (sym read) in rw (eq-eqb b.0 a e) (let r = length-without-le live a in omega (arith, r))
length-without (b ∷ live) a n (suc k) l read =
    let r = length-without live a n k (omega arith) read in
    ⊎_elim (λ (e : eqb b.0 a ≡ true). rw e (omega (arith, r))) (λ (e : eqb b.0 a ≡ false). rw e (omega (arith, r))) (cases_Bool (eqb b.0 a))
