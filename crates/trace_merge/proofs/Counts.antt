-- How often a stamp and a node stand together in the parts: at most once.
use Rattle.std.proofs.Common.{◌≡◌, ℕ, zero, suc, ◌+◌, ◌<◌, ◌≤◌, inl, inr, List, [], ◌∷◌, ◌++◌, Bool, true, false, cond, eqb, ◌&&◌, refl, sym, ap, ◌∙◌, arith, length, get_or}
use Rattle.std.specs.List.{flat_map, sum_by}
use Rattle.std.proofs.lemmas.Bool.{ne_eqb, cases_eq}
use Rattle.std.proofs.lemmas.List.Sums.{sum_by-cons}
use Rattle.run_trace.specs.declared.entry.Entry.{Entry}
use Rattle.trace_merge.specs.Parts.{AreLater, IsPart, AreParts}

abbrev pub one_if : Bool → ℕ
one_if b = cond b 1 0

abbrev pub at_key : ℕ → ℕ → Entry → ℕ
at_key s n e = one_if (eqb e.stamp s && eqb e.node n)

abbrev pub times : ℕ → ℕ → List Entry → ℕ
times s n [] = 0
times s n (x ∷ xs) = at_key s n x + times s n xs

abbrev pub joined : List (List Entry) → List Entry
joined parts = flat_map (λ part. part) parts

pub times_is : (s n : ℕ) (xs : List Entry) → times s n xs ≡ sum_by (at_key s n) xs
times_is s n [] = refl
times_is s n (x ∷ xs) = ap (λ k. at_key s n x + k) (times_is s n xs) ∙ sym (sum_by-cons (at_key s n) x xs)

times_append : (s n : ℕ) (xs ys : List Entry) → times s n (xs ++ ys) ≡ times s n xs + times s n ys
times_append s n [] ys = omega arith
times_append s n (x ∷ xs) ys = omega (arith, times_append s n xs ys)

other_stamp : (s n : ℕ) (e : Entry) → (e.stamp ≡ s → ⊥) → at_key s n e ≡ 0
other_stamp s n e h = let f : eqb e.stamp s ≡ false = ne_eqb e.stamp s h in rw f refl

other_node : (s n : ℕ) (e : Entry) → (e.node ≡ n → ⊥) → at_key s n e ≡ 0
other_node s n e h =
    let f : eqb e.node n ≡ false = ne_eqb e.node n h in
    rw f (elim (eqb e.stamp s) as (λ b. one_if (b && false) ≡ 0) [ true ↦ refl | false ↦ refl ])

at_most_one : (b : Bool) → one_if b ≤ 1
at_most_one true = omega arith
at_most_one false = omega arith

later_none : (s n t : ℕ) (xs : List Entry) → s ≤ t → AreLater t xs → times s n xs ≡ 0
later_none s n t [] h a = refl
later_none s n t (x ∷ xs) h a =
    let ne : x.stamp ≡ s → ⊥ = λ e. omega (arith, a.0) in
    omega (arith, other_stamp s n x ne, later_none s n t xs h a.1)

part_once : (s m n : ℕ) (xs : List Entry) → IsPart n xs → times s m xs ≤ 1
part_once s m n [] p = omega arith
part_once s m n (x ∷ xs) p =
    let one : at_key s m x ≤ 1 = at_most_one (eqb x.stamp s && eqb x.node m) in
    elim (cases_eq x.stamp s) as (λ _. times s m (x ∷ xs) ≤ 1) [
      | inl e ↦ omega (arith, one, later_none s m x.stamp xs (omega arith) p.1)
      | inr ne ↦ omega (arith, other_stamp s m x ne, part_once s m n xs p.2)
    ]

part_other : (s m n : ℕ) (xs : List Entry) → IsPart n xs → (n ≡ m → ⊥) → times s m xs ≡ 0
part_other s m n [] p ne = refl
part_other s m n (x ∷ xs) p ne = omega (arith, other_node s m x (λ e. ne (sym p.0 ∙ e)), part_other s m n xs p.2 ne)

parts_low : (s m k : ℕ) (parts : List (List Entry)) → AreParts k parts → m < k → times s m (joined parts) ≡ 0
parts_low s m k [] a h = refl
parts_low s m k (p ∷ ps) a h =
    let ne : k ≡ m → ⊥ = λ e. omega arith in
    omega (arith, times_append s m p (joined ps), part_other s m k p a.0 ne, parts_low s m (suc k) ps a.1 (omega arith))

pub parts_once : (s m k : ℕ) (parts : List (List Entry)) → AreParts k parts → times s m (joined parts) ≤ 1
parts_once s m k [] a = omega arith
parts_once s m k (p ∷ ps) a =
    let sum : times s m (joined (p ∷ ps)) ≡ times s m p + times s m (joined ps) = times_append s m p (joined ps) in
    elim (cases_eq k m) as (λ _. times s m (joined (p ∷ ps)) ≤ 1) [
      | inl e ↦ omega (arith, sum, part_once s m k p a.0, parts_low s m (suc k) ps a.1 (omega arith))
      | inr ne ↦ omega (arith, sum, part_other s m k p a.0 ne, parts_once s m (suc k) ps a.1)
    ]

pub none_at : (s n : ℕ) (xs : List Entry) (k : ℕ) (d : Entry) → times s n xs ≡ 0 → k < length xs → at_key s n (get_or xs k d) ≡ 0
none_at s n [] k d z h = absurd (omega arith)
none_at s n (x ∷ xs) zero d z h = omega arith
none_at s n (x ∷ xs) (suc k) d z h = none_at s n xs k d (omega arith) (omega arith)
