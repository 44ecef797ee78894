-- Sorted entries, no two of one node with one stamp, are in order.
use Rattle.std.proofs.Common.{◌≡◌, ℕ, zero, suc, ◌<◌, ◌≤◌, ◌⊎◌, List, [], ◌∷◌, ◌++◌, Bool, false, eqb, ◌&&◌, sym, subst, arith, length, get_or, reverse}
use Rattle.std.specs.List.{All, AllPairs, AllByRecursion}
use Rattle.std.specs.Ordering.{nat_cmp, ordering_then, is_lt}
use Rattle.std.proofs.lemmas.Bool.Decides.{nat_tests}
use Rattle.std.proofs.lemmas.List.{reverse-append}
use Rattle.std.proofs.lemmas.List.Elements.{recursion_from_All}
use Rattle.std.proofs.lemmas.List.Kept.{AllPairs-cons}
use Rattle.std.proofs.lemmas.List.Sorted.{IsPermutation-reverse, All-permutation}
use Rattle.run_trace.specs.declared.entry.Entry.{Entry}
use Rattle.run_trace.specs.Histories.{IsEntryAbove, IsInOrder}
use Rattle.trace_merge.proofs.Counts.{one_if, at_key, times, none_at}

abbrev pub Below : Entry → Entry → Type 0
Below x y = (x.stamp < y.stamp) ⊎ ((x.stamp ≡ y.stamp) × (x.node < y.node))

abbrev pub less : Entry → Entry → Bool
less x y = is_lt (ordering_then (nat_cmp x.stamp y.stamp) (nat_cmp x.node y.node))

abbrev pub Sorted : List Entry → Type 0
Sorted xs = (i j : ℕ) (d : Entry) → i ≤ j → j < length xs → less (get_or xs j d) (get_or xs i d) ≡ false

not_less : (a b c d : ℕ) → is_lt (ordering_then (nat_cmp a c) (nat_cmp b d)) ≡ false → one_if (eqb a c && eqb b d) ≡ 0 → (c < a) ⊎ ((c ≡ a) × (d < b))
not_less a b c d f z = grind (arith, nat_tests)

pub ascends : (xs : List Entry) → Sorted xs → ((s n : ℕ) → times s n xs ≤ 1) → AllPairs Below xs
ascends [] up once = λ i j d l h. absurd (omega arith)
ascends (x ∷ xs) up once =
    let one : at_key x.stamp x.node x ≡ 1 = grind (arith, nat_tests) in
    let none : times x.stamp x.node xs ≡ 0 = omega (arith, once x.stamp x.node) in
    let rest : AllPairs Below xs = ascends xs (λ i j d l h. up (suc i) (suc j) d (omega arith) (omega arith)) (λ s n. omega (arith, once s n)) in
    let all : All (Below x) xs = λ k d h. not_less (get_or xs k d).stamp (get_or xs k d).node x.stamp x.node (up zero (suc k) d (omega arith) (omega arith)) (none_at x.stamp x.node xs k d none h) in
    AllPairs-cons Below x xs all rest

above_end : (e x : Entry) (ys : List Entry) → IsEntryAbove e ys → Below x e → IsEntryAbove e (ys ++ x ∷ [])
above_end e x [] a b = (b, tt)
above_end e x (y ∷ ys) a b = (a.0, above_end e x ys a.1 b)

order_end : (x : Entry) (ys : List Entry) → IsInOrder ys → AllByRecursion (Below x) ys → IsInOrder (ys ++ x ∷ [])
order_end x [] o b = (tt, tt)
order_end x (y ∷ ys) o b = (above_end y x ys o.0 b.0, order_end x ys o.1 b.1)

pub in_order : (xs : List Entry) → AllPairs Below xs → IsInOrder (reverse xs)
in_order [] h = tt
in_order (x ∷ xs) h =
    let all : All (Below x) xs = λ k d l. h zero (suc k) d (omega arith) (omega arith) in
    let rest : AllPairs Below xs = λ i j d l k. h (suc i) (suc j) d (omega arith) (omega arith) in
    let back : AllByRecursion (Below x) (reverse xs) = recursion_from_All (Below x) (reverse xs) (All-permutation (Below x) xs (reverse xs) (IsPermutation-reverse xs) all) in
    subst (λ ys. IsInOrder ys) (sym (reverse-append (x ∷ []) xs)) (order_end x (reverse xs) (in_order xs rest) back)
