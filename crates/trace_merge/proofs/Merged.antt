-- Parts put together and sorted are in order, and each node's entries are its part.
use Rattle.std.proofs.Common.{◌≡◌, ℕ, zero, suc, ◌<◌, ◌≤◌, inl, inr, List, [], ◌∷◌, sym, ap, ◌∙◌, subst, arith, length, get_or, reverse, eqb}
use Rattle.std.specs.List.{All, AllPairs, Contains}
use Rattle.std.specs.List.Sorted.{IsPermutation, IsSortedBy, IsSortedByKey}
use Rattle.std.specs.Ordering.{nat_cmp, ordering_then}
use Rattle.std.proofs.lemmas.Cmp.{nat_cmp_total, on_total, then_total}
use Rattle.std.proofs.lemmas.List.Elements.{Contains-get_or}
use Rattle.std.proofs.lemmas.List.Kept.{AllPairs-filter}
use Rattle.std.proofs.lemmas.List.Sorted.{sorted_far, ranks_by, sum_by-IsPermutation, IsPermutation-sym, Contains-permutation}
use Rattle.std.specs.Fn.{Called, ComputesKey}
use Rattle.std.specs.declared.cmp.Ordering.{Ordering}
use Rattle.std.proofs.lemmas.Fn.{always_returns_same}
use denote.Param.Members.{Mut}
use denote.Ref.{Bor}
use Rattle.run_trace.specs.declared.entry.Entry.{Entry}
use Rattle.run_trace.specs.Histories.{IsInOrder, own_entries}
use Rattle.trace_merge.specs.Parts.{AreLater, AreParts}
use Rattle.trace_merge.proofs.Counts.{at_key, times, times_is, parts_once, joined}
use Rattle.trace_merge.proofs.Order.{Below, less, Sorted, ascends, in_order}
use Rattle.trace_merge.proofs.Own.{in_own, from_own, own_parts, is_part, part_climbs, Climbs, same_list, own_reverse}

abbrev pub place : Entry → ℕ × ℕ
place e = (e.stamp, e.node)

abbrev pub place_cmp : ℕ × ℕ → ℕ × ℕ → Ordering
place_cmp x y = ordering_then (nat_cmp x.0 y.0) (nat_cmp x.1 y.1)

-- from the clause of `sort_by_key`
pub sorted_by_place : {F : Type 0} {g : Mut F (Bor Entry × Unit {0}) (ℕ × ℕ)} {f : F} (xs : List Entry)
    → ((key : Entry → ℕ × ℕ) → ComputesKey g key f → IsSortedByKey key place_cmp xs)
    → ((a : Bor Entry × Unit {0}) (r : ℕ × ℕ) (f' : F) → Called g f a r f' → (r ≡ place a.0.now) × (f' ≡ f)) → IsSortedBy less xs
sorted_by_place {g = g} {f = f} xs up h = up place (always_returns_same g (λ a r. r ≡ place a.0.now) f h)

sorted : (xs : List Entry) → IsSortedBy less xs → Sorted xs
sorted xs up = sorted_far less (ranks_by (then_total (on_total (λ (e : Entry). e.stamp) nat_cmp_total) (on_total (λ (e : Entry). e.node) nat_cmp_total)) (λ e. e)) xs up

once : (parts : List (List Entry)) (out : List Entry) → AreParts 0 parts → IsPermutation (joined parts) out → (s n : ℕ) → times s n out ≤ 1
once parts out a h s n = omega (arith, times_is s n out, times_is s n (joined parts), sum_by-IsPermutation (at_key s n) (joined parts) out h, parts_once s n 0 parts a)

pub merged_pairs : (parts : List (List Entry)) (out : List Entry) → AreParts 0 parts → IsPermutation (joined parts) out → IsSortedBy less out → AllPairs Below out
merged_pairs parts out a h up = ascends out (sorted out up) (once parts out a h)

pub merged_order : (parts : List (List Entry)) (out : List Entry) → AreParts 0 parts → IsPermutation (joined parts) out → IsSortedBy less out → IsInOrder (reverse out)
merged_order parts out a h up = in_order out (merged_pairs parts out a h up)

later : (x : Entry) (xs : List Entry) → ((k : ℕ) (d : Entry) → k < length xs → x.stamp < (get_or xs k d).stamp) → AreLater x.stamp xs
later x [] h = tt
later x (y ∷ ys) h = (h zero y (omega arith), later x ys (λ k d l. h (suc k) d (omega arith)))

below_stamp : (x y : Entry) → Below x y → x.node ≡ y.node → x.stamp < y.stamp
below_stamp x y b e = elim b as (λ _. x.stamp < y.stamp) [ inl l ↦ l | inr r ↦ absurd (omega (arith, r.1)) ]

climbs : (n : ℕ) (xs : List Entry) → AllPairs Below xs → All (λ (e : Entry). e.node ≡ n) xs → Climbs xs
climbs n [] p a = tt
climbs n (x ∷ xs) p a = (
  later x xs (λ k d l. below_stamp x (get_or xs k d) (p zero (suc k) d (omega arith) (omega arith)) (a zero d (omega arith) ∙ sym (a (suc k) d (omega arith)))),
  climbs n xs (λ i j d l k. p (suc i) (suc j) d (omega arith) (omega arith)) (λ k d l. a (suc k) d (omega arith)),
)

all_own : (n : ℕ) (xs : List Entry) → All (λ (e : Entry). e.node ≡ n) (own_entries n xs)
all_own n xs = λ k d l. (from_own n xs (get_or (own_entries n xs) k d) (Contains-get_or (own_entries n xs) k d l)).1

pub merged_own : (parts : List (List Entry)) (out : List Entry) → AreParts 0 parts → IsPermutation (joined parts) out → IsSortedBy less out → (n : ℕ) → own_entries n (reverse out) ≡ reverse (get_or parts n [])
merged_own parts out a h up n =
    let pairs : AllPairs Below (own_entries n out) = AllPairs-filter Below (λ e. eqb e.node n) out (merged_pairs parts out a h up) in
    let here : own_entries n (joined parts) ≡ get_or parts n [] = own_parts n parts a in
    let same : own_entries n out ≡ get_or parts n [] = same_list (own_entries n out) (get_or parts n [])
    (climbs n (own_entries n out) pairs (all_own n out))
    (part_climbs n (get_or parts n []) (is_part n parts a))
    (λ x c. let f : Contains out x × (x.node ≡ n) = from_own n out x c in
    subst (λ xs. Contains xs x) here (in_own n (joined parts) x (Contains-permutation out (joined parts) x (IsPermutation-sym (joined parts) out h) f.0) f.1))
    (λ x c. let f : Contains (joined parts) x × (x.node ≡ n) = from_own n (joined parts) x (subst (λ xs. Contains xs x) (sym here) c) in
    in_own n out x (Contains-permutation (joined parts) out x h f.0) f.1) in
    own_reverse n out ∙ ap reverse same
