-- Lemmas of sets and runs of slots. Other crates cite these alone.
use Rattle.std.proofs.Common.{[], arith, Bool, List, None, Some, cond, eqb, false, length, true, ℕ, ◌+◌, ◌<◌, ◌∷◌, ◌≡◌, ◌≤◌}
use Rattle.std.specs.Prelude.{nat_lt}
use Rattle.std.specs.List.{filter}
use Rattle.std.proofs.lemmas.Bool.{eqb-true}
use Rattle.slot_space.specs.Limits.{slot_limit}
use Rattle.slot_space.specs.Sets.{AreBelow, IsSlotSet, IsAscending, has, has_run, insert, least_from, lowest_run, meets, minus, run, union}
use Rattle.slot_space.specs.WordsBack
use Rattle.slot_space.proofs.Sets
use Rattle.slot_space.proofs.Ascending
use Rattle.slot_space.proofs.Runs
use Rattle.slot_space.proofs.Lengths
pub use Rattle.slot_space.proofs.Runs.{IsLeast}

-- ## Members

-- a slot that was put in is a member, and all others are as they were
pub has-insert : (x s : ℕ) (ys : List ℕ) → has s (insert x ys) ≡ cond (eqb x s) true (has s ys)
has-insert = Sets.has-insert

-- the members of either set are those of the union
pub has-union : (s : ℕ) (xs ys : List ℕ) → has s (union xs ys) ≡ cond (has s xs) true (has s ys)
has-union = Sets.has-union

-- the members of the first set that are none of the second are those of the difference
pub has-minus : (s : ℕ) (xs ys : List ℕ) → has s (minus xs ys) ≡ cond (has s ys) false (has s xs)
has-minus = Sets.has-minus

-- the members of a list that pass a test are those of the filtered list
pub has-filter : (p : ℕ → Bool) (s : ℕ) (xs : List ℕ) → has s (filter p xs) ≡ cond (p s) (has s xs) false
has-filter = WordsBack.has-filter

-- the members of a run are the slots from its first up to its end
pub has-run : (s first count : ℕ) → has s (run first count) ≡ cond (nat_lt s first) false (nat_lt s (first + count))
has-run = WordsBack.has-run

-- two sets that meet have a member in common
pub meets-some : (xs ys : List ℕ) → meets xs ys ≡ true → (s : ℕ) × (has s xs ≡ true) × (has s ys ≡ true)
meets-some = Sets.meets-some

-- two sets that have a member in common meet
pub meets-common : (s : ℕ) (xs ys : List ℕ) → has s xs ≡ true → has s ys ≡ true → meets xs ys ≡ true
meets-common = Sets.meets-common

-- ## Ascending lists

-- a list that ascends still does with one more slot
pub ascending-insert : (x : ℕ) (ys : List ℕ) → IsAscending ys → IsAscending (insert x ys)
ascending-insert = Ascending.ascending-insert

-- a union with a list that ascends ascends
pub ascending-union : (xs ys : List ℕ) → IsAscending ys → IsAscending (union xs ys)
ascending-union = Ascending.ascending-union

-- a list that ascends does so without the members of another
pub ascending-minus : (xs ys : List ℕ) → IsAscending xs → IsAscending (minus xs ys)
ascending-minus = Ascending.ascending-minus

-- a run ascends
pub ascending-run : (first count : ℕ) → IsAscending (run first count)
ascending-run = Ascending.ascending-run

-- two ascending lists with the same members are one
pub same_members : (xs ys : List ℕ) → IsAscending xs → IsAscending ys → ((s : ℕ) → has s xs ≡ has s ys) → xs ≡ ys
same_members = Ascending.same_members

-- members below a limit stay below it with one more slot that is
pub below-insert : (limit x : ℕ) (ys : List ℕ) → x < limit → AreBelow limit ys → AreBelow limit (insert x ys)
below-insert = Ascending.below-insert

-- the union of sets below a limit is below it
pub below-union : (limit : ℕ) (xs ys : List ℕ) → AreBelow limit xs → AreBelow limit ys → AreBelow limit (union xs ys)
below-union = Ascending.below-union

-- what is left of a set below a limit is below it
pub below-minus : (limit : ℕ) (xs ys : List ℕ) → AreBelow limit xs → AreBelow limit (minus xs ys)
below-minus = Ascending.below-minus

-- a run that ends by a limit is below it
pub below-run : (limit first count : ℕ) → first + count ≤ limit → AreBelow limit (run first count)
below-run = Ascending.below-run

-- the least member from a slot on is a member, and is that slot or a later one
pub least_from-found : (s t : ℕ) (xs : List ℕ) → least_from s xs ≡ Some t → (s ≤ t) × (has t xs ≡ true)
least_from-found = Ascending.least_from-found

-- ## Runs

-- each place of a run is in the set
pub has_run-each : (set : ℕ → Bool) (s count u : ℕ) → has_run set s count ≡ true → u < count → set (s + u) ≡ true
has_run-each = Runs.has_run-each

-- where each place is in the set there is a run
pub has_run-all : (set : ℕ → Bool) (s count : ℕ) → ((u : ℕ) → u < count → set (s + u) ≡ true) → has_run set s count ≡ true
has_run-all = Runs.has_run-all

-- the least start of a run below the limit is the lowest run
pub lowest_run-some : (set : ℕ → Bool) (count limit f : ℕ) → f < limit → has_run set f count ≡ true → ((k : ℕ) → k < f → has_run set k count ≡ false) → lowest_run set count limit ≡ Some f
lowest_run-some = Runs.lowest_run-some

-- where no run starts below the limit there is no lowest run
pub lowest_run-none : (set : ℕ → Bool) (count limit : ℕ) → ((k : ℕ) → k < limit → has_run set k count ≡ false) → lowest_run set count limit ≡ None
lowest_run-none = Runs.lowest_run-none

-- a lowest run starts below the limit, is of members, and no lower place starts one
pub lowest_run-found : (set : ℕ → Bool) (count limit f : ℕ) → lowest_run set count limit ≡ Some f → IsLeast set count limit f
lowest_run-found = Runs.lowest_run-found

-- where there is no lowest run no place below the limit starts one
pub lowest_run-missing : (set : ℕ → Bool) (count limit k : ℕ) → lowest_run set count limit ≡ None → k < limit → has_run set k count ≡ false
lowest_run-missing = Runs.lowest_run-missing

-- sets with the same members have the same lowest run
pub lowest_run-same : (set other : ℕ → Bool) (count limit : ℕ) → ((s : ℕ) → set s ≡ other s) → lowest_run set count limit ≡ lowest_run other count limit
lowest_run-same = Runs.lowest_run-same

-- each slot of the lowest run is a member of the set
pub found : (set : ℕ → Bool) (count limit f s : ℕ) → lowest_run set count limit ≡ Some f → has s (run f count) ≡ true → set s ≡ true
found = Runs.found

-- ## How many members there are

-- a slot that is no member makes a set longer by one
pub length-insert : (s : ℕ) (xs : List ℕ) → has s xs ≡ false → length (insert s xs) ≡ length xs + 1
length-insert = Lengths.length-insert

-- a slot that is a member comes in without a change
pub insert-same : (s : ℕ) (xs : List ℕ) → IsAscending xs → has s xs ≡ true → insert s xs ≡ xs
insert-same = Lengths.insert-same

-- a member that goes makes a set shorter by one
pub length-minus : (s : ℕ) (xs : List ℕ) → IsAscending xs → has s xs ≡ true → length (minus xs (s ∷ [])) + 1 ≡ length xs
length-minus = Lengths.length-minus

-- ## A member left out

-- a slot that was left out is no member
pub has-left_out : (x : ℕ) (xs : List ℕ) → has x (minus xs (x ∷ [])) ≡ false
has-left_out x xs = grind (arith, has-minus x xs (x ∷ []))

-- a member that was left out and put in again changes nothing
pub insert-left_out : (x : ℕ) (xs : List ℕ) → IsAscending xs → has x xs ≡ true → insert x (minus xs (x ∷ [])) ≡ xs
insert-left_out x xs asc is = same_members _ _ (ascending-insert x (minus xs (x ∷ [])) (ascending-minus xs (x ∷ []) asc)) asc
    (λ s. grind (arith, is, has-insert x s (minus xs (x ∷ [])), has-minus s xs (x ∷ []), eqb-true x s))

-- a set of slots without one of them is a set of slots
pub proper-left_out : (x : ℕ) (xs : List ℕ) → IsSlotSet xs → IsSlotSet (minus xs (x ∷ []))
proper-left_out x xs proper = record { ascending = ascending-minus xs (x ∷ []) proper.ascending; small = below-minus slot_limit xs (x ∷ []) proper.small }
