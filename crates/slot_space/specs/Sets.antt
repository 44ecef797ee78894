-- Sets of slots as the ascending lists of their members, and the lowest run of a set.
use Rattle.std.specs.Prelude.{◌≡◌, ℕ, ◌<◌, Bool, true, false, zero, suc, List, [], ◌∷◌, Option, Some, None, nat_lt, ◌==◌, if◌then◌else◌}
use Rattle.slot_space.specs.Limits.{slot_limit}

-- s is a member
abbrev pub has : ℕ → List ℕ → Bool
has s [] = false
has s (x ∷ xs) = if x == s then true else has s xs

-- each member is below those after it
abbrev pub IsAscending : List ℕ → Type 0
IsAscending [] = Unit {0}
IsAscending (x ∷ xs) = ((s : ℕ) → has s xs ≡ true → x < s) × IsAscending xs

-- each member is below the limit
abbrev pub AreBelow : ℕ → List ℕ → Type 0
AreBelow limit xs = (s : ℕ) → has s xs ≡ true → s < limit

-- the ascending list with one more member
unfoldable pub insert : ℕ → List ℕ → List ℕ
insert x [] = x ∷ []
insert x (y ∷ ys) = if nat_lt x y then x ∷ y ∷ ys else (if x == y then y ∷ ys else y ∷ insert x ys)

-- the members of either
unfoldable pub union : List ℕ → List ℕ → List ℕ
union [] ys = ys
union (x ∷ xs) ys = insert x (union xs ys)

-- the members of the first that aren't in the second
unfoldable pub minus : List ℕ → List ℕ → List ℕ
minus [] ys = []
minus (x ∷ xs) ys = if has x ys then minus xs ys else x ∷ minus xs ys

-- some member of the first is in the second
unfoldable pub meets : List ℕ → List ℕ → Bool
meets [] ys = false
meets (x ∷ xs) ys = if has x ys then true else meets xs ys

-- the least member from s on
unfoldable pub least_from : ℕ → List ℕ → Option ℕ
least_from s [] = None
least_from s (x ∷ xs) = if nat_lt x s then least_from s xs else Some x

-- the numbers s to s + count - 1
unfoldable pub run : ℕ → ℕ → List ℕ
run s zero = []
run s (suc count) = s ∷ run (suc s) count

-- s to s + count - 1 are all in the set
unfoldable pub has_run : (ℕ → Bool) → ℕ → ℕ → Bool
has_run set s zero = true
has_run set s (suc count) = if set s then has_run set (suc s) count else false

-- the least one of the `left` numbers from s on at which a run of that count starts, or none
unfoldable pub lowest_from : (ℕ → Bool) → ℕ → ℕ → ℕ → Option ℕ
lowest_from set count s zero = None
lowest_from set count s (suc left) = if has_run set s count then Some s else lowest_from set count (suc s) left

-- the least s below the limit such that s to s + count - 1 are all in the set, or none
unfoldable pub lowest_run : (ℕ → Bool) → ℕ → ℕ → Option ℕ
lowest_run set count limit = lowest_from set count 0 limit

-- what the list of a set of slots always is: ascending, of numbers below the limit
pub record IsSlotSet (xs : List ℕ) : Type 0 where
  pub ascending : IsAscending xs
  pub small : AreBelow slot_limit xs
