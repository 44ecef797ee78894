-- The loans at a node that buys, and what becomes of the slots at hand.
use Rattle.std.specs.Prelude.{◌≡◌, ℕ, ◌+◌, List, [], ◌∷◌, Option, Some, None, Bool, false, map, nat_lt, ◌==◌, ◌&&◌, not, slice_index_or, if◌then◌else◌}
use Rattle.std.specs.Option.{is_some}
use Rattle.std.specs.List.{list_any}
use Rattle.slot_space.specs.Sets.{has}
use Rattle.negotiate.specs.Runs.{run_from, without}

-- a node that buys: its number, how many nodes there are, and under each of eight numbers that node's loan where it is in
pub record BuyerView : Type 0 where
  pub me : ℕ
  pub nodes : ℕ
  pub loans : List (Option (List ℕ))

abbrev pub view_of : (me nodes : ℕ) → List (Option (List ℕ)) → BuyerView
view_of me nodes loans = record { me = me; nodes = nodes; loans = loans }

-- no loan is in
abbrev pub begun : (me nodes : ℕ) → BuyerView
begun me nodes = view_of me nodes (None ∷ None ∷ None ∷ None ∷ None ∷ None ∷ None ∷ None ∷ [])

-- the loan of node n that is in
abbrev pub loan_from : BuyerView → ℕ → Option (List ℕ)
loan_from b n = slice_index_or b.loans n None

-- n is another node, and its loan isn't in
abbrev pub awaits : BuyerView → ℕ → Bool
awaits b n = nat_lt n b.nodes && not (n == b.me) && not (is_some (loan_from b n))

-- no loan is awaited any more
abbrev pub AllAreIn : BuyerView → Type 0
AllAreIn b = (n : ℕ) → awaits b n ≡ false

-- the sets of the loans that are in
abbrev pub loans_in : List (Option (List ℕ)) → List (List ℕ)
loans_in [] = []
loans_in (None ∷ loans) = loans_in loans
loans_in (Some set ∷ loans) = set ∷ loans_in loans

-- what is at hand at a decision: the own slots, and each loan
abbrev pub hand : List ℕ → List (Option (List ℕ)) → List (List ℕ)
hand own loans = own ∷ loans_in loans

-- the slot is in one of the sets
abbrev pub is_in_one : List (List ℕ) → ℕ → Bool
is_in_one sets s = list_any (has s) sets

-- in how many of the sets the slot is
abbrev pub times : ℕ → List (List ℕ) → ℕ
times s [] = 0
times s (set ∷ sets) = (if has s set then 1 else 0) + times s sets

-- what becomes of the slots at hand: the run, then what the buyer keeps, and what each lender gets back
abbrev pub parts : List ℕ → List (Option (List ℕ)) → Option ℕ → ℕ → List (List ℕ)
parts own loans first count = run_from first count ∷ map (without first count) (hand own loans)
