-- The tree of run lists that each node has. List 0 is the root. Below it is a list for each processor; or one for each group of
-- processors, and below these one for each processor.
use Rattle.std.specs.Prelude.{◌≤◌, ◌<◌, ℕ, suc, ◌+◌, ◌*◌, ◌/◌, List, [], ◌∷◌, length, Option, Some, None, Bool, ◌==◌, ◌&&◌, nat_le, nat_lt, if◌then◌else◌, slice_get, unwrap_or}
use Rattle.slot_space.specs.Sets.{has}

pub record Tree : Type 0 where
  pub first : ℕ  -- how many lists are right below the root
  pub second : Option ℕ  -- how many are below each of these, where they are groups

abbrev pub tree_of : ℕ → Option ℕ → Tree
tree_of first second = record { first = first; second = second }

abbrev pub processors_below : ℕ → Option ℕ → ℕ
processors_below first None = first
processors_below first (Some second) = first * second

abbrev pub processors : Tree → ℕ
processors tree = processors_below tree.first tree.second

-- ## Which trees there are

-- the most processors of a node
abbrev pub processor_limit : ℕ
processor_limit = 16

-- it has a processor, and not too many
pub record IsTree (tree : Tree) : Type 0 where
  pub some : 0 < processors tree
  pub few : processors tree ≤ processor_limit

-- the tree of these numbers, where there is one
abbrev pub tree_within : ℕ → Option ℕ → Option Tree
tree_within first second =
    if nat_lt 0 (processors_below first second) && nat_le (processors_below first second) processor_limit then Some (tree_of first second) else None

-- ## Its lists

-- how deep a list is below the root
abbrev pub depth_of : Tree → ℕ → ℕ
depth_of tree list = if list == 0 then 0 else if nat_le list tree.first then 1 else 2

abbrev pub path_below : ℕ → Option ℕ → ℕ → List ℕ
path_below first None vp = (1 + vp) ∷ []
path_below first (Some second) vp = (1 + vp / second) ∷ (1 + first + vp) ∷ []

-- the lists that cover a processor, from the root down
abbrev pub path : Tree → ℕ → List ℕ
path tree vp = 0 ∷ path_below tree.first tree.second vp

abbrev pub covers : Tree → (vp list : ℕ) → Bool
covers tree vp list = has list (path tree vp)

-- nothing is below it
abbrev pub is_leaf : Tree → ℕ → Bool
is_leaf tree list = depth_of tree list == length (path_below tree.first tree.second 0)

-- the list below it towards a processor
abbrev pub next_towards : Tree → (list vp : ℕ) → ℕ
next_towards tree list vp = unwrap_or (slice_get (path tree vp) (suc (depth_of tree list))) 0
