-- The choice of a processor among the entities on the lists that cover it.
use Rattle.std.specs.Prelude.{◌≡◌, ◌<◌, ◌≤◌, ◌⊎◌, ℕ, List, [], ◌∷◌, Option, Some, None, Bool, true, false, ◌==◌, ◌&&◌, ◌||◌, nat_lt, if◌then◌else◌, ⊤}
use Rattle.levels.specs.declared.entity.Entity.{Entity}
use Rattle.levels.specs.declared.entity.Place.{Place}
use Rattle.levels.specs.Rows.{Row}
use Rattle.levels.specs.Trees.{Tree, depth_of, covers}

-- a has the greater priority, or the same on a deeper list
abbrev pub outranks : Tree → Place → Place → Bool
outranks tree a b = nat_lt b.priority a.priority || (a.priority == b.priority && nat_lt (depth_of tree b.list) (depth_of tree a.list))

-- of two that are ready the one that came first, but where the later one outranks it
abbrev pub chosen_of : Tree → Place × Entity → Option (Place × Entity) → Option (Place × Entity)
chosen_of tree first None = Some first
chosen_of tree first (Some later) = if outranks tree later.0 first.0 then Some later else Some first

-- the entity that the processor takes, and where it stands
abbrev pub choice : Tree → ℕ → List Row → Option (Place × Entity)
choice tree vp [] = None
choice tree vp (row ∷ rows) = if covers tree vp row.1.list then chosen_of tree (row.1, row.0) (choice tree vp rows) else choice tree vp rows

-- some entity stands on a list that covers the processor
abbrev pub has_ready : Tree → ℕ → List Row → Bool
has_ready tree vp [] = false
has_ready tree vp (row ∷ rows) = if covers tree vp row.1.list then true else has_ready tree vp rows

-- ## The same in words

-- a has the greater priority; or the same and the deeper list; or the same and a list as deep, and came before
abbrev pub IsBefore : Tree → Place → Place → Type 0
IsBefore tree a b = (b.priority < a.priority) ⊎ ((b.priority ≡ a.priority)
    × ((depth_of tree b.list < depth_of tree a.list) ⊎ ((depth_of tree b.list ≡ depth_of tree a.list) × (a.arrival ≤ b.arrival))))

abbrev pub IsIn : Row → List Row → Type 0
IsIn r [] = ⊥
IsIn r (row ∷ rows) = (r ≡ row) ⊎ IsIn r rows

-- of those on lists that cover the processor
abbrev pub IsBeforeAll : Tree → ℕ → Place → List Row → Type 0
IsBeforeAll tree vp place [] = ⊤
IsBeforeAll tree vp place (row ∷ rows) = (covers tree vp row.1.list ≡ true → IsBefore tree place row.1) × IsBeforeAll tree vp place rows

-- it stands on a list that covers the processor, before every other that does
pub record IsChosen (tree : Tree) (vp : ℕ) (chosen : Place × Entity) (rows : List Row) : Type 0 where
  pub there : IsIn (chosen.1, chosen.0) rows
  pub covered : covers tree vp chosen.0.list ≡ true
  pub before : IsBeforeAll tree vp chosen.0 rows
