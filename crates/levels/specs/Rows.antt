-- The entities on a node's run lists, as one list in the order of their arrival.
use Rattle.std.specs.Prelude.{◌≡◌, ◌<◌, ◌^◌, ℕ, suc, List, [], ◌∷◌, ◌++◌, length, Option, Some, None, Bool, false, ◌==◌, ◌&&◌, if◌then◌else◌, ⊤}
use Rattle.levels.specs.declared.entity.Entity.{Entity}
use Rattle.levels.specs.declared.entity.Entity.TheVariants.{Thread, Bubble}
use Rattle.levels.specs.declared.entity.Place.{Place}
use Rattle.levels.specs.Trees.{Tree}

-- they are one
abbrev pub is_entity : Entity → Entity → Bool
is_entity (Thread a) (Thread b) = a.home == b.home && a.seq == b.seq
is_entity (Thread a) (Bubble b) = false
is_entity (Bubble a) (Thread b) = false
is_entity (Bubble a) (Bubble b) = a == b

-- an entity, and where it stands
abbrev pub Row : Type 0
Row = Entity × Place

pub record RunLists : Type 0 where
  pub tree : Tree
  pub rows : List Row
  pub next : ℕ  -- how many have arrived

abbrev pub lists_of : Tree → List Row → ℕ → RunLists
lists_of tree rows next = record { tree = tree; rows = rows; next = next }

abbrev pub empty_lists : Tree → RunLists
empty_lists tree = lists_of tree [] 0

-- where the entity stands, if it is on a list
abbrev pub place_of : Entity → List Row → Option Place
place_of e [] = None
place_of e (row ∷ rows) = if is_entity row.0 e then Some row.1 else place_of e rows

abbrev pub without : Entity → List Row → List Row
without e [] = []
without e (row ∷ rows) = if is_entity row.0 e then rows else row ∷ without e rows

abbrev pub place_at : (list priority arrival : ℕ) → Place
place_at list priority arrival = record { list = list; priority = priority; arrival = arrival }

-- the entity arrives on the list
abbrev pub arrived : Entity → (list priority : ℕ) → RunLists → RunLists
arrived e list priority s = record s { rows = s.rows ++ (e, place_at list priority s.next) ∷ []; next = suc s.next }

abbrev pub taken_off : Entity → RunLists → RunLists
taken_off e s = record s { rows = without e s.rows }

-- no entity has two rows
abbrev pub AreApart : List Row → Type 0
AreApart [] = ⊤
AreApart (row ∷ rows) = (place_of row.0 rows ≡ None) × AreApart rows

-- ## The order of arrival

abbrev pub AreAfter : ℕ → List Row → Type 0
AreAfter k [] = ⊤
AreAfter k (row ∷ rows) = (k < row.1.arrival) × AreAfter k rows

abbrev pub AreAscending : List Row → Type 0
AreAscending [] = ⊤
AreAscending (row ∷ rows) = AreAfter row.1.arrival rows × AreAscending rows

abbrev pub AreBefore : ℕ → List Row → Type 0
AreBefore k [] = ⊤
AreBefore k (row ∷ rows) = (row.1.arrival < k) × AreBefore k rows

-- fewer than 2^32 rows, in the order of their arrival
pub record AreInOrder (s : RunLists) : Type 0 where
  pub short : length s.rows < 2 ^ 32
  pub ascending : AreAscending s.rows
  pub arrived : AreBefore s.next s.rows
