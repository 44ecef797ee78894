-- Lemmas of run lists. Other crates cite these alone.
use Rattle.std.proofs.Common.{◌≡◌, ◌<◌, ◌≤◌, ℕ, List, [], ◌∷◌, ◌++◌, Some, None, true, false}
use Rattle.levels.specs.declared.entity.Entity.{Entity}
use Rattle.levels.specs.declared.entity.Place.{Place}
use Rattle.levels.specs.Rows.{Row, RunLists, AreApart, AreAscending, arrived, is_entity, place_of, taken_off, without}
use Rattle.levels.specs.Trees.{Tree, processors, depth_of, covers, is_leaf, next_towards}
use Rattle.levels.specs.Choice.{choice, has_ready, IsChosen}
use Rattle.levels.proofs.Apart
use Rattle.levels.proofs.Choosing
use Rattle.levels.proofs.Order
use Rattle.levels.proofs.Paths
pub use Rattle.levels.proofs.Order.{AreRising}

-- ## Entities

-- what the test calls one is equal
pub is_same : (a b : Entity) → is_entity a b ≡ true → a ≡ b
is_same = Apart.is_same

-- an entity is itself
pub is_itself : (e : Entity) → is_entity e e ≡ true
is_itself = Apart.is_itself

-- and not another, whichever is asked for the other
pub not_back : (a b : Entity) → is_entity a b ≡ false → is_entity b a ≡ false
not_back = Apart.not_back

-- ## Rows that come and go

-- a new row is no other entity's place
pub place_added_other : (rows : List Row) (last : Row) (e : Entity) → is_entity last.0 e ≡ false → place_of e (rows ++ last ∷ []) ≡ place_of e rows
place_added_other = Apart.place_added_other

-- who was on no list stands at its new row
pub place_added : (rows : List Row) (last : Row) → place_of last.0 rows ≡ None → place_of last.0 (rows ++ last ∷ []) ≡ Some last.1
place_added = Apart.place_added

-- who is taken off leaves all others at their places
pub place_without_other : (rows : List Row) (e u : Entity) → is_entity e u ≡ false → place_of u (without e rows) ≡ place_of u rows
place_without_other = Apart.place_without_other

-- and stands on no list
pub place_without : (rows : List Row) (e : Entity) → AreApart rows → place_of e (without e rows) ≡ None
place_without = Apart.place_without

-- no entity comes to have two rows where one is taken off
pub apart_without : (rows : List Row) (e : Entity) → AreApart rows → AreApart (without e rows)
apart_without = Apart.apart_without

-- or where one arrives that was on no list
pub apart_added : (rows : List Row) (last : Row) → AreApart rows → place_of last.0 rows ≡ None → AreApart (rows ++ last ∷ [])
apart_added = Apart.apart_added

-- ## The order of arrival

-- rows in the order of their arrival stay so where one arrives
pub rising_arrived : (e : Entity) (list priority : ℕ) (s : RunLists) → AreRising s → AreRising (arrived e list priority s)
rising_arrived = Order.rising_arrived

-- and where one is taken off
pub rising_without : (e : Entity) (s : RunLists) → AreRising s → AreRising (taken_off e s)
rising_without = Order.rising_without

-- ## The choice

-- of rows in the order of their arrival the chosen one is before all others on lists that cover the processor
pub chosen_is : (tree : Tree) (vp : ℕ) (rows : List Row) (r : Place × Entity) → AreAscending rows → choice tree vp rows ≡ Some r → IsChosen tree vp r rows
chosen_is = Choosing.chosen_is

-- the chosen entity is found at the chosen place, which is on a list that covers the processor
pub chosen_place : (tree : Tree) (vp : ℕ) (rows : List Row) (r : Place × Entity) → AreApart rows → choice tree vp rows ≡ Some r → (place_of r.1 rows ≡ Some r.0) × (covers tree vp r.0.list ≡ true)
chosen_place = Apart.chosen_place

-- where none is chosen no list that covers the processor has an entity
pub none_chosen : (tree : Tree) (vp : ℕ) (rows : List Row) → choice tree vp rows ≡ None → has_ready tree vp rows ≡ false
none_chosen = Choosing.none_chosen

-- and the other way round
pub not_ready : (tree : Tree) (vp : ℕ) (rows : List Row) → has_ready tree vp rows ≡ false → choice tree vp rows ≡ None
not_ready = Choosing.not_ready

-- who arrives on a list that covers the processor is there for it
pub ready_new : (tree : Tree) (vp : ℕ) (rows : List Row) (last : Row) → covers tree vp last.1.list ≡ true → has_ready tree vp (rows ++ last ∷ []) ≡ true
ready_new = Paths.ready_new

-- and an arrival takes nothing away
pub ready_more : (tree : Tree) (vp : ℕ) (rows : List Row) (last : Row) → has_ready tree vp rows ≡ true → has_ready tree vp (rows ++ last ∷ []) ≡ true
ready_more = Paths.ready_more

-- ## The way down

-- the next list towards a processor covers it, and is deeper
pub next_goes : (tree : Tree) (list vp : ℕ) → vp < processors tree → covers tree vp list ≡ true → is_leaf tree list ≡ false
    → (covers tree vp (next_towards tree list vp) ≡ true) × (depth_of tree list < depth_of tree (next_towards tree list vp))
next_goes = Paths.next_goes

-- no list is deeper than 2
pub depth_most : (tree : Tree) (list : ℕ) → depth_of tree list ≤ 2
depth_most = Paths.depth_most
