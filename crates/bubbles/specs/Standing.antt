-- What is true of every forest.
use Rattle.std.specs.Prelude.{◌≡◌, ℕ, suc, ◌+◌, ◌≤◌, ◌⊎◌, ⊤, List, [], ◌∷◌, length, Option, Some, None, if◌then◌else◌}
use Rattle.slot_space.specs.declared.names.Tid.{Tid}
use Rattle.levels.specs.declared.entity.Entity.{Entity}
use Rattle.levels.specs.declared.entity.Entity.TheVariants.{Thread, Bubble}
use Rattle.levels.specs.declared.entity.Place.{Place}
use Rattle.levels.specs.Rows.{is_entity, place_of, AreApart}
use Rattle.bubbles.specs.declared.bubble.BubbleState.{BubbleState}
use Rattle.bubbles.specs.declared.bubble.BubbleState.TheVariants.{Filling, Held, Queued, Burst as IsBurst}
use Rattle.bubbles.specs.declared.bubble.BubbleRow.{BubbleRow}
use Rattle.bubbles.specs.Rows.{bubble_of, members_of, AreNamed}
use Rattle.bubbles.specs.Forests.{ForestView}

-- ## Once or not

abbrev pub on : Option Place → ℕ
on None = 0
on (Some place) = 1

abbrev pub queued_as : BubbleState → ℕ
queued_as Filling = 0
queued_as Held = 0
queued_as Queued = 1
queued_as IsBurst = 0

abbrev pub queued : Option BubbleRow → ℕ
queued None = 0
queued (Some x) = queued_as x.state

abbrev pub held_as : BubbleState → ℕ
held_as Filling = 0
held_as Held = 1
held_as Queued = 0
held_as IsBurst = 0

abbrev pub held : Option BubbleRow → ℕ
held None = 0
held (Some x) = held_as x.state

-- ## Members

-- a bubble that is burst has its members in itself no more
abbrev pub shows : BubbleState → List Entity → List Entity
shows Filling members = members
shows Held members = members
shows Queued members = members
shows IsBurst members = []

abbrev pub count : Entity → List Entity → ℕ
count e [] = 0
count e (x ∷ xs) = if is_entity x e then suc (count e xs) else count e xs

-- how often the entity is in bubbles that aren't burst
abbrev pub inside : Entity → List BubbleRow → ℕ
inside e [] = 0
inside e (x ∷ xs) = count e (shows x.state x.members) + inside e xs

-- how many members there are, where some have to be
abbrev pub fills : BubbleState → List Entity → ℕ
fills Filling members = 1
fills Held members = length members
fills Queued members = length members
fills IsBurst members = 1

abbrev pub filled : Option BubbleRow → ℕ
filled None = 1
filled (Some x) = fills x.state x.members

-- ## A forest

-- a forest while these entities are on their way to a list: each entity stands at most once on a list or in a bubble that isn't burst; Queued
-- bubbles are on a list, Held ones are members, and both have members; no two threads have one name
pub record IsMidst (coming : List Entity) (w : ForestView) : Type 0 where
  pub apart : AreApart w.lists.rows
  pub queues : (b : ℕ) → on (place_of (Bubble b) w.lists.rows) ≡ queued (bubble_of b w.bubbles)
  pub holds : (b : ℕ) → inside (Bubble b) w.bubbles + count (Bubble b) coming ≡ held (bubble_of b w.bubbles)
  pub fills_up : (b : ℕ) → 1 ≤ filled (bubble_of b w.bubbles)
  pub threads : (t : Tid) → on (place_of (Thread t) w.lists.rows) + (inside (Thread t) w.bubbles + count (Thread t) coming) ≤ 1
  pub names : AreNamed w.threads

abbrev pub IsForest : ForestView → Type 0
IsForest w = IsMidst [] w

-- how often the thread stands on a list or in a bubble that isn't burst
abbrev pub seats : Tid → ForestView → ℕ
seats t w = on (place_of (Thread t) w.lists.rows) + inside (Thread t) w.bubbles

-- the thread is on no list, and in no bubble that isn't burst
abbrev pub IsAway : Tid → ForestView → Type 0
IsAway t w = on (place_of (Thread t) w.lists.rows) + inside (Thread t) w.bubbles ≡ 0

-- the thread is a member of no Held and of no Queued bubble
abbrev pub IsLoose : Tid → ForestView → Type 0
IsLoose t w = (b : ℕ) → (held (bubble_of b w.bubbles) + queued (bubble_of b w.bubbles) ≡ 0) ⊎ (count (Thread t) (members_of (bubble_of b w.bubbles)) ≡ 0)

-- ## Held back

-- a bubble of this state holds its members back, and is on no list
abbrev pub HoldsBack : BubbleState → Type 0
HoldsBack Filling = ⊤
HoldsBack Held = ⊤
HoldsBack _ = ⊥

-- the thread is in a bubble that is filled yet, or is in another one
pub record IsHeldBack (t : Tid) (f : ForestView) : Type 0 where
  pub number : ℕ
  pub bubble : BubbleRow
  pub is : bubble_of number f.bubbles ≡ Some bubble
  pub holds : HoldsBack bubble.state
  pub member : 1 ≤ count (Thread t) bubble.members
