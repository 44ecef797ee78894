-- What a change of a forest keeps of its threads.
use Rattle.std.specs.Prelude.{◌≡◌, ◌≤◌, ℕ, ◌*◌, List, length, Option, Some, Bool, true, false, is_some}
use Rattle.slot_space.specs.declared.names.Tid.{Tid}
use Rattle.levels.specs.declared.entity.Entity.TheVariants.{Thread}
use Rattle.levels.specs.Rows.{is_entity, place_of}
use Rattle.bubbles.specs.declared.bubble.Shift.{Shift}
use Rattle.bubbles.specs.Rows.{thread_of, picked_from}
use Rattle.bubbles.specs.Forests.{ForestView}
use Rattle.bubbles.specs.Picking.{step, takes, Picks}
use Rattle.bubbles.specs.Standing.{IsForest, seats}

-- the forest w became v, where each thread stands as often as before and is known as before
pub record KeepsThreads (w v : ForestView) : Type 0 where
  pub forest : IsForest v
  pub tree : v.lists.tree ≡ w.lists.tree
  pub seats : (u : Tid) → seats u v ≡ seats u w
  pub threads : v.threads ≡ w.threads

-- the forest w became v, where this thread stands so often, and each other thread stands, is known and is on its list as before
pub record ChangesThread (t : Tid) (times : ℕ) (w v : ForestView) : Type 0 where
  pub forest : IsForest v
  pub tree : v.lists.tree ≡ w.lists.tree
  pub own : seats t v ≡ times
  pub others : (u : Tid) → is_entity (Thread u) (Thread t) ≡ false → seats u v ≡ seats u w
  pub known : (u : Tid) → is_entity (Thread u) (Thread t) ≡ false → thread_of u v.threads ≡ thread_of u w.threads
  pub places : (u : Tid) → is_entity (Thread u) (Thread t) ≡ false → place_of (Thread u) v.lists.rows ≡ place_of (Thread u) w.lists.rows
  pub count : length v.bubbles ≡ length w.bubbles

-- the thread that the processor's choice takes was on a list, and stands nowhere then; this list is its last
pub record IsTaken (vp : ℕ) (t : Tid) (w : ForestView) : Type 0 where
  pub listed : is_some (place_of (Thread t) w.lists.rows) ≡ true
  pub before : seats t w ≡ 1
  pub list : ℕ
  pub after : (step vp w).after ≡ (takes t list w).after
  pub change : ChangesThread t 0 w (step vp w).after
  pub known : thread_of t (step vp w).after.threads ≡ picked_from list (thread_of t w.threads)

-- the processor comes to a thread, by at most three moves for each bubble
pub record PicksEnd (vp : ℕ) (w : ForestView) : Type 0 where
  pub moves : List Shift
  pub thread : Tid
  pub after : ForestView
  pub picks : Picks vp w moves (Some thread) after
  pub few : length moves ≤ 3 * length w.bubbles
