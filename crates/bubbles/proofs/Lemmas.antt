-- Lemmas of bubbles. Other crates cite these alone.
use Rattle.std.proofs.Common.{◌≡◌, ◌<◌, ◌≤◌, ℕ, suc, List, [], length, Option, Some, None, true, false, refl}
use Rattle.std.specs.Prelude.{is_some}
use Rattle.slot_space.specs.declared.names.Tid.{Tid}
use Rattle.levels.specs.declared.entity.Entity.TheVariants.{Thread}
use Rattle.levels.specs.Trees.{Tree, processors}
use Rattle.levels.specs.Rows.{place_of}
use Rattle.levels.specs.Choice.{has_ready}
use Rattle.bubbles.specs.declared.bubble.Shift.{Shift}
use Rattle.bubbles.specs.declared.bubble.Shift.TheVariants.{Down, Burst}
use Rattle.bubbles.specs.declared.bubble.Step.TheVariants.{Empty, Takes, Shifts}
use Rattle.bubbles.specs.Rows.{bubble_of, thread_of, known_thread}
use Rattle.bubbles.specs.Forests.{ForestView, empty_forest, with_bubble, wakes, inserts, gathers, enters, goes_on, leaves}
use Rattle.bubbles.specs.Picking.{step, burst, down, Picks}
use Rattle.bubbles.specs.Standing.{IsForest, IsLoose, IsHeldBack, seats}
use Rattle.bubbles.specs.Covering.{AreCovered}
use Rattle.bubbles.specs.Changes.{KeepsThreads, ChangesThread, IsTaken, PicksEnd}
use Rattle.bubbles.proofs.Calls
use Rattle.bubbles.proofs.Covered
use Rattle.bubbles.proofs.Changes
use Rattle.bubbles.proofs.Seats
use Rattle.bubbles.proofs.Whole

-- ## Where a thread stands

-- lists with nothing on them are a forest
pub forest_empty : (tree : Tree) → IsForest (empty_forest tree)
forest_empty = Calls.forest_empty

-- in which no thread stands
pub seats_empty : (t : Tid) (tree : Tree) → seats t (empty_forest tree) ≡ 0
seats_empty t tree = refl

-- a thread stands once at most
pub seats_most : (t : Tid) (w : ForestView) → IsForest w → seats t w ≤ 1
seats_most = Changes.seats_most

-- who is on a list stands once
pub seats_listed : (t : Tid) (w : ForestView) → IsForest w → is_some (place_of (Thread t) w.lists.rows) ≡ true → seats t w ≡ 1
seats_listed = Changes.seats_listed

-- and who stands nowhere is on no list
pub seats_unlisted : (t : Tid) (w : ForestView) → seats t w ≡ 0 → place_of (Thread t) w.lists.rows ≡ None
seats_unlisted = Changes.seats_unlisted

-- where no list has an entity a thread that stands is held back in a bubble
pub held_back : (t : Tid) (w : ForestView) → IsForest w → w.lists.rows ≡ [] → seats t w ≡ 1 → IsHeldBack t w
held_back = Seats.held_back

-- ## Calls on bubbles

-- a bubble that is made
pub keeps_new : (priority depth : ℕ) (w : ForestView) → IsForest w → KeepsThreads w (with_bubble priority depth w)
keeps_new = Changes.keeps_new

-- that is woken
pub keeps_wakes : (b : ℕ) (w : ForestView) → IsForest w → KeepsThreads w (wakes b w).after
keeps_wakes = Changes.keeps_wakes

-- inserted into another
pub keeps_inserts : (b c : ℕ) (w : ForestView) → IsForest w → KeepsThreads w (inserts b c w).after
keeps_inserts = Changes.keeps_inserts

-- or gathered leaves all threads standing as often as before
pub keeps_gathers : (b : ℕ) (w : ForestView) → IsForest w → KeepsThreads w (gathers b w).after
keeps_gathers = Changes.keeps_gathers

-- a bubble that is woken leaves each thread on its list
pub places_wakes : (b : ℕ) (w : ForestView) (u : Tid) → place_of (Thread u) (wakes b w).after.lists.rows ≡ place_of (Thread u) w.lists.rows
places_wakes = Changes.places_wakes

-- one that is inserted changes no list
pub lists_inserts : (b c : ℕ) (w : ForestView) → (inserts b c w).after.lists ≡ w.lists
lists_inserts = Changes.lists_inserts

-- a new bubble is one more
pub count_new : (priority depth : ℕ) (w : ForestView) → length (with_bubble priority depth w).bubbles ≡ suc (length w.bubbles)
count_new = Changes.count_new

-- no other call changes how many there are
pub count_wakes : (b : ℕ) (w : ForestView) → length (wakes b w).after.bubbles ≡ length w.bubbles
count_wakes = Changes.count_wakes

pub count_inserts : (b c : ℕ) (w : ForestView) → length (inserts b c w).after.bubbles ≡ length w.bubbles
count_inserts = Changes.count_inserts

pub count_gathers : (b : ℕ) (w : ForestView) → length (gathers b w).after.bubbles ≡ length w.bubbles
count_gathers = Changes.count_gathers

-- there is none beyond these
pub bubble_beyond : (b : ℕ) (w : ForestView) → length w.bubbles ≤ b → bubble_of b w.bubbles ≡ None
bubble_beyond = Changes.bubble_beyond

-- ## Threads that come and go

-- who enters, and was not known and stood nowhere, stands once
pub thread_enters : (t : Tid) (priority : ℕ) (bubble : Option ℕ) (w : ForestView) → IsForest w → seats t w ≡ 0 → thread_of t w.threads ≡ None → ChangesThread t 1 w (enters t priority bubble w)
thread_enters = Changes.thread_enters

-- and is known then
pub known_enters : (t : Tid) (priority : ℕ) (bubble : Option ℕ) (w : ForestView) → thread_of t w.threads ≡ None → thread_of t (enters t priority bubble w).threads ≡ Some (known_thread t priority 0)
known_enters = Changes.known_enters

-- who goes on, and stood nowhere, stands once
pub thread_goes_on : (t : Tid) (w : ForestView) → IsForest w → seats t w ≡ 0 → ChangesThread t 1 w (goes_on t w)
thread_goes_on = Changes.thread_goes_on

-- on a list
pub listed_goes_on : (t : Tid) (w : ForestView) → is_some (place_of (Thread t) (goes_on t w).lists.rows) ≡ true
listed_goes_on = Changes.listed_goes_on

-- who leaves, and was known and in no Held and no Queued bubble, stands nowhere
pub thread_leaves : (t : Tid) (w : ForestView) → IsForest w → IsLoose t w → is_some (thread_of t w.threads) ≡ true → ChangesThread t 0 w (leaves t w)
thread_leaves = Changes.thread_leaves

-- and is known no more
pub known_leaves : (t : Tid) (w : ForestView) → IsForest w → thread_of t (leaves t w).threads ≡ None
known_leaves = Changes.known_leaves

-- who isn't known changes nothing by leaving
pub leaves_unknown : (t : Tid) (w : ForestView) → thread_of t w.threads ≡ None → leaves t w ≡ w
leaves_unknown = Changes.leaves_unknown

-- who stands nowhere is in no Held and no Queued bubble
pub loose_away : (t : Tid) (w : ForestView) → seats t w ≡ 0 → IsLoose t w
loose_away = Changes.loose_away

-- nor is who is on a list
pub loose_listed : (t : Tid) (w : ForestView) → IsForest w → is_some (place_of (Thread t) w.lists.rows) ≡ true → IsLoose t w
loose_listed = Changes.loose_listed

-- ## Choices

-- where no list that covers the processor has an entity a choice finds nothing
pub step_none : (vp : ℕ) (w : ForestView) → has_ready w.lists.tree vp w.lists.rows ≡ false → ((step vp w).what ≡ Empty) × ((step vp w).after ≡ w)
step_none = Changes.step_none

-- and nowhere else
pub step_empty : (vp : ℕ) (w : ForestView) → (step vp w).what ≡ Empty → (has_ready w.lists.tree vp w.lists.rows ≡ false) × ((step vp w).after ≡ w)
step_empty = Whole.step_empty

-- where one has an entity it finds something
pub step_found : (vp : ℕ) (w : ForestView) → has_ready w.lists.tree vp w.lists.rows ≡ true → (step vp w).what ≡ Empty → ⊥
step_found = Changes.step_found

-- a thread that is taken was on a list, and stands nowhere then
pub step_taken : (vp : ℕ) (t : Tid) (w : ForestView) → IsForest w → (step vp w).what ≡ Takes t → IsTaken vp t w
step_taken = Changes.step_taken

-- a bubble that is moved leaves all threads standing as often as before
pub keeps_shift : (vp : ℕ) (w : ForestView) (s : Shift) → IsForest w → (step vp w).what ≡ Shifts s → KeepsThreads w (step vp w).after
keeps_shift = Changes.keeps_shift

-- and every thread that is on a list on one
pub listed_shift : (vp : ℕ) (w : ForestView) (m : Shift) → (step vp w).what ≡ Shifts m → (u : Tid) → is_some (place_of (Thread u) w.lists.rows) ≡ true → is_some (place_of (Thread u) (step vp w).after.lists.rows) ≡ true
listed_shift = Changes.listed_shift

-- the forest after a bubble went down
pub step_down : (vp b list : ℕ) (w : ForestView) → (step vp w).what ≡ Shifts (Down b list) → (step vp w).after ≡ (down b list w).after
step_down = Changes.step_down

-- or burst
pub step_burst : (vp b list : ℕ) (w : ForestView) → (step vp w).what ≡ Shifts (Burst b list) → (step vp w).after ≡ (burst b list w).after
step_burst = Changes.step_burst

-- no choice changes how many bubbles there are
pub count_step : (vp : ℕ) (w : ForestView) → length (step vp w).after.bubbles ≡ length w.bubbles
count_step = Changes.count_step

-- ## Picks

-- a processor whose lists have an entity comes to a thread
pub picks_end : (vp : ℕ) (w : ForestView) → IsForest w → vp < processors w.lists.tree → has_ready w.lists.tree vp w.lists.rows ≡ true → PicksEnd vp w
picks_end = Changes.picks_end

-- and in one way
pub picks_one : (vp : ℕ) (w v u : ForestView) (ms ns : List Shift) (a b : Option Tid) → Picks vp w ms a v → Picks vp w ns b u → (ms ≡ ns) × (a ≡ b) × (v ≡ u)
picks_one = Changes.picks_one

-- ## Lists of the tree

-- lists with nothing on them
pub covered_empty : (tree : Tree) → AreCovered (empty_forest tree)
covered_empty = Covered.covered_empty

-- a new bubble is on no list
pub covered_new : (priority depth : ℕ) (w : ForestView) → AreCovered w → AreCovered (with_bubble priority depth w)
covered_new = Covered.covered_new

-- one that is woken is on the root
pub covered_wakes : (b : ℕ) (w : ForestView) → AreCovered w → 0 < processors w.lists.tree → AreCovered (wakes b w).after
covered_wakes = Covered.covered_wakes

-- one that is inserted is on no list
pub covered_inserts : (b c : ℕ) (w : ForestView) → AreCovered w → AreCovered (inserts b c w).after
covered_inserts = Covered.covered_inserts

-- one that is gathered takes entities off lists
pub covered_gathers : (b : ℕ) (w : ForestView) → AreCovered w → AreCovered (gathers b w).after
covered_gathers = Covered.covered_gathers

-- a new thread is on the root, or in a bubble
pub covered_enters : (t : Tid) (priority : ℕ) (bubble : Option ℕ) (w : ForestView) → AreCovered w → 0 < processors w.lists.tree → AreCovered (enters t priority bubble w)
covered_enters = Covered.covered_enters

-- one that goes on is on the list from which it ran last
pub covered_goes_on : (t : Tid) (w : ForestView) → AreCovered w → 0 < processors w.lists.tree → AreCovered (goes_on t w)
covered_goes_on = Covered.covered_goes_on

-- one that leaves is on none
pub covered_leaves : (t : Tid) (w : ForestView) → AreCovered w → AreCovered (leaves t w)
covered_leaves = Covered.covered_leaves

-- a choice moves a bubble to the next list towards its processor, which has to be one of the tree, or its members to its own list
pub covered_step : (vp : ℕ) (w : ForestView) → IsForest w → ((b list : ℕ) → (step vp w).what ≡ Shifts (Down b list) → vp < processors w.lists.tree) → AreCovered w → AreCovered (step vp w).after
covered_step = Covered.covered_step

-- where an entity is on a list, some processor has a pick
pub some_ready : (w : ForestView) → AreCovered w → (w.lists.rows ≡ [] → ⊥) → (vp : ℕ) × (vp < processors w.lists.tree) × (has_ready w.lists.tree vp w.lists.rows ≡ true)
some_ready = Covered.some_ready
