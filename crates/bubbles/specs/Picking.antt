-- How a processor comes to a thread: by choices, each of which moves a bubble or takes a thread.
use Rattle.std.specs.Prelude.{◌≡◌, ℕ, List, [], ◌∷◌, Option, Some, None, Bool, true, ◌||◌, nat_le, if◌then◌else◌}
use Rattle.slot_space.specs.declared.names.Tid.{Tid}
use Rattle.levels.specs.declared.entity.Entity.{Entity}
use Rattle.levels.specs.declared.entity.Entity.TheVariants.{Thread, Bubble}
use Rattle.levels.specs.declared.entity.Place.{Place}
use Rattle.levels.specs.Trees.{Tree, depth_of, is_leaf, next_towards}
use Rattle.levels.specs.Rows.{taken_off}
use Rattle.levels.specs.Choice.{choice}
use Rattle.bubbles.specs.declared.bubble.BubbleState.TheVariants.{Burst as IsBurst}
use Rattle.bubbles.specs.declared.bubble.BubbleRow.{BubbleRow}
use Rattle.bubbles.specs.declared.bubble.Shift.{Shift}
use Rattle.bubbles.specs.declared.bubble.Shift.TheVariants.{Down, Burst}
use Rattle.bubbles.specs.declared.bubble.Step.{Step}
use Rattle.bubbles.specs.declared.bubble.Step.TheVariants.{Empty, Takes, Shifts}
use Rattle.bubbles.specs.Rows.{bubble_of, members_of, with_state, with_last}
use Rattle.bubbles.specs.Forests.{ForestView, all_arrive, arrives, off_list}

-- a choice, and the forest after it
pub record Stepped : Type 0 where
  pub what : Step
  pub after : ForestView

-- the bubble is off its list, and Burst
abbrev pub bursting : ℕ → ForestView → ForestView
bursting b w = record w { lists = taken_off (Bubble b) w.lists; bubbles = with_state b IsBurst w.bubbles }

-- on a leaf, or where the list is as deep as the bubble's bursting depth
abbrev pub bursts_at : Tree → ℕ → Option BubbleRow → Bool
bursts_at tree list None = true
bursts_at tree list (Some x) = is_leaf tree list || nat_le x.depth (depth_of tree list)

-- its members arrive on that same list in the order of insertion
abbrev pub burst : ℕ → ℕ → ForestView → Stepped
burst b list w = record { what = Shifts (Burst b list); after = all_arrive list (members_of (bubble_of b w.bubbles)) (bursting b w) }

-- the bubble arrives on another list
abbrev pub down : ℕ → ℕ → ForestView → Stepped
down b list w = record { what = Shifts (Down b list); after = arrives list (Bubble b) (off_list (Bubble b) w) }

-- the thread is taken off its list, which is kept as its last
abbrev pub takes : Tid → ℕ → ForestView → Stepped
takes t list w = record { what = Takes t; after = record w { lists = taken_off (Thread t) w.lists; threads = with_last t list w.threads } }

abbrev pub chosen : ℕ → ForestView → ℕ → Entity → Stepped
chosen vp w list (Thread t) = takes t list w
chosen vp w list (Bubble b) = if bursts_at w.lists.tree list (bubble_of b w.bubbles) then burst b list w else down b (next_towards w.lists.tree list vp) w

abbrev pub step_by : ℕ → ForestView → Option (Place × Entity) → Stepped
step_by vp w None = record { what = Empty; after = w }
step_by vp w (Some r) = chosen vp w r.0.list r.1

unfoldable pub step : ℕ → ForestView → Stepped
step vp w = step_by vp w (choice w.lists.tree vp w.lists.rows)

abbrev pub taken : Option Tid → Step
taken None = Empty
taken (Some t) = Takes t

-- each move is that of a choice, one after another, and the choice after the last takes the thread, or finds nothing
abbrev pub Picks : ℕ → ForestView → List Shift → Option Tid → ForestView → Type 0
Picks vp w [] thread after = ((step vp w).what ≡ taken thread) × ((step vp w).after ≡ after)
Picks vp w (m ∷ moves) thread after = ((step vp w).what ≡ Shifts m) × Picks vp (step vp w).after moves thread after
