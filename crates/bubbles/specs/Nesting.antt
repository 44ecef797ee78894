-- Bubbles inside bubbles.
use Rattle.std.specs.Prelude.{◌≡◌, ℕ, ◌+◌, ◌≤◌, ◌<◌, List, [], ◌∷◌, Option, Some, None}
use Rattle.levels.specs.declared.entity.Entity.{Entity}
use Rattle.levels.specs.declared.entity.Entity.TheVariants.{Bubble}
use Rattle.bubbles.specs.declared.bubble.BubbleState.{BubbleState}
use Rattle.bubbles.specs.declared.bubble.BubbleState.TheVariants.{Filling, Held, Queued, Burst as IsBurst}
use Rattle.bubbles.specs.declared.bubble.BubbleRow.{BubbleRow}
use Rattle.bubbles.specs.Rows.{bubble_of, members_of}
use Rattle.bubbles.specs.Standing.{count}

-- how often the entity is a member, of burst bubbles too
abbrev pub member_times : Entity → List BubbleRow → ℕ
member_times e [] = 0
member_times e (x ∷ xs) = count e x.members + member_times e xs

-- how often a bubble may be a member: one that takes members is a member of none
abbrev pub most_times_as : BubbleState → ℕ
most_times_as Filling = 0
most_times_as Held = 1
most_times_as Queued = 1
most_times_as IsBurst = 1

abbrev pub most_times : Option BubbleRow → ℕ
most_times None = 0
most_times (Some x) = most_times_as x.state

-- the bubble c is a member of b
abbrev pub IsMember : (c b : ℕ) → List BubbleRow → Type 0
IsMember c b bubbles = 1 ≤ count (Bubble c) (members_of (bubble_of b bubbles))

-- each bubble is a member of at most one, a Filling one of none, and a member is lower than who has it
pub record AreNested (bubbles : List BubbleRow) : Type 0 where
  pub height : ℕ → ℕ
  pub once : (b : ℕ) → member_times (Bubble b) bubbles ≤ most_times (bubble_of b bubbles)
  pub lower : (c b : ℕ) → IsMember c b bubbles → height c < height b

-- the bubble c is inside b: a member of it, or of one of these, each of which is a member of the next, and the last one of b
abbrev pub IsInside : (c : ℕ) → List ℕ → (b : ℕ) → List BubbleRow → Type 0
IsInside c [] b bubbles = IsMember c b bubbles
IsInside c (d ∷ path) b bubbles = IsMember c d bubbles × IsInside d path b bubbles
