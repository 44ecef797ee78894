-- How many choices can still come: how far each bubble is from being burst.
use Rattle.std.proofs.Common.{ℕ, zero, suc, ◌+◌, ◌-◌, Option, Some, None}
use Rattle.levels.specs.declared.entity.Entity.TheVariants.{Bubble}
use Rattle.levels.specs.declared.entity.Place.{Place}
use Rattle.levels.specs.Trees.{Tree, depth_of}
use Rattle.levels.specs.Rows.{place_of}
use Rattle.bubbles.specs.declared.bubble.BubbleState.{BubbleState}
use Rattle.bubbles.specs.declared.bubble.BubbleState.TheVariants.{Filling, Held, Queued, Burst as IsBurst}
use Rattle.bubbles.specs.declared.bubble.BubbleRow.{BubbleRow}
use Rattle.bubbles.specs.Rows.{bubble_of}
use Rattle.bubbles.specs.Forests.{ForestView}

abbrev pub below : Tree → Option Place → ℕ
below t None = 3
below t (Some x) = 3 - depth_of t x.list

abbrev pub weight_as : ℕ → BubbleState → ℕ
weight_as d Filling = 3
weight_as d Held = 3
weight_as d Queued = d
weight_as d IsBurst = 0

abbrev pub weight : ℕ → Option BubbleRow → ℕ
weight d None = 0
weight d (Some x) = weight_as d x.state

abbrev pub weight_of : ForestView → ℕ → ℕ
weight_of w b = weight (below w.lists.tree (place_of (Bubble b) w.lists.rows)) (bubble_of b w.bubbles)

abbrev pub total : ℕ → (ℕ → ℕ) → ℕ
total zero f = 0
total (suc n) f = total n f + f n
