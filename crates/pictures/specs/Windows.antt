-- The part of the axis that is drawn, and which shapes have some of them in it.
use Rattle.std.specs.Prelude.{ℕ, Bool, ◌&&◌, List, [], ◌∷◌, if◌then◌else◌, nat_lt, nat_le}
use Rattle.std.specs.List.{flat_map}
use Rattle.pictures.specs.declared.shape.Shape.{Shape}
use Rattle.pictures.specs.declared.shape.Shape.TheVariants.{Bar, Wait, Arrow, Mark, NodeMark}
use Rattle.pictures.specs.declared.window.Window.{Window}
use Rattle.pictures.specs.Moments.{following}

abbrev pub begins : Shape → ℕ
begins (Bar t vp count stop at to) = at.stamp
begins (Wait t reason at to) = at.stamp
begins (Arrow t carries at to) = at.stamp
begins (Mark t sign at) = at.stamp
begins (NodeMark sign at) = at.stamp

-- the first stamp behind a shape
abbrev pub ends : Shape → ℕ
ends (Bar t vp count stop at to) = to
ends (Wait t reason at to) = to
ends (Arrow t carries at to) = following to.stamp
ends (Mark t sign at) = following at.stamp
ends (NodeMark sign at) = following at.stamp

abbrev pub is_within : Window → Shape → Bool
is_within w s = nat_le (begins s) w.to && nat_lt w.from (ends s)

-- a shape, where it is to be drawn
abbrev pub if_within : Window → Shape → List Shape
if_within w s = if is_within w s then s ∷ [] else []

-- those of these shapes that are to be drawn, in order
abbrev pub kept : Window → List Shape → List Shape
kept w shapes = flat_map (if_within w) shapes
