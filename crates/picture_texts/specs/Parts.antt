-- The parts of a shape: where it begins and ends, and whose it is.
use Rattle.std.specs.Prelude.{ℕ, ◌+◌, Option, Some, None}
use Rattle.slot_space.specs.declared.names.Tid.{Tid}
use Rattle.pictures.specs.declared.moment.Moment.{Moment}
use Rattle.pictures.specs.declared.shape.Shape.{Shape}
use Rattle.pictures.specs.declared.shape.Shape.TheVariants.{Bar, Wait, Arrow, Mark, NodeMark}
use Rattle.pictures.specs.Moments.{moment, following}

abbrev pub behind : Moment → Moment
behind at = moment at.node (following at.stamp)

abbrev pub start : Shape → Moment
start (Bar t vp count stop at to) = at
start (Wait t reason at to) = at
start (Arrow t carries at to) = at
start (Mark t sign at) = at
start (NodeMark sign at) = at

-- a mark ends behind its stamp
abbrev pub finish : Shape → Moment
finish (Bar t vp count stop at to) = moment at.node to
finish (Wait t reason at to) = moment at.node to
finish (Arrow t carries at to) = to
finish (Mark t sign at) = behind at
finish (NodeMark sign at) = behind at

abbrev pub subject : Shape → Option Tid
subject (Bar t vp count stop at to) = Some t
subject (Wait t reason at to) = Some t
subject (Arrow t carries at to) = Some t
subject (Mark t sign at) = Some t
subject (NodeMark sign at) = None

abbrev pub processor : Shape → ℕ
processor (Bar t vp count stop at to) = vp
processor _ = 0

abbrev pub row_after : ℕ → ℕ
row_after row = row + 1
