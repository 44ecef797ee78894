-- A layout as its axis, its rows and its lanes.
use Rattle.std.specs.Prelude.{ℕ, List}
use Rattle.slot_space.specs.declared.names.Tid.{Tid}
use Rattle.pictures.specs.declared.shape.Shape.{Shape}
use Rattle.pictures.specs.declared.window.Window.{Window}
use Rattle.picture_texts.specs.declared.axis.Axis.{Axis}
use Rattle.picture_texts.specs.declared.layout.Layout.{Layout}
use Rattle.picture_texts.specs.Layouts.{Seating, seating, axis_of, extent, seats}

pub record Frame : Type 0 where
  pub axis : Axis
  pub nodes : ℕ
  pub processors : ℕ
  pub lanes : List (Tid × ℕ)
  pub count : ℕ

abbrev pub frame : Axis → ℕ → ℕ → Seating → Frame
frame axis nodes processors seats = record { axis = axis; nodes = nodes; processors = processors; lanes = seats.of; count = seats.count }

abbrev pub frame_of : Layout → Frame
frame_of l = frame l.axis l.nodes l.processors (seating l.lanes.entries l.count)

-- where everything stands for these shapes in this window
abbrev pub laid_out : Window → List Shape → Frame
laid_out w shapes = frame (axis_of w (extent shapes)) (extent shapes).nodes (extent shapes).processors (seats shapes)
