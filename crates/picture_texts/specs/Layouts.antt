-- Where everything stands in a picture.
use Rattle.std.specs.Prelude.{ℕ, ◌+◌, ◌-◌, ◌*◌, ◌^◌, min, max, List, [], ◌∷◌, Option, Some, None, nat_le, if◌then◌else◌}
use Rattle.std.specs.Option.{unwrap_or}
use Rattle.std.specs.Map.{lookup}
use Rattle.std.specs.BTreeMap.{insert_entry}
use Rattle.slot_space.specs.declared.names.Tid.{Tid}
use Rattle.run_trace.specs.Names.{tid_cmp, is_tid}
use Rattle.pictures.specs.declared.shape.Shape.{Shape}
use Rattle.pictures.specs.declared.window.Window.{Window}
use Rattle.pictures.specs.Moments.{following}
use Rattle.picture_texts.specs.declared.extent.Extent.{Extent}
use Rattle.picture_texts.specs.declared.axis.Axis.{Axis}
use Rattle.picture_texts.specs.Parts.{start, finish, subject, processor, row_after}

-- ## How far a picture reaches

abbrev pub nowhere : Extent
nowhere = record { first = 2 ^ 64 - 1; last = 0; nodes = 1; processors = 1 }

abbrev pub wider : Extent → Shape → Extent
wider e s = record {
  first = min e.first (start s).stamp;
  last = max e.last (following (finish s).stamp);
  nodes = max (max e.nodes (row_after (start s).node)) (row_after (finish s).node);
  processors = max e.processors (row_after (processor s));
}

abbrev pub extent_from : Extent → List Shape → Extent
extent_from e [] = e
extent_from e (s ∷ ss) = extent_from (wider e s) ss

abbrev pub extent : List Shape → Extent
extent shapes = extent_from nowhere shapes

-- ## From left to right: stamps

abbrev pub unit_of : ℕ → ℕ
unit_of stamps = if nat_le stamps 80 then 20 else (if nat_le stamps 400 then 10 else (if nat_le stamps 2000 then 5 else 2))

abbrev pub axis : ℕ → ℕ → Axis
axis first last = record { first = first; last = last; unit = unit_of (last - first) }

abbrev pub axis_of : Window → Extent → Axis
axis_of w e = axis (max w.from e.first) (min e.last (following w.to))

-- stamps outside stand at the ends
abbrev pub across : Axis → ℕ → ℕ
across a stamp = 90 + min (min stamp a.last - a.first) 4000000 * a.unit

-- ## From top to bottom: a row for each processor, and then a lane for each thread

abbrev pub row_down : ℕ → ℕ → ℕ → ℕ
row_down processors node vp = 84 + (node * processors + vp) * 36

abbrev pub lanes_top : ℕ → ℕ → ℕ
lanes_top nodes processors = 94 + nodes * processors * 36

abbrev pub lane_down : ℕ → ℕ → ℕ → ℕ
lane_down nodes processors lane = lanes_top nodes processors + lane * 18

-- the lanes by thread, and how many they are
pub record Seating : Type 0 where
  pub of : List (Tid × ℕ)
  pub count : ℕ

abbrev pub seating : List (Tid × ℕ) → ℕ → Seating
seating of count = record { of = of; count = count }

abbrev pub seated_by : Tid → Seating → Option ℕ → Seating
seated_by t s (Some lane) = s
seated_by t s None = seating (insert_entry tid_cmp s.of t s.count) (min (s.count + 1) (2 ^ 32 - 1))

-- a thread that has no lane yet gets the next
abbrev pub seated : Tid → Seating → Seating
seated t s = seated_by t s (lookup (is_tid t) s.of)

abbrev pub seated_if : Option Tid → Seating → Seating
seated_if None s = s
seated_if (Some t) s = seated t s

abbrev pub seats_from : Seating → List Shape → Seating
seats_from s [] = s
seats_from s (shape ∷ shapes) = seats_from (seated_if (subject shape) s) shapes

abbrev pub seats : List Shape → Seating
seats shapes = seats_from (seating [] 0) shapes

abbrev pub lane_of : List (Tid × ℕ) → Tid → ℕ
lane_of lanes t = unwrap_or (lookup (is_tid t) lanes) 0
