-- Where and when an entry stands.
use Rattle.std.specs.Prelude.{ℕ, ◌+◌, ◌-◌, ◌^◌, min, Bool, ◌&&◌, ◌==◌}
use Rattle.pictures.specs.declared.moment.Moment.{Moment}

abbrev pub moment : ℕ → ℕ → Moment
moment node stamp = record { node = node; stamp = stamp }

-- of one entry: no node has two entries with one stamp
abbrev pub is_same : Moment → Moment → Bool
is_same a b = (a.node == b.node) && (a.stamp == b.stamp)

-- the stamp behind this one, up to the last one that there is
abbrev pub following : ℕ → ℕ
following stamp = min (stamp + 1) (2 ^ 64 - 1)
