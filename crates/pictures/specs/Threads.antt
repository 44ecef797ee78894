-- What the labels say of a thread: what it waits for, since when, and where it last asked, was answered, ended and left.
use Rattle.std.specs.Prelude.{ℕ, max, List, [], ◌∷◌, Option, Some, None}
use Rattle.std.specs.Option.{unwrap_or}
use Rattle.std.specs.Map.{lookup}
use Rattle.slot_space.specs.declared.names.Tid.{Tid}
use Rattle.run_trace.specs.Names.{is_tid}
use Rattle.run_trace.specs.declared.label.Label.{Label}
use Rattle.run_trace.specs.declared.label.Label.TheVariants.{Born, Ran, Asked, Heard, Judged, Told, Ended, Known, Left, Came, Shown}
use Rattle.pictures.specs.declared.moment.Moment.{Moment}
use Rattle.pictures.specs.declared.shape.Reason.{Reason}
use Rattle.pictures.specs.declared.shape.Reason.TheVariants.{Ready, Call, Coming, Gone}
use Rattle.pictures.specs.declared.thread.Thread.{Thread}
use Rattle.pictures.specs.Moments.{moment, following}

-- of whom no label has told before this moment
abbrev pub stranger : Moment → Thread
stranger here = record { since = here; reason = Gone; asked = None; judged = None; ended = None; left = None }

-- the thread of this name
abbrev pub known : List (Tid × Thread) → Tid → Moment → Thread
known threads t here = unwrap_or (lookup (is_tid t) threads) (stranger here)

abbrev pub about : Label → Option Tid
about (Born t why entry a0 a1 sp slot) = Some t
about (Ran t vp count stop) = Some t
about (Asked t call args bytes) = Some t
about (Heard t) = Some t
about (Judged t reply extra) = Some t
about (Told t) = Some t
about (Ended t end) = Some t
about (Known t) = Some t
about (Left t to) = Some t
about (Came t) = Some t
about (Shown t) = Some t
about _ = None

abbrev pub first_or_zero : List ℕ → ℕ
first_or_zero [] = 0
first_or_zero (n ∷ ns) = n

-- what it waits for after a label; none where that stays
abbrev pub next_reason : Label → Option Reason
next_reason (Born t why entry a0 a1 sp slot) = Some Ready
next_reason (Ran t vp count stop) = Some Ready
next_reason (Asked t call args bytes) = Some (Call call (first_or_zero args))
next_reason (Told t) = Some Ready
next_reason (Ended t end) = Some Gone
next_reason (Left t to) = Some (Coming to)
next_reason (Came t) = Some Ready
next_reason _ = None

-- when its next piece begins: not before the last one has ended
abbrev pub turn : Moment → Thread → ℕ
turn here x = max x.since.stamp here.stamp

-- a run takes a stamp, all else none
abbrev pub piece_end : Label → ℕ → ℕ
piece_end (Ran t vp count stop) begin = following begin
piece_end _ begin = begin

abbrev pub rests : Moment → Label → Thread → Option Reason → Thread
rests here l x None = x
rests here l x (Some reason) = record x { since = moment here.node (piece_end l (turn here x)); reason = reason }

abbrev pub resting : Moment → Label → Thread → Thread
resting here l x = rests here l x (next_reason l)

abbrev pub noted : Moment → Label → Thread → Thread
noted here (Asked t call args bytes) x = record x { asked = Some here }
noted here (Judged t reply extra) x = record x { judged = Some here }
noted here (Ended t end) x = record x { ended = Some here }
noted here (Left t to) x = record x { left = Some here }
noted here (Came t) x = record x { left = None }
noted here _ x = x

-- the thread after a label
abbrev pub after : Moment → Label → Thread → Thread
after here l x = noted here l (resting here l x)
