-- What the labels of a trace tell by themselves, and the same read off shapes.
use Rattle.std.specs.Prelude.{◌≡◌, ℕ, List, [], ◌∷◌, if◌then◌else◌, ⊤}
use Rattle.slot_space.specs.declared.names.Tid.{Tid}
use Rattle.rv_step.specs.declared.hart.Stop.{Stop}
use Rattle.run_trace.specs.Names.{is_tid}
use Rattle.run_trace.specs.declared.label.Label.{Label}
use Rattle.run_trace.specs.declared.label.Label.TheVariants.{Ran}
use Rattle.pictures.specs.declared.moment.Moment.{Moment}
use Rattle.pictures.specs.declared.shape.Shape.{Shape}
use Rattle.pictures.specs.declared.shape.Shape.TheVariants.{Bar, Wait, Mark, NodeMark}
use Rattle.pictures.specs.Drawing.{Said, marks}

-- ## Runs

-- a run: whose, on which node and processor, how many instructions, and why no more
pub record Run : Type 0 where
  pub thread : Tid
  pub node : ℕ
  pub vp : ℕ
  pub count : ℕ
  pub stop : Stop

abbrev pub run_of : Tid → ℕ → ℕ → ℕ → Stop → Run
run_of t node vp count stop = record { thread = t; node = node; vp = vp; count = count; stop = stop }

abbrev pub run_in : Shape → List Run
run_in (Bar t vp count stop at to) = run_of t at.node vp count stop ∷ []
run_in _ = []

abbrev pub run_by : Moment → Label → List Run
run_by here (Ran t vp count stop) = run_of t here.node vp count stop ∷ []
run_by here _ = []

abbrev pub run_told : Said → List Run
run_told s = run_by s.0 s.1

-- ## Marks

abbrev pub mark_in : Shape → List Shape
mark_in (Mark t sign at) = Mark t sign at ∷ []
mark_in (NodeMark sign at) = NodeMark sign at ∷ []
mark_in _ = []

abbrev pub marks_told : Said → List Shape
marks_told s = marks s.0 s.1

-- ## The pieces of a thread

-- from one stamp to another
pub record Span : Type 0 where
  pub from : ℕ
  pub to : ℕ

abbrev pub span_if : Tid → Tid → ℕ → ℕ → List Span
span_if t u from to = if is_tid t u then record { from = from; to = to } ∷ [] else []

-- where a bar or a wait of thread t stands
abbrev pub span_in : Tid → Shape → List Span
span_in t (Bar u vp count stop at to) = span_if t u at.stamp to
span_in t (Wait u reason at to) = span_if t u at.stamp to
span_in t _ = []

-- each begins where the last one ended, the first one here
abbrev pub FollowFrom : ℕ → List Span → Type 0
FollowFrom at [] = ⊤
FollowFrom at (p ∷ ps) = (p.from ≡ at) × FollowFrom p.to ps

abbrev pub Follow : List Span → Type 0
Follow [] = ⊤
Follow (p ∷ ps) = FollowFrom p.to ps
