-- The labels of an entry, as they are kept.
use Rattle.std.specs.Prelude.{ℕ, List, [], ◌∷◌}
use Rattle.rv_step.specs.declared.hart.Stop.TheVariants as stops
use Rattle.slot_space.specs.declared.names.Tid.{Tid}
use Rattle.run_trace.specs.declared.label.Extra.TheVariants.{Nothing}
use Rattle.run_trace.specs.declared.label.Label.{Label}
use Rattle.run_trace.specs.declared.label.Label.TheVariants.{Ran, Asked, Judged, Told}
use Rattle.run_trace.specs.declared.labels.Kept.{Kept}
use Rattle.run_trace.specs.declared.labels.Kept.TheVariants.{All, Answered}

-- a thread ran to a call without arguments, and was answered at once
abbrev pub answered : Tid → (vp count call reply : ℕ) → List Label
answered t vp count call reply = Ran t vp count stops.Call ∷ Asked t call [] [] ∷ Judged t reply Nothing ∷ Told t ∷ []

abbrev pub labels_kept : Kept → List Label
labels_kept (All labels) = labels
labels_kept (Answered t vp count call reply) = answered t vp count call reply
