-- A picture as a Pajé trace: the head, and then each start and end of a shape.
use Rattle.std.specs.Prelude.{◌≡◌, ℕ, Bool, true, false, List, [], ◌∷◌, ◌++◌, if◌then◌else◌}
use Rattle.std.specs.List.{flat_map}
use Rattle.std.specs.List.Sorted.{IsPermutation}
use Rattle.pictures.specs.declared.shape.Shape.{Shape}
use Rattle.pictures.specs.declared.window.Window.{Window}
use Rattle.picture_texts.specs.declared.paje.Event.{Event}
use Rattle.picture_texts.specs.Filling.{Text}
use Rattle.picture_texts.specs.Frames.{Frame, laid_out}
use Rattle.picture_texts.specs.Parts.{start, finish}
use Rattle.picture_texts.specs.PajeHead.{head_text}
use Rattle.picture_texts.specs.PajeLines.{start_text, end_text}

abbrev pub event : ℕ → Bool → Shape → Event
event time is_end s = record { time = time; is_end = is_end; shape = s }

-- the start and the end of a shape
abbrev pub events_at : Shape → List Event
events_at s = event (start s).stamp false s ∷ event (finish s).stamp true s ∷ []

abbrev pub events_of : List Shape → List Event
events_of shapes = flat_map events_at shapes

abbrev pub event_text : Frame → Event → Text
event_text f e = if e.is_end then end_text f e.shape else start_text f e.shape

abbrev pub paje_in : Frame → List Event → Text
paje_in f events = head_text f ++ flat_map (event_text f) events

-- the text has each start and each end of these shapes, once
abbrev pub IsPaje : Window → List Shape → Text → Type 0
IsPaje w shapes text = (events : List Event) × IsPermutation (events_of shapes) events × (text ≡ paje_in (laid_out w shapes) events)
