use Rattle.std.proofs.Common.{◌≡◌, ◌++◌, drop}
use Rattle.std.specs.List.{flat_map}
use Rattle.picture_texts.specs.Frames.{frame_of}
use Rattle.picture_texts.specs.Paje.{event_text, paje_in}
use Rattle.picture_texts.proofs.paje.paje_in.Given as goal

abbrev pub invariant-loop-event : goal.invariant-loop-event
invariant-loop-event l = l.out.items ++ flat_map (event_text (frame_of l.layout)) (drop l.event-index l.events) ≡ paje_in (frame_of l.layout) l.events
