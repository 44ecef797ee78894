use Rattle.std.proofs.Common.{◌≡◌, ◌++◌, drop}
use Rattle.picture_texts.specs.Paje.{events_of}
use Rattle.picture_texts.proofs.paje.events_of.Given as goal

abbrev pub invariant-loop-shape : goal.invariant-loop-shape
invariant-loop-shape l = l.events.items ++ events_of (drop l.shape-index l.shapes) ≡ events_of l.shapes
