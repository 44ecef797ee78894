use Rattle.std.proofs.Common.{◌≡◌, drop}
use Rattle.picture_texts.specs.Layouts.{seating, seats_from, seats}
use Rattle.picture_texts.proofs.lanes.lanes_of.Given as goal

abbrev pub invariant-loop-shape : goal.invariant-loop-shape
invariant-loop-shape l = seats_from (seating l.lanes.of.entries l.lanes.count) (drop l.shape-index l.shapes) ≡ seats l.shapes
