use Rattle.std.proofs.Common.{◌≡◌, drop}
use Rattle.picture_texts.specs.Layouts.{extent_from, extent}
use Rattle.picture_texts.proofs.extent.extent_of.Given as goal

abbrev pub invariant-loop-shape : goal.invariant-loop-shape
invariant-loop-shape l = extent_from l.reach (drop l.shape-index l.shapes) ≡ extent l.shapes
