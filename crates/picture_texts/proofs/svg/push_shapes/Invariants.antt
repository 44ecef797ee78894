use Rattle.std.proofs.Common.{◌≡◌, ◌++◌, drop}
use Rattle.std.specs.List.{flat_map}
use Rattle.picture_texts.specs.Frames.{frame_of}
use Rattle.picture_texts.specs.SvgShapes.{shape_text}
use Rattle.picture_texts.proofs.svg.push_shapes.Given as goal

abbrev pub invariant-loop-shape : goal.invariant-loop-shape
invariant-loop-shape l = l.out.items ++ flat_map (shape_text (frame_of l.layout)) (drop l.shape-index l.shapes) ≡ l.fn.out.items ++ flat_map (shape_text (frame_of l.layout)) l.shapes
