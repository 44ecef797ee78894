-- A picture as SVG: the frame, and then each shape.
use Rattle.std.specs.Prelude.{List, ◌++◌, codes}
use Rattle.std.specs.List.{flat_map}
use Rattle.pictures.specs.declared.shape.Shape.{Shape}
use Rattle.pictures.specs.declared.window.Window.{Window}
use Rattle.picture_texts.specs.Filling.{Text}
use Rattle.picture_texts.specs.Frames.{Frame, laid_out}
use Rattle.picture_texts.specs.SvgFrame.{frame_text}
use Rattle.picture_texts.specs.SvgShapes.{shape_text}

abbrev pub svg_in : Text → Frame → List Shape → Text
svg_in name f shapes = frame_text f name ++ (flat_map (shape_text f) shapes ++ codes "</svg>\n")

abbrev pub svg_text : Text → Window → List Shape → Text
svg_text name w shapes = svg_in name (laid_out w shapes) shapes
