use Rattle.std.proofs.Common.{◌≡◌, ◌++◌}
use Rattle.std.specs.List.{flat_map}
use Rattle.pictures.specs.Windows.{kept}
use Rattle.pictures.specs.Drawing.{left_over}
use Rattle.pictures.proofs.picture.draw_left_over.Given as goal

abbrev pub invariant-loop-t : goal.invariant-loop-t
invariant-loop-t l = l.shapes.items ++ kept l.window (flat_map (left_over l.end) l.t-iterator) ≡ l.fn.shapes.items ++ kept l.window (flat_map (left_over l.end) l.threads.entries)
