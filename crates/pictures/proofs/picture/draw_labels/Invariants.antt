use Rattle.std.proofs.Common.{◌≡◌, ◌++◌, drop}
use Rattle.pictures.specs.Windows.{kept}
use Rattle.pictures.specs.Drawing.{drawn, labels_at, threads_after}
use Rattle.pictures.proofs.picture.draw_labels.Given as goal

abbrev pub invariant-loop-label : goal.invariant-loop-label
invariant-loop-label l =
    (l.drawing.shapes.items ++ kept l.window (drawn l.drawing.threads.entries (labels_at l.here (drop l.label-index l.labels))) ≡ l.fn.drawing.shapes.items ++ kept l.window (drawn l.fn.drawing.threads.entries (labels_at l.here l.labels)))
    × (threads_after l.drawing.threads.entries (labels_at l.here (drop l.label-index l.labels)) ≡ threads_after l.fn.drawing.threads.entries (labels_at l.here l.labels))
