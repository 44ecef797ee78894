use Rattle.std.proofs.Common.{◌≡◌, ◌++◌, drop}
use Rattle.pictures.specs.Windows.{kept}
use Rattle.pictures.specs.Drawing.{drawn, said, threads_after}
use Rattle.pictures.proofs.picture.draw_entries.Given as goal

abbrev pub invariant-loop-entry : goal.invariant-loop-entry
invariant-loop-entry l =
    (l.drawing.shapes.items ++ kept l.window (drawn l.drawing.threads.entries (said (drop l.entry-index l.trace))) ≡ l.fn.drawing.shapes.items ++ kept l.window (drawn l.fn.drawing.threads.entries (said l.trace)))
    × (threads_after l.drawing.threads.entries (said (drop l.entry-index l.trace)) ≡ threads_after l.fn.drawing.threads.entries (said l.trace))
