use Rattle.std.proofs.Common.{◌∙◌}
use Rattle.pictures.proofs.Walks.{entry_step}
use Rattle.pictures.proofs.picture.draw_entries.Goals as goal

pub loop-entry-preserved : goal.loop-entry-preserved
loop-entry-preserved c =
    let old = c.loop-entry.drawing in
    let new = c.draw_labels.new.drawing in
    let s = entry_step c.args.window.now old.threads.entries new.threads.entries old.shapes.items new.shapes.items c.args.trace.now c.loop-entry.entry-index
    c.entry-item.result c.moment_of-here.result c.as_slice.result.now c.loop-entry-test.true c.entry-item.is c.moment_of-here.ensures c.as_slice.ensures
    c.in_ok-draw_labels.ensures.shapes c.in_ok-draw_labels.ensures.threads in
    (s.0 ∙ c.loop-entry.invariant.0, s.1 ∙ c.loop-entry.invariant.1)
