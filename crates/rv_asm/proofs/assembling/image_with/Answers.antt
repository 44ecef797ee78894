use Rattle.std.proofs.Common.{map, codes, sym, ◌∙◌, rules}
use Rattle.asm_text.specs.Slots.{seen}
use Rattle.asm_text.specs.Lines.{line_seen}
use Rattle.asm_targets.specs.Labels.{mark_in}
use Rattle.rv_asm.specs.Layout.{base, end_of}
use Rattle.rv_asm.proofs.Reached.{label_reached, main_reached}
use Rattle.rv_asm.proofs.assembling.image_with.Goals as goal

pub image_from-requires-clause-start_in : goal.image_from-requires-clause-start_in
image_from-requires-clause-start_in c =
    let lines = map (seen line_seen) c.args.readings.now in
    let name = codes "main" in
    main_reached (mark_in c.args.labels.now name) c.in-Some-main_at.main (end_of base lines) (search rules)
    (λ m e. label_reached 1 base lines name m (sym (c.requires.placed name) ∙ e))
