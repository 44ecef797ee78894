use Rattle.std.proofs.Common.{◌≡◌, ℕ, List, drop, map}
use Rattle.std.specs.Option.{option_or}
use Rattle.asm_targets.specs.Labels.{mark_in}
use Rattle.asm_text.specs.Slots.{seen}
use Rattle.asm_text.specs.Lines.{line_seen}
use Rattle.rv_asm.specs.Layout.{base, label_among}
use Rattle.rv_asm.proofs.Rest.{IsAt}
use Rattle.rv_asm.proofs.layout.labels_of.Given as goal

abbrev pub invariant-loop-reading : goal.invariant-loop-reading
invariant-loop-reading l =
    IsAt l.mark l.reading-index
    × ((w : List ℕ) → option_or (mark_in l.labels w) (label_among l.mark.line l.mark.address (map (seen line_seen) (drop l.reading-index l.readings)) w)
    ≡ label_among 1 base (map (seen line_seen) l.readings) w)
