use Rattle.std.proofs.Common.{◌≡◌, drop, map}
use Rattle.asm_text.specs.Slots.{seen}
use Rattle.asm_text.specs.Lines.{line_seen}
use Rattle.rv_asm.specs.Layout.{base, end_of}
use Rattle.rv_asm.proofs.Rest.{IsAt}
use Rattle.rv_asm.proofs.layout.end_of.Given as goal

abbrev pub invariant-loop-reading : goal.invariant-loop-reading
invariant-loop-reading l =
    IsAt l.mark l.reading-index
    × (end_of l.mark.address (map (seen line_seen) (drop l.reading-index l.readings)) ≡ end_of base (map (seen line_seen) l.readings))
