use Rattle.std.proofs.Common.{◌≡◌, ◌++◌, drop, map}
use Rattle.asm_text.specs.Slots.{seen}
use Rattle.asm_text.specs.Lines.{line_seen}
use Rattle.asm_targets.specs.Labels.{mark_in}
use Rattle.rv_asm.specs.Layout.{base}
use Rattle.rv_asm.specs.Bytes.{all_bytes}
use Rattle.rv_asm.proofs.Rest.{IsAt}
use Rattle.rv_asm.proofs.emitting.push_lines.Given as goal

abbrev pub invariant-loop-reading : goal.invariant-loop-reading
invariant-loop-reading l =
    IsAt l.mark l.reading-index
    × (l.out.items ++ all_bytes (mark_in l.labels) l.mark.address (map (seen line_seen) (drop l.reading-index l.readings))
    ≡ l.fn.out.items ++ all_bytes (mark_in l.labels) base (map (seen line_seen) l.readings))
