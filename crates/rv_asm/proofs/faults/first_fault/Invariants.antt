use Rattle.std.proofs.Common.{◌≡◌, drop, map}
use Rattle.asm_text.specs.Slots.{seen}
use Rattle.asm_text.specs.Lines.{line_seen}
use Rattle.asm_targets.specs.Labels.{mark_in, service_in}
use Rattle.rv_asm.specs.Layout.{base}
use Rattle.rv_asm.specs.Faults.{first_fault}
use Rattle.rv_asm.proofs.Rest.{IsAt}
use Rattle.rv_asm.proofs.faults.first_fault.Given as goal

abbrev pub invariant-loop-reading : goal.invariant-loop-reading
invariant-loop-reading l =
    IsAt l.mark l.reading-index
    × (first_fault (mark_in l.labels) (service_in l.services) l.mark.line l.mark.address (map (seen line_seen) (drop l.reading-index l.readings))
    ≡ first_fault (mark_in l.labels) (service_in l.services) 1 base (map (seen line_seen) l.readings))
