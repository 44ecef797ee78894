use Rattle.std.proofs.Common.{◌≡◌, ℕ, ◌+◌, drop, map}
use Rattle.std.specs.Option.{option_or}
use Rattle.asm_text.specs.Slots.{seen}
use Rattle.asm_text.specs.Lines.{line_seen}
use Rattle.asm_targets.specs.Labels.{service_in}
use Rattle.rv_asm.specs.Layout.{service_among}
use Rattle.rv_asm.proofs.layout.services_of.Given as goal

abbrev pub invariant-loop-reading : goal.invariant-loop-reading
invariant-loop-reading l =
    (l.line ≡ l.reading-index + 1)
    × ((n : ℕ) → option_or (service_in l.services n) (service_among l.line (map (seen line_seen) (drop l.reading-index l.readings)) n)
    ≡ service_among 1 (map (seen line_seen) l.readings) n)
