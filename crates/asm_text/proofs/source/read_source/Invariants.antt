use Rattle.std.proofs.Common.{◌≡◌, ◌≤◌, ◌++◌, length}
use Rattle.std.specs.Prelude.{map}
use Rattle.std.specs.List.{AllByRecursion}
use Rattle.asm_text.specs.Slots.{seen}
use Rattle.asm_text.specs.Lines.{line_seen, said, HasSound}
use Rattle.asm_text.proofs.source.read_source.Given as goal

abbrev pub invariant-loop-rest : goal.invariant-loop-rest
invariant-loop-rest l = (map (seen line_seen) l.readings.items ++ said l.rest ≡ said l.source) × AllByRecursion (HasSound (length l.source)) (map (seen line_seen) l.readings.items) × (length l.rest ≤ length l.source)

abbrev pub decreases-loop-rest : goal.decreases-loop-rest
decreases-loop-rest l = length l.rest
