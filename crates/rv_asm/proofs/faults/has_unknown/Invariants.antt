use Rattle.std.proofs.Common.{◌≡◌, drop, map}
use Rattle.std.specs.List.{list_any}
use Rattle.asm_text.specs.Statements.{value_seen}
use Rattle.asm_targets.specs.Labels.{mark_in}
use Rattle.rv_asm.specs.Faults.{is_unknown_value}
use Rattle.rv_asm.proofs.faults.has_unknown.Given as goal

abbrev pub invariant-loop-value : goal.invariant-loop-value
invariant-loop-value l =
    list_any (is_unknown_value (mark_in l.labels)) (map value_seen (drop l.value-index l.values))
    ≡ list_any (is_unknown_value (mark_in l.labels)) (map value_seen l.values)
