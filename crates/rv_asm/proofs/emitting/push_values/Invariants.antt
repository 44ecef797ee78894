use Rattle.std.proofs.Common.{◌≡◌, ◌++◌, drop, map}
use Rattle.std.specs.List.{flat_map}
use Rattle.asm_text.specs.Statements.{value_seen}
use Rattle.asm_targets.specs.Labels.{mark_in}
use Rattle.rv_asm.specs.Bytes.{bytes_of_width, number_of_value}
use Rattle.rv_asm.proofs.emitting.push_values.Given as goal

abbrev pub invariant-loop-value : goal.invariant-loop-value
invariant-loop-value l =
    l.out.items ++ flat_map (λ v. bytes_of_width l.width (number_of_value (mark_in l.labels) v)) (map value_seen (drop l.value-index l.values))
    ≡ l.fn.out.items ++ flat_map (λ v. bytes_of_width l.width (number_of_value (mark_in l.labels) v)) (map value_seen l.values)
