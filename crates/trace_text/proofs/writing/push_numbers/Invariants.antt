use Rattle.std.proofs.Common.{◌≡◌, ◌++◌, drop}
use Rattle.std.specs.Prelude.{map, decimal}
use Rattle.trace_text.specs.Lines.{spaced}
use Rattle.trace_text.proofs.writing.push_numbers.Given as goal

abbrev pub invariant-loop-number : goal.invariant-loop-number
invariant-loop-number l = l.out.items ++ spaced (map decimal (drop l.number-index l.numbers)) ≡ l.fn.out.items ++ spaced (map decimal l.numbers)
