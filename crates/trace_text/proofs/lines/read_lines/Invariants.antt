use Rattle.std.proofs.Common.{◌≡◌, ◌+◌, length}
use Rattle.trace_text.specs.Reading.{parts}
use Rattle.trace_text.specs.Texts.{read_from, read_trace, with_rest}
use Rattle.trace_text.proofs.lines.read_lines.Given as goal

abbrev pub invariant-loop-rest : goal.invariant-loop-rest
invariant-loop-rest l = (with_rest l.reading (read_from l.line (parts 10 l.rest)) ≡ read_trace l.fn.text) × (l.line + length (parts 10 l.rest) ≡ 1 + length (parts 10 l.fn.text))

abbrev pub decreases-loop-rest : goal.decreases-loop-rest
decreases-loop-rest l = length l.rest
