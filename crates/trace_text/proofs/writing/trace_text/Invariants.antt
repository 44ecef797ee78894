use Rattle.std.proofs.Common.{◌≡◌, ◌++◌, drop}
use Rattle.trace_text.specs.Lines.{trace_text}
use Rattle.trace_text.proofs.writing.trace_text.Given as goal

abbrev pub invariant-loop-entry : goal.invariant-loop-entry
invariant-loop-entry l = l.out.items ++ trace_text (drop l.entry-index l.trace) ≡ trace_text l.trace
