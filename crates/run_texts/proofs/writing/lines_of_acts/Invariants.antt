use Rattle.std.proofs.Common.{◌≡◌, ◌++◌, drop}
use Rattle.run_texts.specs.Written.{schedule_text}
use Rattle.run_texts.proofs.writing.lines_of_acts.Given as goal

abbrev pub invariant-loop-entry : goal.invariant-loop-entry
invariant-loop-entry l = l.out.items ++ schedule_text (drop l.entry-index l.trace) ≡ schedule_text l.trace
