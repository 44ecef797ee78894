use Rattle.std.proofs.Common.{◌≡◌, drop}
use Rattle.run_texts.specs.Summaries.{labels_of, main_end}
use Rattle.run_texts.proofs.summaries.end_of_main.Given as goal

abbrev pub invariant-loop-entry : goal.invariant-loop-entry
invariant-loop-entry l = main_end (labels_of (drop l.entry-index l.trace)) ≡ main_end (labels_of l.trace)
