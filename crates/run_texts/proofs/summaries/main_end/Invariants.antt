use Rattle.std.proofs.Common.{◌≡◌, drop}
use Rattle.run_texts.specs.Summaries.{main_end}
use Rattle.run_texts.proofs.summaries.main_end.Given as goal

abbrev pub invariant-loop-label : goal.invariant-loop-label
invariant-loop-label l = main_end (drop l.label-index l.labels) ≡ main_end l.labels
