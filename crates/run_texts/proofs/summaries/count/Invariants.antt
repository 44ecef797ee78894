use Rattle.std.proofs.Common.{◌≡◌, ◌+◌, ◌*◌, ◌≤◌, drop}
use Rattle.std.specs.Prelude.{count_by}
use Rattle.run_texts.specs.Summaries.{is_counted, labels_of}
use Rattle.run_texts.proofs.summaries.count.Given as goal

abbrev pub invariant-loop-entry : goal.invariant-loop-entry
invariant-loop-entry l =
    (l.total + count_by (is_counted l.what) (labels_of (drop l.entry-index l.trace)) ≡ count_by (is_counted l.what) (labels_of l.trace))
    × (l.total ≤ l.entry-index * 18446744073709551616)
