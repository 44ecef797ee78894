use Rattle.std.proofs.Common.{◌≡◌, ◌++◌, drop}
use Rattle.std.specs.Prelude.{map}
use Rattle.std.specs.List.{flat_map}
use Rattle.trace_text.specs.Lines.{label_words, line_text, entry_lines}
use Rattle.trace_text.proofs.writing.push_entry.Given as goal

abbrev pub invariant-loop-label : goal.invariant-loop-label
invariant-loop-label l = l.out.items ++ flat_map line_text (map label_words (drop l.label-index l.fn.entry.labels)) ≡ l.fn.out.items ++ flat_map line_text (entry_lines l.fn.entry)
