use Rattle.std.proofs.Common.{◌≡◌, ◌++◌, drop}
use Rattle.std.specs.Prelude.{map}
use Rattle.trace_text.specs.Words.{word_text}
use Rattle.trace_text.specs.Lines.{spaced}
use Rattle.trace_text.proofs.writing.push_words.Given as goal

abbrev pub invariant-loop-word : goal.invariant-loop-word
invariant-loop-word l = l.out.items ++ spaced (map word_text (drop l.word-index l.words)) ≡ l.fn.out.items ++ spaced (map word_text l.words)
