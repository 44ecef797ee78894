use Rattle.std.proofs.Common.{◌≡◌, ◌++◌, drop}
use Rattle.picture_texts.specs.Filling.{filled}
use Rattle.picture_texts.proofs.filling.push_filled.Given as goal

abbrev pub invariant-loop-letter : goal.invariant-loop-letter
invariant-loop-letter l = l.out.items ++ filled l.numbers (drop l.letter-index l.form) ≡ l.fn.out.items ++ filled l.numbers l.form
