use Rattle.std.proofs.Common.{◌≡◌, take}
use Rattle.asm_words.specs.Words.{capped_value}
use Rattle.asm_words.proofs.words.capped_value.Given as goal

abbrev pub invariant-loop-b : goal.invariant-loop-b
invariant-loop-b l = l.value ≡ capped_value l.radix (take l.b-index l.digits)
