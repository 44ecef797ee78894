use Rattle.std.proofs.Common.{rules}
use Rattle.asm_words.proofs.words.in_range.Goals as goal

pub returns-after-number : goal.returns-after-number
returns-after-number c = search rules
