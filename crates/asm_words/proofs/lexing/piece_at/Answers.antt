use Rattle.std.proofs.Common.{rules}
use Rattle.asm_words.proofs.lexing.piece_at.Goals as goal

pub returns-then-first-eq34 : goal.returns-then-first-eq34
returns-then-first-eq34 c = search rules
