use Rattle.std.proofs.Common.{◌≡◌, ◌≤◌, length}
use Rattle.asm_words.specs.Tokens.{lex, Inside}
use Rattle.asm_words.proofs.Onto.{onto_all}
use Rattle.asm_words.proofs.lexing.text_at.Given as goal

abbrev pub invariant-pieces : goal.invariant-pieces
invariant-pieces l = (lex Inside l.bytes ≡ onto_all l.text.items (lex Inside l.rest)) × (length l.rest ≤ length l.bytes)

abbrev pub decreases-pieces : goal.decreases-pieces
decreases-pieces l = length l.rest
