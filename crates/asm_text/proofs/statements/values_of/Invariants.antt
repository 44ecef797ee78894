use Rattle.std.proofs.Common.{◌≡◌, ◌++◌, drop}
use Rattle.std.specs.Prelude.{map}
use Rattle.asm_words.specs.Tokens.{token_of}
use Rattle.asm_text.specs.Statements.{value_seen, values_of}
use Rattle.asm_text.proofs.statements.values_of.Given as goal

abbrev pub invariant-loop-token : goal.invariant-loop-token
invariant-loop-token l = map value_seen l.values.items ++ values_of (map token_of (drop l.token-index l.tokens)) ≡ values_of (map token_of l.tokens)
