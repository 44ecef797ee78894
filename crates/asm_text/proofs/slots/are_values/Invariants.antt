use Rattle.std.proofs.Common.{◌≡◌, false, drop}
use Rattle.std.specs.Prelude.{map}
use Rattle.asm_words.specs.Tokens.{token_of}
use Rattle.asm_text.specs.Slots.{are_values}
use Rattle.asm_text.proofs.slots.are_values.Given as goal

abbrev pub invariant-loop-token : goal.invariant-loop-token
invariant-loop-token l = are_values l.labels l.wants_comma (map token_of (drop l.token-index l.tokens)) ≡ are_values l.labels false (map token_of l.tokens)
