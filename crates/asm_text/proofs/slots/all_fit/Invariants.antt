use Rattle.std.proofs.Common.{◌≡◌, drop}
use Rattle.std.specs.Prelude.{map}
use Rattle.std.specs.List.{list_all}
use Rattle.asm_words.specs.Tokens.{token_of}
use Rattle.asm_text.specs.Slots.{value_fits}
use Rattle.asm_text.proofs.slots.all_fit.Given as goal

abbrev pub invariant-loop-token : goal.invariant-loop-token
invariant-loop-token l = list_all (value_fits l.below l.above) (map token_of (drop l.token-index l.tokens)) ≡ list_all (value_fits l.below l.above) (map token_of l.tokens)
