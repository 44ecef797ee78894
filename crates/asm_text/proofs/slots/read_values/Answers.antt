use Rattle.std.proofs.Common.{arith}
use Rattle.std.specs.Prelude.{map}
use Rattle.asm_words.specs.Tokens.{token_of}
use Rattle.asm_words.proofs.Lemmas.{count_spans}
use Rattle.asm_text.proofs.slots.read_values.Goals as goal

pub returns-clause-bulk : goal.returns-clause-bulk
returns-clause-bulk c = omega (arith, count_spans (map token_of c.args.tokens.now))
