use Rattle.std.proofs.Common.{◌≡◌, rules, length}
use Rattle.std.specs.Prelude.{map}
use Rattle.asm_words.specs.Tokens.{token_of}
use Rattle.asm_words.proofs.Spans.{all_fit}
use Rattle.asm_words.proofs.lexing.tokens.Goals as goal

pub returns-clause-fits : goal.returns-clause-fits
returns-clause-fits c =
    let none : length c.loop-rest.rest.now ≡ 0 = search rules in
    all_fit (map token_of c.loop-rest.tokens.items) c.loop-rest.rest.now c.args.line.now none c.loop-rest.invariant
