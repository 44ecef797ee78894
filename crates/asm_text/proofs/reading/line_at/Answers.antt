use Rattle.std.proofs.Common.{◌≤◌, arith, rules}
use Rattle.std.specs.Prelude.{map}
use Rattle.asm_words.specs.Tokens.{token_of, spans}
use Rattle.asm_text.specs.Statements.{fields_seen, bulk}
use Rattle.asm_text.proofs.Sound.{made_sound}
use Rattle.asm_text.proofs.reading.line_at.Goals as goal

pub returns-in_ok-statement-in-Ok-Some-clause-sound :
    goal.returns-in_ok-statement-in-Ok-Some-clause-sound
returns-in_ok-statement-in-Ok-Some-clause-sound c =
    let read : bulk (fields_seen c.in-Ok-Some.filled.fields) ≤ spans (map token_of c.label_at.result.1.now) = search rules in
    let left : spans (map token_of c.label_at.result.1.now) ≤ spans (map token_of c.args.tokens.now) = c.label_at.ensures.bulk in
    rw c.in_ok-statement-in-Ok-Some.ensures
    (made_sound c.in-Ok-Some.filled.make (fields_seen c.in-Ok-Some.filled.fields) (spans (map token_of c.args.tokens.now))
    (omega (arith, read, left)))
