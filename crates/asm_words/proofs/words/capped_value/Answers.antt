use Rattle.std.proofs.Common.{ap, ◌∙◌, sym, take}
use Rattle.std.specs.Str.Parse.{digits_value}
use Rattle.std.proofs.lemmas.Int.Digits.{digits_value_more}
use Rattle.asm_words.specs.Words.{capped}
use Rattle.asm_words.proofs.words.capped_value.Goals as goal

pub loop-b-preserved : goal.loop-b-preserved
loop-b-preserved c =
    c.with_digit-value.ensures (digits_value c.args.radix (take c.loop-b.b-index c.args.digits.now)) c.loop-b.invariant
    ∙ rw c.digit_value.ensures (ap capped (sym (digits_value_more c.args.radix c.args.digits.now c.loop-b.b-index c.loop-b-test.true)))
