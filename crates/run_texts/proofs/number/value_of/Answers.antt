use Rattle.std.proofs.Common.{◌<◌, take, arith}
use Rattle.std.specs.Str.Parse.{digits_value}
use Rattle.run_texts.proofs.Digits.{value_before, value_more}
use Rattle.run_texts.proofs.number.value_of.Goals as goal

pub overflow_mul-value : goal.overflow_mul-value
overflow_mul-value c =
    let few : digits_value 10 (take c.loop-digit.digit-index c.args.digits.now) < 1000000000 = value_before c.args.digits.now c.loop-digit.digit-index c.requires.digits c.requires.few c.loop-digit-test.true in
    omega (arith, c.loop-digit.invariant)

pub overflow_add-value : goal.overflow_add-value
overflow_add-value c =
    let few : digits_value 10 (take c.loop-digit.digit-index c.args.digits.now) < 1000000000 = value_before c.args.digits.now c.loop-digit.digit-index c.requires.digits c.requires.few c.loop-digit-test.true in
    omega (arith, c.loop-digit.invariant, c.type_inv.digits c.loop-digit.digit-index)

pub loop-digit-preserved : goal.loop-digit-preserved
loop-digit-preserved c = rw c.loop-digit.invariant (value_more c.args.digits.now c.loop-digit.digit-index c.requires.digits c.loop-digit-test.true)
