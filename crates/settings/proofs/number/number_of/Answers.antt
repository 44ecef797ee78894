use Rattle.std.proofs.Common.{◌≡◌, ◌<◌, length, true, rules}
use Rattle.std.specs.List.{list_all}
use Rattle.settings.specs.Numbers.{is_digit}
use Rattle.settings.proofs.Digits.{refused}
use Rattle.settings.proofs.number.number_of.Goals as goal

pub returns-in-Err-clause-value : goal.returns-in-Err-clause-value
returns-in-Err-clause-value c =
    let some : 0 < length c.args.text.now = search rules in
    let digits : list_all is_digit c.args.text.now ≡ true = search rules in
    refused c.args.text.now c.args.low c.args.high some digits c.ranges.high.fits c.in-Err.ensures.value.0
