use Rattle.settings.proofs.Valued.{all_without_value}
use Rattle.settings.proofs.laws.no_flag_has_a_value.Goals as goal

pub returns : goal.returns
returns c = all_without_value
