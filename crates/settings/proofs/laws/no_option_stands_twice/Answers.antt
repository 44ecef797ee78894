use Rattle.settings.proofs.Twice.{all_once}
use Rattle.settings.proofs.laws.no_option_stands_twice.Goals as goal

pub returns : goal.returns
returns c = all_once
