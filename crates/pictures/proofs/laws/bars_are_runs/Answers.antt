use Rattle.pictures.proofs.Told.{runs}
use Rattle.pictures.proofs.laws.bars_are_runs.Goals as goal

pub returns : goal.returns
returns c = runs
