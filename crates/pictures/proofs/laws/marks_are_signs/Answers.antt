use Rattle.pictures.proofs.Told.{signs}
use Rattle.pictures.proofs.laws.marks_are_signs.Goals as goal

pub returns : goal.returns
returns c = signs
