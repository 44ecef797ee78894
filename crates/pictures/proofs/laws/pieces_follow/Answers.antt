use Rattle.pictures.proofs.Pieces.{follow}
use Rattle.pictures.proofs.laws.pieces_follow.Goals as goal

pub returns : goal.returns
returns c = follow
