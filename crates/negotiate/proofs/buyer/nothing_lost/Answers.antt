use Rattle.negotiate.proofs.Hands.{none_lost}
use Rattle.negotiate.proofs.buyer.nothing_lost.Goals as goal

pub returns : goal.returns
returns c = none_lost
