use Rattle.cluster.proofs.GoingOn.{all_started, fits_at_start, one_goes_on}
use Rattle.cluster.proofs.laws.nodes_go_on.Goals as goal

pub returns-clause-starts : goal.returns-clause-starts
returns-clause-starts c = λ k before kept s. (fits_at_start k before kept s, all_started k before kept s)

pub returns-clause-goes_on : goal.returns-clause-goes_on
returns-clause-goes_on c = one_goes_on
