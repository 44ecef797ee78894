use Rattle.cluster.proofs.Shells.{right_fit, right_shell}
use Rattle.cluster.proofs.cluster.Cluster.apart.Goals as goal

pub invariant_of-shell : goal.invariant_of-shell
invariant_of-shell c = right_shell _ _ _ _ _ c.self.view_is c.requires.agrees

pub returns-clause-fit : goal.returns-clause-fit
returns-clause-fit c = right_fit _ _ _ _ _ c.self.view_is c.requires.agrees
