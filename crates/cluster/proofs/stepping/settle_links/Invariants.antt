use Rattle.cluster.proofs.Settling.{Walks}
use Rattle.cluster.proofs.stepping.settle_links.Given as goal

abbrev pub invariant-loop-other : goal.invariant-loop-other
invariant-loop-other l = Walks l.at l.other l.rest l.fn.nodes l.nodes
