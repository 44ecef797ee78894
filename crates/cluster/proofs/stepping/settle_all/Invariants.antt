use Rattle.cluster.proofs.Settling.{WalksAll}
use Rattle.cluster.proofs.stepping.settle_all.Given as goal

abbrev pub invariant-loop-at : goal.invariant-loop-at
invariant-loop-at l = WalksAll l.at l.rest l.fn.nodes l.nodes
