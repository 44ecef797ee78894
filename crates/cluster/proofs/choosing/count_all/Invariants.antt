use Rattle.cluster.proofs.Picks.{HasCounted}
use Rattle.cluster.proofs.choosing.count_all.Given as goal

abbrev pub invariant-loop-node : goal.invariant-loop-node
invariant-loop-node l = HasCounted l.moves l.nodes l.node-index l.total
