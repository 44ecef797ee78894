use Rattle.wires.specs.Wires.{AreWired}
use Rattle.cluster_tests.proofs.links.shows.Given as goal

abbrev pub invariant-loop-n : goal.invariant-loop-n
invariant-loop-n l = AreWired l.nodes
