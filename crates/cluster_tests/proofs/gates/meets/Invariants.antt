use Rattle.cluster_tests.specs.Rounds.{IsInRounds}
use Rattle.cluster_tests.proofs.gates.meets.Given as goal

abbrev pub invariant-loop-n : goal.invariant-loop-n
invariant-loop-n g l = IsInRounds l.cluster
