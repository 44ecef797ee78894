use Rattle.cluster_tests.specs.Walks.{IsWalked}
use Rattle.cluster_tests.proofs.steps.all_hold.Given as goal

abbrev pub invariant-loop-row : goal.invariant-loop-row
invariant-loop-row l = IsWalked l.cluster
