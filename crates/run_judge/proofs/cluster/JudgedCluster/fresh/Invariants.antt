use Rattle.std.proofs.Common.{◌≡◌, ℕ, length, get_or}
use Rattle.node_state.specs.Events.{fresh_in}
use Rattle.run_judge.proofs.cluster.JudgedCluster.fresh.Given as goal

abbrev pub invariant-loop-node : goal.invariant-loop-node
invariant-loop-node l = record {
  count : length l.nodes.items ≡ l.node;
  fresh : (n : ℕ) → get_or l.nodes.items n (fresh_in l.setup n) ≡ fresh_in l.setup n;
}
