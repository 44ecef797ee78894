use Rattle.std.proofs.Common.{◌≡◌, length, take, reverse}
use Rattle.run_trace.specs.Cluster.{fresh_net}
use Rattle.run_trace.specs.Trace.{net_after_trace}
use Rattle.run_judge.specs.Judged.{IsSound}
use Rattle.run_judge.specs.Nets.{net_in}
use Rattle.run_judge.proofs.judging.first_fault.Given as goal

abbrev pub invariant-loop-number : goal.invariant-loop-number
invariant-loop-number l = record {
  sound : IsSound l.program (reverse (take l.number l.entries));
  net : net_in l.program l.cluster.nodes.items l.cluster.flights.all.items ≡ net_after_trace l.program (fresh_net l.program) (reverse (take l.number l.entries));
  count : length l.cluster.nodes.items ≡ l.program.setup.geometry.nodes;
}
