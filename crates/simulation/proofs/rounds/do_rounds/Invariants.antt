use Rattle.std.proofs.Common.{◌≡◌, ◌≤◌}
use Rattle.simulation.specs.Rounds.{IsGoingOn}
use Rattle.simulation.proofs.rounds.do_rounds.Given as goal

abbrev pub invariant-loop-done : goal.invariant-loop-done
invariant-loop-done g l = record {
  underway : IsGoingOn l.fn.turns l.fn.cluster (g.K.Sink.written l.fn.out) l.done l.cluster (g.K.Sink.written l.out);
  uncounted : g.K.Sink.faults l.out ≡ g.K.Sink.faults l.fn.out;
  later : g.K.Sink.faults l.fn.out ≤ g.K.Sink.faults l.out;
}
