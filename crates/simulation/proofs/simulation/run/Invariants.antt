use Rattle.std.proofs.Common.{◌≡◌, ◌≤◌}
use Rattle.simulation.specs.Underway.{IsUnderway}
use Rattle.simulation.proofs.simulation.run.Given as goal

abbrev pub invariant-loop-done : goal.invariant-loop-done
invariant-loop-done g l = record {
  underway : IsUnderway l.fn.moves l.fn.seed l.fn.cluster (g.K.Sink.written l.fn.out) l.done l.cluster l.words (g.K.Sink.written l.out);
  uncounted : g.K.Sink.faults l.out ≡ g.K.Sink.faults l.fn.out;
  later : g.K.Sink.faults l.fn.out ≤ g.K.Sink.faults l.out;
}
