use Rattle.std.proofs.Common.{◌≡◌, ◌≤◌}
use Rattle.simulation.specs.Replayed.{IsReplaying}
use Rattle.simulation.proofs.schedule.do_acts.Given as goal

abbrev pub invariant-loop-next : goal.invariant-loop-next
invariant-loop-next g l = record {
  underway : IsReplaying l.schedule l.fn.cluster (g.K.Sink.written l.fn.out) l.next-index l.cluster (g.K.Sink.written l.out);
  uncounted : g.K.Sink.faults l.out ≡ g.K.Sink.faults l.fn.out;
  later : g.K.Sink.faults l.fn.out ≤ g.K.Sink.faults l.out;
}
