use Rattle.std.proofs.Common.{◌≡◌, ◌++◌}
use Rattle.run_judge.specs.Links.{flights_of}
use Rattle.run_judge.proofs.flights.Flights.send.Given as goal

abbrev pub invariant-loop-send : goal.invariant-loop-send
invariant-loop-send l = l.self.all.items ≡ l.initial.self.all.items ++ flights_of l.from l.stamp l.yielded
