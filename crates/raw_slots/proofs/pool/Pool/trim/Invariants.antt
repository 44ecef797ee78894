use Rattle.std.proofs.Common.{◌≤◌, min}
use Rattle.raw_slots.proofs.pool.Pool.trim.Given as goal

abbrev pub invariant-loop-self : goal.invariant-loop-self
invariant-loop-self l = record {
  least : min l.initial.self l.n ≤ l.self;
  fewer : l.self ≤ l.initial.self;
}

abbrev pub decreases-loop-self : goal.decreases-loop-self
decreases-loop-self l = l.self
