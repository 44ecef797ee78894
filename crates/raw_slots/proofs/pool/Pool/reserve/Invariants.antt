use Rattle.std.proofs.Common.{◌-◌, ◌≤◌, max}
use Rattle.raw_slots.proofs.pool.Pool.reserve.Given as goal

abbrev pub invariant-loop-self : goal.invariant-loop-self
invariant-loop-self l = record {
  more : l.initial.self ≤ l.self;
  most : l.self ≤ max l.initial.self l.n;
}

abbrev pub decreases-loop-self : goal.decreases-loop-self
decreases-loop-self l = l.n - l.self
