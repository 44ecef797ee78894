use Rattle.std.proofs.Common.{◌<◌, ◌≤◌, ◌-◌}
use Rattle.slot_space.proofs.Ones.{AreStarts}
use Rattle.slot_space.proofs.word.starts_of_ones.Given as goal

abbrev pub invariant-loop-known : goal.invariant-loop-known
invariant-loop-known l = record { some : 0 < l.known; within : l.known ≤ l.count; starts : AreStarts l.word l.known l.starts }

abbrev pub decreases-loop-known : goal.decreases-loop-known
decreases-loop-known l = l.count - l.known
