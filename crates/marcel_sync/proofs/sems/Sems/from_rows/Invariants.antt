use Rattle.std.proofs.Common.{◌≡◌}
use Rattle.marcel_sync.proofs.sems.Sems.from_rows.Given as goal

abbrev pub invariant-loop-row : goal.invariant-loop-row
invariant-loop-row l = l.sems.items ≡ l.yielded
