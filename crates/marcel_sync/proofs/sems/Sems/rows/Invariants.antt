use Rattle.std.proofs.Common.{◌≡◌, take}
use Rattle.marcel_sync.proofs.sems.Sems.rows.Given as goal

abbrev pub invariant-loop-sem : goal.invariant-loop-sem
invariant-loop-sem l = l.rows.items ≡ take l.sem-index l.self.sems
