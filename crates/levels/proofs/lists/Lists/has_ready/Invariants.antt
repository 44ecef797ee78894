use Rattle.std.proofs.Common.{◌≡◌, drop}
use Rattle.levels.specs.Choice.{has_ready}
use Rattle.levels.proofs.lists.Lists.has_ready.Given as goal

abbrev pub invariant-loop-row : goal.invariant-loop-row
invariant-loop-row l = has_ready l.self.tree l.vp (drop l.row-index l.self.rows) ≡ has_ready l.self.tree l.vp l.self.rows
