use Rattle.std.proofs.Common.{◌≡◌, drop}
use Rattle.levels.specs.Rows.{place_of}
use Rattle.levels.proofs.lists.Lists.place_of.Given as goal

abbrev pub invariant-loop-row : goal.invariant-loop-row
invariant-loop-row l = place_of l.e (drop l.row-index l.self.rows) ≡ place_of l.e l.self.rows
