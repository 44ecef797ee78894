use Rattle.std.proofs.Common.{◌≡◌}
use Rattle.levels.specs.Choice.{choice}
use Rattle.levels.proofs.Choosing.{choice_over}
use Rattle.levels.proofs.lists.Lists.chosen.Given as goal

abbrev pub invariant-loop-row : goal.invariant-loop-row
invariant-loop-row l = choice_over l.self.tree l.vp l.row-iterator.iter.rest.now l.best ≡ choice l.self.tree l.vp l.self.rows
