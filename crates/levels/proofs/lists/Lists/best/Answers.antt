use Rattle.std.proofs.Common.{sym, ◌∙◌}
use Rattle.levels.proofs.Choosing.{none_chosen, chosen_is}
use Rattle.levels.proofs.lists.Lists.best.Goals as goal

pub returns-in-None-clause-words : goal.returns-in-None-clause-words
returns-in-None-clause-words c = none_chosen c.args.self.now.tree c.args.vp c.args.self.now.rows (sym c.chosen.ensures.choice ∙ c.in-None.is)

pub returns-in-Some-clause-words : goal.returns-in-Some-clause-words
returns-in-Some-clause-words c =
    chosen_is c.args.self.now.tree c.args.vp c.args.self.now.rows c.in-Some.chosen c.chosen.ensures.order.ascending (sym c.chosen.ensures.choice ∙ c.in-Some.is)
