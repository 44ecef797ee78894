use Rattle.std.proofs.Common.{sym, ◌∙◌}
use Rattle.iso_blocks.proofs.Placing.{first_is_lowest, none_is_lowest}
use Rattle.iso_blocks.proofs.layout.Layout.lowest.Goals as goal

pub returns-in-None : goal.returns-in-None
returns-in-None c = none_is_lowest c.args.self.now c.args.size c.requires.kept c.requires.some (sym (rw c.deref.ensures.value at (sym c.in-None.is ∙ c.first_fit.ensures)))

pub returns-in-Some : goal.returns-in-Some
returns-in-Some c =
    first_is_lowest c.args.self.now c.args.size c.in-Some.k c.index.result.now c.requires.kept c.requires.some (sym (rw c.deref.ensures.value at (sym c.in-Some.is ∙ c.first_fit.ensures))) c.index.ensures
