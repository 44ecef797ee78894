use Rattle.std.proofs.Common.{◌≡◌, None, cond, ap, sym, ◌∙◌, arith}
use Rattle.std.proofs.lemmas.Str.Pattern.{split_parts}
use Rattle.std.specs.List.{before_first, after_first}
use Rattle.settings.specs.Numbers.{is_between, one_level, tree_in, two_levels}
use Rattle.settings.proofs.Between.{none_between}
use Rattle.settings.proofs.tree.tree_of.Goals as goal

pub returns-in-None : goal.returns-in-None
returns-in-None c =
    let text = c.args.text.now in
    let none = none_between text (split_parts 120 text None c.in-None.ensures.cases (omega arith)) in
    c.one_level.ensures ∙ ap (λ v. cond v (two_levels (before_first is_between text) (after_first is_between text)) (one_level text)) (sym none)
