use Rattle.std.proofs.Common.{◌≡◌, Some, true, cond, sym, ap, ◌∙◌, arith}
use Rattle.levels.specs.Trees.{covers}
use Rattle.levels.specs.Choice.{chosen_of}
use Rattle.levels.proofs.Choosing.{choice_over, choice_last}
use Rattle.levels.proofs.lists.Lists.chosen.Goals as goal

pub loop-row-preserved-then-covers : goal.loop-row-preserved-then-covers
loop-row-preserved-then-covers c =
    let tree = c.args.self.now.tree in
    let vp = c.args.vp in
    let last = c.in-Some.row.now in
    let rest = c.next.new.self.iter.rest.now in
    let best = c.loop-row.best in
    let covered : covers tree vp last.1.list ≡ true = grind (arith, c.self.view_is, c.covers.ensures, c.if-covers.true) in
    let chosen : Some c.chosen_of.result ≡ chosen_of tree (last.1, last.0) best = grind (arith, c.self.view_is, c.chosen_of.ensures) in
    let whole : cond (covers tree vp last.1.list) (chosen_of tree (last.1, last.0) best) best ≡ Some c.chosen_of.result = rw covered (sym chosen) in
    ap (choice_over tree vp rest) (sym whole) ∙ sym (choice_last tree vp rest last best) ∙ ap (λ rows. choice_over tree vp rows best) (sym c.in-Some.ensures.steps) ∙ c.loop-row.invariant
