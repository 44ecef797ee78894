use Rattle.std.proofs.Common.{◌≡◌, ◌+◌, ◌∙◌, subst, sym, ap, arith, Some}
use Rattle.std.specs.Prelude.{slice_get}
use Rattle.std.proofs.lemmas.Option.{slice_get-get_or}
use Rattle.node_loop.specs.View.{NodeView}
use Rattle.cluster.proofs.Picks.{HasCounted, counted_more, counted_all}
use Rattle.cluster.proofs.choosing.count_all.Goals as goal

pub loop-node-preserved : goal.loop-node-preserved
loop-node-preserved c =
    let x = c.node-item.result in
    let at : slice_get c.args.nodes.now c.loop-node.node-index ≡ Some x = slice_get-get_or c.args.nodes.now c.loop-node.node-index x c.loop-node-test.true ∙ ap (λ (v : NodeView). Some v) (sym c.node-item.is) in
    subst (λ total. HasCounted c.args.moves c.args.nodes.now (c.loop-node.node-index + 1) total) (sym c.saturating_add-total.ensures)
    (counted_more c.args.moves c.args.nodes.now c.loop-node.node-index c.loop-node.total c.count_of.result x c.loop-node.invariant at c.count_of.ensures)

pub returns : goal.returns
returns c = counted_all c.args.moves c.args.nodes.now c.loop-node.node-index c.loop-node.total c.loop-node.invariant (omega arith)
