use Rattle.std.proofs.Common.{◌≡◌, ◌∙◌, sym, ap, arith, Some}
use Rattle.std.specs.Prelude.{slice_get}
use Rattle.std.proofs.lemmas.Option.{slice_get-get_or}
use Rattle.node_loop.specs.View.{NodeView}
use Rattle.cluster.proofs.Picks.{found_here, found_later}
use Rattle.cluster.proofs.choosing.act_at.Goals as goal

pub returns-then-left-count : goal.returns-then-left-count
returns-then-left-count c =
    let x = c.node-item.result in
    let at : slice_get c.args.nodes.now c.loop-node.node-index ≡ Some x = slice_get-get_or c.args.nodes.now c.loop-node.node-index x c.loop-node-test.true ∙ ap (λ (v : NodeView). Some v) (sym c.node-item.is) in
    found_here c.args.moves c.args.nodes.now c.loop-node.node-index c.loop-node.left c.count_of-count.result x _ c.act_of.result at c.count_of-count.ensures c.if-left-count.true c.act_of.ensures c.loop-node.invariant.at

pub loop-node-preserved : goal.loop-node-preserved
loop-node-preserved c =
    let x = c.node-item.result in
    let at : slice_get c.args.nodes.now c.loop-node.node-index ≡ Some x = slice_get-get_or c.args.nodes.now c.loop-node.node-index x c.loop-node-test.true ∙ ap (λ (v : NodeView). Some v) (sym c.node-item.is) in
    record {
      at = found_later c.args.moves c.args.nodes.now c.loop-node.node-index c.loop-node.left c.count_of-count.result x _ at c.count_of-count.ensures c.if-left-count.false c.loop-node.invariant.low c.loop-node.invariant.at;
      low = (let h = c.loop-node.invariant.low in omega (arith, h));
    }
