use Rattle.std.proofs.Common.{◌++◌}
use Rattle.std.specs.List.{flat_map, range_with_len}
use Rattle.picture_texts.specs.PajeHead.{node_container}
use Rattle.basics.proofs.Lemmas.{one_more}
use Rattle.picture_texts.proofs.paje_head.push_nodes.Goals as goal

pub loop-node-preserved : goal.loop-node-preserved
loop-node-preserved c =
    one_more (node_container c.args.processors) c.loop-node.out.items c.push_node.new.out.items (c.args.out.now.items ++ flat_map (node_container c.args.processors) (range_with_len 0 c.args.nodes)) c.args.nodes c.loop-node.node
    c.loop-node-test.true c.in_ok-push_node.ensures c.loop-node.invariant
