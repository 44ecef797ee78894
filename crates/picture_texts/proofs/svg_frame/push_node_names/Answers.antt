use Rattle.std.proofs.Common.{◌++◌}
use Rattle.std.specs.List.{flat_map, range_with_len}
use Rattle.picture_texts.specs.SvgFrame.{node_name}
use Rattle.basics.proofs.Lemmas.{one_more}
use Rattle.picture_texts.proofs.svg_frame.push_node_names.Goals as goal

pub loop-node-preserved : goal.loop-node-preserved
loop-node-preserved c =
    one_more (node_name c.args.processors) c.loop-node.out.items c.push_node_name.new.out.items (c.args.out.now.items ++ flat_map (node_name c.args.processors) (range_with_len 0 c.args.nodes)) c.args.nodes c.loop-node.node
    c.loop-node-test.true c.in_ok-push_node_name.ensures c.loop-node.invariant
