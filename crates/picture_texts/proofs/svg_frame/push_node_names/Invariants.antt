use Rattle.std.proofs.Common.{◌≡◌, ◌-◌, ◌++◌}
use Rattle.std.specs.List.{flat_map, range_with_len}
use Rattle.picture_texts.specs.SvgFrame.{node_name}
use Rattle.picture_texts.proofs.svg_frame.push_node_names.Given as goal

abbrev pub invariant-loop-node : goal.invariant-loop-node
invariant-loop-node l = l.out.items ++ flat_map (node_name l.processors) (range_with_len l.node (l.nodes - l.node)) ≡ l.fn.out.items ++ flat_map (node_name l.processors) (range_with_len 0 l.nodes)
