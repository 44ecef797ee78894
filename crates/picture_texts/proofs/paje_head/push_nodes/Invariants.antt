use Rattle.std.proofs.Common.{◌≡◌, ◌-◌, ◌++◌}
use Rattle.std.specs.List.{flat_map, range_with_len}
use Rattle.picture_texts.specs.PajeHead.{node_container}
use Rattle.picture_texts.proofs.paje_head.push_nodes.Given as goal

abbrev pub invariant-loop-node : goal.invariant-loop-node
invariant-loop-node l = l.out.items ++ flat_map (node_container l.processors) (range_with_len l.node (l.nodes - l.node)) ≡ l.fn.out.items ++ flat_map (node_container l.processors) (range_with_len 0 l.nodes)
