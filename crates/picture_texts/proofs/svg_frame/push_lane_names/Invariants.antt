use Rattle.std.proofs.Common.{◌≡◌, ◌++◌}
use Rattle.std.specs.List.{flat_map}
use Rattle.picture_texts.specs.SvgFrame.{lane_name}
use Rattle.picture_texts.proofs.svg_frame.push_lane_names.Given as goal

abbrev pub invariant-loop-t : goal.invariant-loop-t
invariant-loop-t l = l.out.items ++ flat_map (lane_name l.nodes l.processors) l.t-iterator ≡ l.fn.out.items ++ flat_map (lane_name l.nodes l.processors) l.lanes.entries
