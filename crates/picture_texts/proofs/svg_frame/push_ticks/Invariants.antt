use Rattle.std.proofs.Common.{◌≡◌, ◌-◌, ◌++◌}
use Rattle.std.specs.List.{flat_map, range_with_len}
use Rattle.picture_texts.specs.SvgFrame.{tick_at}
use Rattle.picture_texts.specs.Frames.{frame_of}
use Rattle.picture_texts.proofs.svg_frame.push_ticks.Given as goal

abbrev pub invariant-loop-i : goal.invariant-loop-i
invariant-loop-i l = l.out.items ++ flat_map (tick_at (frame_of l.layout)) (range_with_len l.i (l.count - l.i)) ≡ l.fn.out.items ++ flat_map (tick_at (frame_of l.layout)) (range_with_len 0 l.count)
