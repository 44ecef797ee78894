use Rattle.std.proofs.Common.{◌++◌}
use Rattle.std.specs.List.{flat_map, range_with_len}
use Rattle.picture_texts.specs.SvgFrame.{tick_at}
use Rattle.picture_texts.specs.Frames.{frame_of}
use Rattle.basics.proofs.Lemmas.{one_more}
use Rattle.picture_texts.proofs.svg_frame.push_ticks.Goals as goal

pub loop-i-preserved : goal.loop-i-preserved
loop-i-preserved c =
    one_more (tick_at (frame_of c.args.layout.now)) c.loop-i.out.items c.push_tick_at.new.out.items (c.args.out.now.items ++ flat_map (tick_at (frame_of c.args.layout.now)) (range_with_len 0 c.args.count)) c.args.count c.loop-i.i
    c.loop-i-test.true c.in_ok-push_tick_at.ensures c.loop-i.invariant
