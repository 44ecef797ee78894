use Rattle.std.proofs.Common.{◌++◌}
use Rattle.std.specs.List.{flat_map, range_with_len}
use Rattle.picture_texts.specs.PajeHead.{processor_container}
use Rattle.basics.proofs.Lemmas.{one_more}
use Rattle.picture_texts.proofs.paje_head.push_processors.Goals as goal

pub loop-vp-preserved : goal.loop-vp-preserved
loop-vp-preserved c =
    one_more (processor_container c.args.node) c.loop-vp.out.items c.push_processor.new.out.items (c.args.out.now.items ++ flat_map (processor_container c.args.node) (range_with_len 0 c.args.processors)) c.args.processors c.loop-vp.vp
    c.loop-vp-test.true c.in_ok-push_processor.ensures c.loop-vp.invariant
