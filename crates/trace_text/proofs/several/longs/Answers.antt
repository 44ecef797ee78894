use Rattle.std.proofs.Common.{refl}
use Rattle.trace_text.proofs.Steps.{longs_step}
use Rattle.trace_text.proofs.several.longs.Goals as goal

pub loop-missing-preserved : goal.loop-missing-preserved
loop-missing-preserved c = longs_step _ _ _ _ _ _ _ _ c.loop-missing-test.true refl c.in-Some.ensures c.in_ok-push.ensures.items c.loop-missing.invariant
