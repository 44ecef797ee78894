use Rattle.trace_text.proofs.Digits.{pairs_step}
use Rattle.trace_text.proofs.one_word.pairs_in.Goals as goal

pub loop-high-preserved : goal.loop-high-preserved
loop-high-preserved c = pairs_step _ _ _ _ _ _ _ _ _ _ c.in-Some.ensures.cases.0 c.in-Some-split_first.ensures.cases.0 c.in_ok-push.ensures.items c.in-Some-Some.ensures.value c.in-Some-Some.ensures'.value c.loop-high.invariant
