use Rattle.std.proofs.Common.{arith}
use Rattle.run_judge.proofs.judging.stands.Goals as goal

pub returns : goal.returns
returns c =
    let b = c.is_beginning.ensures in
    (λ h. (c.follows.ensures.0 c.if-not-follows.false, λ l. b.0 h), λ s. b.1 (s.1 (omega arith)))
