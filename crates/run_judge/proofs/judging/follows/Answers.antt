use Rattle.std.proofs.Common.{arith}
use Rattle.run_judge.proofs.SoundLemmas.{follows_at}
use Rattle.run_judge.proofs.judging.follows.Goals as goal

pub returns : goal.returns
returns c =
    let e = follows_at c.args.entries.now c.args.number c.index-entries-number.result c.args.entry.now (omega arith) c.requires c.index-entries-number.is in
    (λ h. e.0 (c.comes_after.ensures.0 h), λ f. c.comes_after.ensures.1 (e.1 f))
