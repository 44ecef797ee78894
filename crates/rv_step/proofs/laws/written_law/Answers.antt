use Rattle.rv_step.proofs.WriteLemmas.{written_is}
use Rattle.rv_step.proofs.laws.written_law.Goals as goal

pub returns : goal.returns
returns c = written_is
