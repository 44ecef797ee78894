use Rattle.rv_step.proofs.AccessLemmas.{writable_before, writable_all}
use Rattle.rv_step.proofs.laws.writable_law.Goals as goal

pub returns : goal.returns
returns c = λ m a n. (writable_before m a n, writable_all m a n)
