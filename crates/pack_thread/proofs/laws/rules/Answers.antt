use Rattle.pack_thread.proofs.RuleLaws.{obeys, keeps}
use Rattle.pack_thread.proofs.laws.rules.Goals as goal

pub returns : goal.returns
returns c = λ t regs. (keeps t regs, obeys t regs)
