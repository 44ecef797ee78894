use Rattle.pm2_top.specs.Outcome.{Read}
use Rattle.pm2_top.proofs.top.run_asked.Goals as goal

pub returns-in-Ok-clause-ran : goal.returns-in-Ok-clause-ran
returns-in-Ok-clause-ran g c = Read c.in-Ok.inputs.source c.in-Ok.inputs.schedule c.in-Ok.ensures.given c.do_inputs.ensures.ending
