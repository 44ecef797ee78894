use Rattle.run_texts.proofs.Fitting.{acts_fine, few_lines}
use Rattle.run_texts.proofs.laws.schedules_fit.Goals as goal

pub returns-clause-acts : goal.returns-clause-acts
returns-clause-acts c = acts_fine

pub returns-clause-lines : goal.returns-clause-lines
returns-clause-lines c = few_lines
