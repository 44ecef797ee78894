use Rattle.trace_laws.proofs.Outcomes.Legals.{told_after}
use Rattle.trace_laws.proofs.laws.told.Goals as goal

pub returns : goal.returns
returns c = told_after
