use Rattle.trace_laws.proofs.Outcomes.Legals.{forest_after, once_after, none_after, seated_after}
use Rattle.trace_laws.proofs.laws.seated.Goals as goal

pub returns : goal.returns
returns c = record { forest = forest_after; once = once_after; others = none_after; told = seated_after }
