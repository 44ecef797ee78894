use Rattle.trace_laws.proofs.Outcomes.Legals.{whole, whole_by_rules, joined_whole}
use Rattle.trace_laws.proofs.laws.whole.Goals as goal

pub returns : goal.returns
returns c = record { sequential = whole; by_rules = whole_by_rules; side_by_side = joined_whole }
