use Rattle.trace_laws.proofs.Outcomes.Legals.{rules_are_runs, entry_fits, rules_go_on}
use Rattle.trace_laws.proofs.laws.rules_and_machine.Goals as goal

pub returns : goal.returns
returns c = record { same = rules_are_runs; entry = entry_fits; goes_on = rules_go_on }
