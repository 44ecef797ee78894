use Rattle.std.proofs.Common.{ap, subst, ◌∙◌}
use Rattle.trace_text.specs.Texts.{Reads, read_trace}
use Rattle.trace_text.proofs.Traces.{trace_again, read_ok}
use Rattle.trace_text.proofs.lines.read_trace.Goals as goal

pub returns-clause-found : goal.returns-clause-found
returns-clause-found c = read_ok (λ v. v) c.read_items.result c.args.text.now c.read_items.ensures

pub returns-clause-again : goal.returns-clause-again
returns-clause-again c = λ xs fits e. subst (λ r. Reads (λ v. v) c.read_items.result r) (ap read_trace e ∙ trace_again xs fits) c.read_items.ensures
