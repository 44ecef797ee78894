use Rattle.trace_laws.proofs.Rules.OneTrace.{one_trace}
use Rattle.trace_laws.proofs.laws.one_trace.Goals as goal

pub returns : goal.returns
returns c = one_trace
