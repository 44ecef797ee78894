use Rattle.trace_laws.proofs.Strays.Strangers.{held_once}
use Rattle.trace_laws.proofs.laws.unforged.Goals as goal

pub returns : goal.returns
returns c = held_once
