use Rattle.node_loop.proofs.ManyTurns.{turns_history}
use Rattle.node_loop.proofs.laws.turns_are_a_history.Goals as goal

pub returns : goal.returns
returns c = turns_history
