use Rattle.std.proofs.Common.{rules}
use Rattle.wires.proofs.Order.{prefix_of_ring}
use Rattle.wires.proofs.link.Link.look_own.Goals as goal

pub returns-clause-looked : goal.returns-clause-looked
returns-clause-looked g c = record { kept = search rules; own = prefix_of_ring _ _ _ _ c.look.ensures.fifo }
