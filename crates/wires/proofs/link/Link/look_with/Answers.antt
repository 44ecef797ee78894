use Rattle.std.proofs.Common.{rules}
use Rattle.wires.proofs.Order.{prefix_of_ring}
use Rattle.wires.proofs.link.Link.look_with.Goals as goal

pub returns-clause-looked : goal.returns-clause-looked
returns-clause-looked g c = record { kept_x = search rules; kept_y = search rules; there = prefix_of_ring _ _ _ _ c.look.ensures.fifo; back = prefix_of_ring _ _ _ _ c.look-2.ensures.fifo }
