use Rattle.std.proofs.Common.{◌≡◌}
use Rattle.slot_space.specs.Addresses.{starting_slots}
use Rattle.slot_space.proofs.slot_set.SlotSet.starting.Given as goal

abbrev pub invariant-loop-s : goal.invariant-loop-s
invariant-loop-s l = l.set ≡ starting_slots l.geometry.nodes l.s l.node-inside.0
