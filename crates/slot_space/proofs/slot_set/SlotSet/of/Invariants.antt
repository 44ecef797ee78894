use Rattle.std.proofs.Common.{◌≡◌, take, []}
use Rattle.slot_space.specs.Sets.{union}
use Rattle.slot_space.proofs.slot_set.SlotSet.of.Given as goal

abbrev pub invariant-loop-s : goal.invariant-loop-s
invariant-loop-s l = l.set ≡ union (take l.s-index l.slots) []
