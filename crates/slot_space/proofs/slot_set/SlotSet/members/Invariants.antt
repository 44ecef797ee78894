use Rattle.std.proofs.Common.{◌≡◌, ◌≤◌, ◌-◌}
use Rattle.slot_space.specs.Limits.{slot_limit}
use Rattle.slot_space.proofs.Ascending.{below}
use Rattle.slot_space.proofs.slot_set.SlotSet.members.Given as goal

abbrev pub invariant-loop-s : goal.invariant-loop-s
invariant-loop-s l = record { within : l.from ≤ slot_limit; so_far : l.slots.items ≡ below l.from l.self }

abbrev pub decreases-loop-s : goal.decreases-loop-s
decreases-loop-s l = slot_limit - l.from
