use Rattle.std.proofs.Common.{arith}
use Rattle.slot_space.proofs.Words.{members-remove, minus-absent, ascending-members, has_past}
use Rattle.slot_space.proofs.slot_set.SlotSet.remove.Goals as goal

pub returns-then-place : goal.returns-then-place
returns-then-place c = rw (← c.self.view_is, ← c.s.view_is) (members-remove c.self.inside.words c.clear_bit.new.words c.s.inside.0 c.clear_bit.ensures.bits)

pub returns-else-place : goal.returns-else-place
returns-else-place c = rw (← c.self.view_is, ← c.s.view_is)
    (minus-absent _ c.s.inside.0 (ascending-members c.self.inside.words) (has_past c.self.inside.words c.s.inside.0 (omega arith)))
