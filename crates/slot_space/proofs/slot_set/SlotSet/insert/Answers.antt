use Rattle.slot_space.proofs.Words.{members-insert}
use Rattle.slot_space.proofs.slot_set.SlotSet.insert.Goals as goal

pub returns : goal.returns
returns c = rw (← c.self.view_is, ← c.s.view_is) (members-insert c.self.inside.words c.set_bit.new.words c.s.inside.0 c.set_bit.ensures.bits)
