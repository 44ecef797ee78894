use Rattle.slot_space.proofs.Words.{members-minus_words}
use Rattle.slot_space.proofs.slot_set.SlotSet.remove_all.Goals as goal

pub returns : goal.returns
returns c = rw (← c.self.view_is, ← c.other.view_is) (members-minus_words c.self.inside.words c.other.inside.words c.clear_all.new.words c.clear_all.ensures.bits)
