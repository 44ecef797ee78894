use Rattle.slot_space.proofs.Words.{members-union_words}
use Rattle.slot_space.proofs.slot_set.SlotSet.union_with.Goals as goal

pub returns : goal.returns
returns c = rw (← c.self.view_is, ← c.other.view_is) (members-union_words c.self.inside.words c.other.inside.words c.set_all.new.words c.set_all.ensures.bits)
