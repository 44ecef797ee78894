use Rattle.slot_space.proofs.Words.{meets-members}
use Rattle.slot_space.proofs.slot_set.SlotSet.meets.Goals as goal

pub returns : goal.returns
returns c = rw (← c.self.view_is, ← c.other.view_is) (meets-members c.self.inside.words c.other.inside.words c.have_common.result c.have_common.ensures)
