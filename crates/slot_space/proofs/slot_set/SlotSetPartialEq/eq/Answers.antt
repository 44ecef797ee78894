use Rattle.std.proofs.Common.{◌∙◌}
use Rattle.slot_space.proofs.Words.{same_rows}
use Rattle.slot_space.proofs.slot_set.SlotSetPartialEq.eq.Goals as goal

pub returns : goal.returns
returns c = rw (← c.self.view_is, ← c.other.view_is) (c.eq.ensures ∙ same_rows c.self.inside.words c.other.inside.words c.self.invariant c.other.invariant)
