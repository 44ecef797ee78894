use Rattle.slot_space.proofs.Ascending.{empty-told}
use Rattle.slot_space.proofs.slot_set.SlotSet.is_empty.Goals as goal

pub returns : goal.returns
returns c = empty-told c.args.self.now c.next_from.result c.is_none.result c.next_from.ensures.least c.is_none.ensures
