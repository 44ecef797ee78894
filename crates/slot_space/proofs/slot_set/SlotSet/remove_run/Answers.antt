use Rattle.slot_space.specs.Sets.{run}
use Rattle.slot_space.proofs.Words.{members-minus}
use Rattle.slot_space.proofs.slot_set.SlotSet.remove_run.Goals as goal

pub returns : goal.returns
returns c = rw (← c.self.view_is, ← c.first.view_is) (members-minus c.self.inside.words c.write_run.new.words (run c.first.inside.0 c.args.count) c.write_run.ensures.bits)
