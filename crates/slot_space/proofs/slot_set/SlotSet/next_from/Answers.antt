use Rattle.std.proofs.Common.{sym}
use Rattle.slot_space.proofs.Words.{next_some, next_none, proper}
use Rattle.slot_space.proofs.slot_set.SlotSet.next_from.Goals as goal

pub returns-in-Some : goal.returns-in-Some
returns-in-Some c = rw (← c.self.view_is) (record {
  least = sym (next_some c.self.inside.words c.args.from c.in-Some.place (c.in-Some.ensures {u = tt}));
  proper = proper c.self.inside.words c.self.invariant;
})

pub returns-in-None : goal.returns-in-None
returns-in-None c = rw (← c.self.view_is) (record {
  least = sym (next_none c.self.inside.words c.args.from c.self.told (c.in-None.ensures {u = tt}));
  proper = proper c.self.inside.words c.self.invariant;
})
