use Rattle.std.proofs.Common.{sym, ◌∙◌, arith}
use Rattle.std.proofs.lemmas.Bool.{le-ltb}
use Rattle.slot_space.specs.Limits.{slot_limit}
use Rattle.slot_space.specs.WordsBack.{has-members}
use Rattle.slot_space.proofs.Words.{has_past, proper}
use Rattle.slot_space.proofs.slot_set.SlotSet.contains.Goals as goal

pub returns-then-place : goal.returns-then-place
returns-then-place c = rw (← c.self.view_is, ← c.s.view_is) (record {
  member = c.is_set.ensures ∙ sym (has-members c.self.inside.words c.s.inside.0);
  proper = proper c.self.inside.words c.self.invariant;
})

pub returns-else-place : goal.returns-else-place
returns-else-place c = rw (← c.self.view_is, ← c.s.view_is) (record {
  member = le-ltb c.s.inside.0 slot_limit c.if-place.false ∙ sym (has_past c.self.inside.words c.s.inside.0 (omega arith));
  proper = proper c.self.inside.words c.self.invariant;
})
