use Rattle.std.proofs.Common.{sym, ◌∙◌}
use Rattle.levels.specs.declared.entity.Entity.{Entity}
use Rattle.levels.specs.Rows.{is_entity}
use Rattle.bubbles.proofs.Leaving.{none_out}
use Rattle.bubbles.proofs.bubble.member_out.Goals as goal

pub returns-in-None : goal.returns-in-None
returns-in-None c = sym (none_out (λ (m : Entity). is_entity m c.args.e.now) c.args.members.now.items (rw (← c.deref.ensures.value) (sym c.where_is.ensures ∙ c.in-None.is)))
