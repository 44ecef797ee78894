use Rattle.std.proofs.Common.{sym, ◌∙◌}
use Rattle.levels.specs.declared.entity.Entity.TheVariants.{Thread}
use Rattle.levels.specs.Rows.{is_entity}
use Rattle.bubbles.specs.declared.bubble.KnownThread.{KnownThread}
use Rattle.bubbles.proofs.Leaving.{none_out}
use Rattle.bubbles.proofs.forest.forget.Goals as goal

pub returns-in-None : goal.returns-in-None
returns-in-None c = sym (none_out (λ (x : KnownThread). is_entity (Thread x.tid) (Thread c.args.t.now)) c.args.threads.now.items (rw (← c.deref.ensures.value) (sym c.where_is.ensures ∙ c.in-None.is)))
