use Rattle.std.proofs.Common.{sym, subst}
use Rattle.std.specs.Prelude.{IfSome}
use Rattle.settings.specs.Seen.{chosen}
use Rattle.pm2_top.specs.Asked.{LacksAny}
use Rattle.pm2_top.specs.Outcome.{IsUnlessMemory, Settled}
use Rattle.pm2_top.specs.declared.status.Status.TheVariants.{ReadFault}
use Rattle.pm2_top.proofs.top.obey.Goals as goal

pub returns-in-Ok-clause-ended : goal.returns-in-Ok-clause-ended
returns-in-Ok-clause-ended g c = Settled (chosen c.in-Ok.asked) c.in-Ok.ensures.ok c.do_asked.ensures.obeyed

pub returns-in-Ok-clause-missing : goal.returns-in-Ok-clause-missing
returns-in-Ok-clause-missing g c =
    subst (λ o. IfSome o (λ asked. LacksAny (g.S.Shelf.content c.args.shelf.now) asked.command → IsUnlessMemory c.do_asked.result.status ReadFault)) (sym c.in-Ok.ensures.ok) c.do_asked.ensures.missing
