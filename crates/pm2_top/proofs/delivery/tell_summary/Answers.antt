use Rattle.std.proofs.Common.{◌≡◌, true, subst, ◌∙◌}
use Rattle.std.specs.Prelude.{OnErr}
use Rattle.outside.specs.Outside.{AppendsPrefix}
use Rattle.settings.specs.Seen.{chosen}
use Rattle.pm2_top.specs.Delivery.{summary_for}
use Rattle.pm2_top.proofs.delivery.tell_summary.Goals as goal

pub returns-in-Ok-clause-err : goal.returns-in-Ok-clause-err
returns-in-Ok-clause-err g c =
    let asks : (chosen c.args.asked.now).summary ≡ true = c.if-not-asked.false in
    let same : c.deref.result.now ≡ summary_for (chosen c.args.asked.now) c.args.trace.now = c.deref.ensures.value ∙ (rw asks c.in-Ok.ensures) in
    subst (λ z. OnErr c.write_piece-in-Ok.result (AppendsPrefix (g.K.Sink.written c.args.out.now) z (g.K.Sink.written c.write_piece-in-Ok.new.out))) same c.write_piece-in-Ok.ensures.err
