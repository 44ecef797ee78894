use Rattle.std.proofs.Common.{◌≡◌, true, List, ap, subst, rules}
use Rattle.outside.specs.Outside.{AppendsPrefix}
use Rattle.run_trace.specs.declared.entry.Entry.{Entry}
use Rattle.settings.specs.Seen.{chosen}
use Rattle.pm2_top.specs.Delivery.{is_told, summary_for, with_status, Refused}
use Rattle.pm2_top.proofs.delivery.tell_all.Goals as goal

pub returns-in-Err-clause-tells : goal.returns-in-Err-clause-tells
returns-in-Err-clause-tells g c =
    let told : is_told c.args.ran.status ≡ true = search rules in
    Refused told
    (subst (λ (trace : List Entry). AppendsPrefix (g.K.Sink.written c.args.out.now) (summary_for (chosen c.args.asked.now) trace) (g.K.Sink.written c.deliver.new.out)) c.as_slice.ensures c.in-Err.ensures.err)
    c.in-Err.refusal (ap (λ s. with_status s c.args.ran) c.from.ensures)
