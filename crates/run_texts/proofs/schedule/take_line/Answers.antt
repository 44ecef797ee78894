use Rattle.std.proofs.Common.{refl, arith}
use Rattle.run_texts.proofs.Readings.{one_more}
use Rattle.run_texts.proofs.schedule.take_line.Goals as goal

pub returns-in-Ok-clause-good : goal.returns-in-Ok-clause-good
returns-in-Ok-clause-good c = λ rest.
    one_more c.args.acts.now.items c.push.new.self.items c.args.line (record { line = c.args.line; node = c.in-Act.node; act = c.in-Act.act }) c.args.said rest c.in-Act.is refl
    c.in-Ok.ensures.items (omega (arith, c.len.ensures, c.if-len-ge-MOST_ACTS.false))
