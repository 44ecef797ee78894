use Rattle.std.proofs.Common.{rules}
use Rattle.outside.proofs.Reading.{consumes_more}
use Rattle.outside.proofs.real.read_all.Goals as goal

pub loop-preserved : goal.loop-preserved
loop-preserved g c = record {
  few = search rules;
  given = search (rules, consumes_more);
}
