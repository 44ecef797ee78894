use Rattle.std.proofs.Common.{arith}
use Rattle.slot_space.proofs.Ones.{starts_one, starts_more}
use Rattle.slot_space.proofs.word.starts_of_ones.Goals as goal

pub loop-known-init : goal.loop-known-init
loop-known-init c = record { some = omega arith; within = omega arith; starts = starts_one c.args.word }

pub loop-known-preserved : goal.loop-known-preserved
loop-known-preserved c = record {
  some = omega arith;
  within = omega arith;
  starts = starts_more c.args.word c.loop-known.known _ c.loop-known.starts (omega arith) c.loop-known.invariant.starts;
}
