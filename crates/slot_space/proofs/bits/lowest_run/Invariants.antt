use Rattle.std.proofs.Common.{◌*◌}
use Rattle.slot_space.specs.Words.{bit_of, SearchedTo}
use Rattle.slot_space.proofs.bits.lowest_run.Given as goal

abbrev pub invariant-loop-i : goal.invariant-loop-i
invariant-loop-i l = SearchedTo (bit_of l.words) l.count (64 * l.i) l.start
