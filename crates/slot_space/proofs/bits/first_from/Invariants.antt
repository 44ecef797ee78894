use Rattle.std.proofs.Common.{◌*◌}
use Rattle.slot_space.specs.Words.{bit_of, HasNoneBetween}
use Rattle.slot_space.proofs.bits.first_from.Given as goal

abbrev pub invariant-loop-i : goal.invariant-loop-i
invariant-loop-i l = HasNoneBetween (bit_of l.words) l.from (64 * l.i)
