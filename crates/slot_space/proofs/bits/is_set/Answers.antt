use Rattle.std.proofs.Common.{ap, eqb, get_or, ◌/◌, ◌%◌}
use Rattle.std.proofs.lemmas.Nat.Bits.{shr_and_one}
use Rattle.slot_space.specs.Words.{bit_of}
use Rattle.slot_space.proofs.bits.is_set.Goals as goal

pub returns : goal.returns
unfolding bit_of
returns c = ap (λ b. eqb b 1) (shr_and_one (get_or c.args.words.now (c.args.s / 64) 0) (c.args.s % 64))
