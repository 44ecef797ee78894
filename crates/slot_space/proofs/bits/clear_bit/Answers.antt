use Rattle.slot_space.proofs.Words.{bit_of-and_not_one}
use Rattle.slot_space.proofs.bits.clear_bit.Goals as goal

pub returns-clause-bits : goal.returns-clause-bits
returns-clause-bits c k = bit_of-and_not_one c.args.words.now c.args.s k c.requires.within
