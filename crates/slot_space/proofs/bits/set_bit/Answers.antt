use Rattle.std.proofs.Common.{◌/◌, arith}
use Rattle.std.proofs.lemmas.Nat.{or_lt}
use Rattle.slot_space.proofs.Words.{bit_of-or_one, words-set}
use Rattle.slot_space.proofs.bits.set_bit.Goals as goal

pub returns-clause-bits : goal.returns-clause-bits
returns-clause-bits c k = bit_of-or_one c.args.words.now c.args.s k c.requires.within

pub returns-clause-words : goal.returns-clause-words
returns-clause-words c = words-set c.args.words.now (c.args.s / 64) _ (omega (arith, c.requires.within))
    (or_lt 64 _ _ (c.requires.words (c.args.s / 64)) (omega arith)) c.requires.words
