use Rattle.std.proofs.Common.{refl, cond, true, arith}
use Rattle.std.proofs.lemmas.Nat.{or_lt}
use Rattle.slot_space.proofs.Words.{joined_more, joined_all, or_word, words-set}
use Rattle.slot_space.proofs.bits.set_all.Goals as goal

pub loop-i-preserved : goal.loop-i-preserved
loop-i-preserved c =
    let i = c.loop-i.i in
    record {
      words = words-set c.loop-i.words i _ (omega arith) (or_lt 64 _ _ (c.loop-i.invariant.words i) (c.type_inv.others i).fits) c.loop-i.invariant.words;
      joined = joined_more (λ o w. cond o true w) c.args.words.now c.loop-i.words c.args.others.now i _ (omega arith) (λ j _. or_word _ _ j) c.loop-i.invariant.joined;
    }

pub returns-clause-bits : goal.returns-clause-bits
returns-clause-bits c = joined_all (λ o w. cond o true w) c.args.words.now c.loop-i.words c.args.others.now c.loop-i.i (omega arith) (λ b. refl) c.loop-i.invariant.joined
