use Rattle.std.proofs.Common.{ℕ, ◌^◌, ◌<◌, refl, cond, false, get_or, arith}
use Rattle.std.specs.Prelude.{bit_and}
use Rattle.std.proofs.lemmas.Nat.{and_le_l}
use Rattle.slot_space.proofs.Words.{joined_more, joined_all, and_not_word, words-set}
use Rattle.slot_space.proofs.bits.clear_all.Goals as goal

less : (a b : ℕ) → a < 2 ^ 64 → bit_and a b < 2 ^ 64
less a b h = omega (arith, and_le_l a b)

pub loop-i-preserved : goal.loop-i-preserved
loop-i-preserved c =
    let i = c.loop-i.i in
    record {
      words = words-set c.loop-i.words i _ (omega arith) (less (get_or c.loop-i.words i 0) _ (c.loop-i.invariant.words i)) c.loop-i.invariant.words;
      joined = joined_more (λ o w. cond o false w) c.args.words.now c.loop-i.words c.args.others.now i _ (omega arith) (λ j low. and_not_word _ (get_or c.args.others.now i 0) j (c.type_inv.others i).fits low) c.loop-i.invariant.joined;
    }

pub returns-clause-bits : goal.returns-clause-bits
returns-clause-bits c = joined_all (λ o w. cond o false w) c.args.words.now c.loop-i.words c.args.others.now c.loop-i.i (omega arith) (λ b. refl) c.loop-i.invariant.joined
