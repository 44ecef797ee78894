use Rattle.std.proofs.Common.{ℕ, ◌*◌, get_or, inl, inr, arith, w64}
use Rattle.std.specs.Prelude.{bit_and}
use Rattle.std.specs.Int.{trailing_zeros}
use Rattle.std.proofs.lemmas.Nat.{and_le_l}
use Rattle.std.proofs.lemmas.Nat.Bits.{bit_at-trailing_zeros}
use Rattle.std.proofs.lemmas.Bool.{cases_lt}
use Rattle.slot_space.specs.WordsBack.{bit_past}
use Rattle.slot_space.proofs.Search.{common_bit, apart_more}
use Rattle.slot_space.proofs.bits.have_common.Goals as goal

pub returns-then-words-i-ne0 : goal.returns-then-words-i-ne0
returns-then-words-i-ne0 c =
    let i = c.loop-i.i in
    let both : ℕ = bit_and (get_or c.args.words.now i 0) (get_or c.args.others.now i 0) in
    let low = bit_at-trailing_zeros w64 both (omega arith) (omega (arith, and_le_l (get_or c.args.words.now i 0) (get_or c.args.others.now i 0), (c.type_inv.words i).fits)) in
    common_bit c.args.words.now c.args.others.now i (trailing_zeros w64 both) low.0 low.1

pub loop-i-preserved : goal.loop-i-preserved
loop-i-preserved c = apart_more c.args.words.now c.args.others.now c.loop-i.i (omega arith) c.loop-i.invariant

pub returns : goal.returns
returns c s h = elim (cases_lt s (64 * c.loop-i.i)) [
  | inl low ↦ c.loop-i.invariant s low h
  | inr past ↦ bit_past c.args.others.now s (omega arith)
]
