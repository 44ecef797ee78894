use Rattle.std.proofs.Common.{sym, inl, inr, arith}
use Rattle.std.proofs.lemmas.Bool.{cases_lt}
use Rattle.slot_space.specs.Limits.{slot_limit}
use Rattle.slot_space.specs.WordsBack.{bit_past}
use Rattle.slot_space.specs.Words.{bit_of}
use Rattle.slot_space.proofs.Runs.{has_run-none, lowest_run-some, lowest_run-none}
use Rattle.slot_space.proofs.bits.lowest_run.Goals as goal

pub returns-in-Found : goal.returns-in-Found
returns-in-Found c =
    let k = c.in-Found.ensures {u = tt} in
    sym (lowest_run-some (bit_of c.args.words.now) c.args.count slot_limit c.in-Found.place (omega (arith, k.0)) k.1.run k.1.none)

pub returns : goal.returns
returns c = sym (lowest_run-none (bit_of c.args.words.now) c.args.count slot_limit (λ k h. elim (cases_lt k c.loop-i.start) [
  | inl early ↦ c.loop-i.invariant.none k early
  | inr late ↦ has_run-none (bit_of c.args.words.now) k c.args.count slot_limit (omega arith) (omega (arith, c.loop-i.invariant.short)) (bit_past c.args.words.now slot_limit (omega (arith, c.requires.words.len)))
]))
