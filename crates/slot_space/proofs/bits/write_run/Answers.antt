use Rattle.std.proofs.Common.{ℕ, ◌≡◌, ◌+◌, ◌-◌, ◌∙◌, cond, eqb, refl, ap, arith}
use Rattle.slot_space.specs.Sets.{run}
use Rattle.slot_space.specs.Words.{bit_of}
use Rattle.slot_space.proofs.Words.{run_more}
use Rattle.slot_space.proofs.bits.write_run.Goals as goal

pub loop-s-init : goal.loop-s-init
unfolding run
loop-s-init c = record { words = c.requires.words; bits = λ k. let e : c.args.first - c.args.first ≡ 0 = omega arith in rw e refl }

pub loop-s-preserved : goal.loop-s-preserved
loop-s-preserved c = record {
  words = c.write_bit.ensures.words;
  bits = λ k.
      let done : ℕ = c.loop-s.s - c.args.first in
      let place : c.loop-s.s ≡ c.args.first + done = omega arith in
      let next : c.loop-s.s + 1 - c.args.first ≡ done + 1 = omega arith in
      rw next (run_more c.args.first done k c.args.bit _ _ _ (c.loop-s.invariant.bits k) (c.write_bit.ensures.bits k ∙ ap (λ x. cond (eqb x k) c.args.bit (bit_of c.loop-s.words k)) place));
}

pub returns : goal.returns
returns c = let all : c.args.count ≡ c.loop-s.s - c.args.first = omega arith in record { bits = λ k. rw all (c.loop-s.invariant.bits k); words = c.loop-s.invariant.words }
