use Rattle.std.proofs.Common.{◌≡◌, ℕ, ◌+◌, ◌-◌, ◌/◌, get_or, ap, sym, arith}
use Rattle.rv_step.specs.declared.memory.Held.{Held}
use Rattle.rv_step.proofs.AscendingLemmas.{place_at, below_mid, above_mid, no_place_between}
use Rattle.rv_step.proofs.memory.place_in.Goals as goal

pub returns-then-there-slot : goal.returns-then-there-slot
returns-then-there-slot c =
    let mid : ℕ = c.loop-low.low + (c.loop-low.high - c.loop-low.low) / 2 in
    let here : (get_or c.args.held.now mid c.index-held-mid.result).slot ≡ c.args.slot = c.if-there-slot.true in
    sym (place_at c.args.held.now c.args.slot mid c.index-held-mid.result c.requires (omega arith) here)

pub loop-low-preserved-then-there-slot-2 : goal.loop-low-preserved-then-there-slot-2
loop-low-preserved-then-there-slot-2 c =
    let mid : ℕ = c.loop-low.low + (c.loop-low.high - c.loop-low.low) / 2 in
    let there : c.index-held-mid.result.slot ≡ (get_or c.args.held.now mid c.index-held-mid.result).slot
    = ap (λ (h : Held). h.slot) c.index-held-mid.is in
    record {
      inside = c.loop-low.invariant.inside;
      ordered = omega arith;
      below = below_mid c.args.held.now c.args.slot mid c.index-held-mid.result c.requires (omega arith) c.index-held-mid.is (omega arith);
      above = c.loop-low.invariant.above;
    }

pub loop-low-preserved : goal.loop-low-preserved
loop-low-preserved c =
    let mid : ℕ = c.loop-low.low + (c.loop-low.high - c.loop-low.low) / 2 in
    let there : c.index-held-mid.result.slot ≡ (get_or c.args.held.now mid c.index-held-mid.result).slot
    = ap (λ (h : Held). h.slot) c.index-held-mid.is in
    record {
      inside = omega arith;
      ordered = omega arith;
      below = c.loop-low.invariant.below;
      above = above_mid c.args.held.now c.args.slot mid c.index-held-mid.result c.requires (omega arith) c.index-held-mid.is (omega arith);
    }

pub returns : goal.returns
returns c = sym (no_place_between c.args.held.now c.args.slot c.loop-low.low c.loop-low.high (omega arith)
    c.loop-low.invariant.below c.loop-low.invariant.above)
