use Rattle.std.proofs.Common.{arith}
use Rattle.wires.proofs.Flushing.{flushed_none, flushed_more, flushed_all}
use Rattle.wires.proofs.Rings.{stays_refl, stays_trans}
use Rattle.wires.proofs.ends.Ends.flush.Goals as goal

pub loop-k-init : goal.loop-k-init
loop-k-init g c = record { flushed = flushed_none _; wired = stays_refl _ }

pub loop-k-preserved : goal.loop-k-preserved
loop-k-preserved g c = record {
  flushed = flushed_more c.loop-k.k c.args.self.now _ _ c.loop-k.invariant.flushed c.flush_link.ensures.flushed;
  wired = stays_trans _ _ _ c.loop-k.invariant.wired c.flush_link.ensures.wired;
}

pub returns : goal.returns
returns g c =
    let h = c.loop-k.invariant in
    record { flushed = flushed_all c.loop-k.k c.args.self.now _ (omega (arith, h.flushed.width)) h.flushed; wired = h.wired }
