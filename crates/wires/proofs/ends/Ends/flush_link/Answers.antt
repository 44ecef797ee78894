use Rattle.std.proofs.Common.{refl}
use Rattle.wires.specs.Link.{HasFlushed}
use Rattle.wires.proofs.Changed.{Wrote, wrote_at, changed, stays_wired}
use Rattle.wires.proofs.ends.Ends.flush_link.Goals as goal

pub returns : goal.returns
returns g c =
    let w : Wrote c.args.at c.args.self.now _ c.index_mut.result.now c.flush.new.self = wrote_at c.args.at c.args.at c.args.self.now _ c.index_mut.result.now c.flush.new.self refl c.index_mut.ensures.value c.requires refl refl in
    record { flushed = changed c.args.at HasFlushed c.args.self.now _ c.index_mut.result.now c.flush.new.self w c.flush.ensures.flushed; wired = stays_wired c.args.at c.args.self.now _ c.index_mut.result.now c.flush.new.self w c.flush.ensures.rings }
