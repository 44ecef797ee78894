use Rattle.std.proofs.Common.{refl}
use Rattle.wires.specs.Link.{HasSent}
use Rattle.wires.proofs.Changed.{Wrote, wrote_at, changed, stays_wired}
use Rattle.wires.proofs.ends.Ends.send.Goals as goal

pub returns : goal.returns
returns g c =
    let w : Wrote c.args.to c.args.self.now _ c.index_mut.result.now c.send.new.self = wrote_at c.args.to c.to.inside.0 c.args.self.now _ c.index_mut.result.now c.send.new.self c.to.view_is c.index_mut.ensures.value c.requires.0 refl refl in
    record { sent = changed c.args.to (HasSent c.args.packet) c.args.self.now _ c.index_mut.result.now c.send.new.self w c.send.ensures.sent; wired = stays_wired c.args.to c.args.self.now _ c.index_mut.result.now c.send.new.self w c.send.ensures.rings }
