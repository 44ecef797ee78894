use Rattle.std.proofs.Common.{refl}
use Rattle.wires.specs.Link.{HasTaken}
use Rattle.wires.proofs.Changed.{Wrote, wrote_at, changed, stays_wired}
use Rattle.wires.proofs.ends.Ends.take.Goals as goal

pub returns : goal.returns
returns g c =
    let w : Wrote c.args.sender c.args.self.now _ c.index_mut.result.now c.take.new.self = wrote_at c.args.sender c.sender.inside.0 c.args.self.now _ c.index_mut.result.now c.take.new.self c.sender.view_is c.index_mut.ensures.value c.requires refl refl in
    record { taken = changed c.args.sender (HasTaken c.take.result) c.args.self.now _ c.index_mut.result.now c.take.new.self w c.take.ensures.taken; wired = stays_wired c.args.sender c.args.self.now _ c.index_mut.result.now c.take.new.self w c.take.ensures.rings }
