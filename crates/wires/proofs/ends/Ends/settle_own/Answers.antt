use Rattle.std.proofs.Common.{refl}
use Rattle.wires.specs.Link.{IsSettled, OwnBecomes}
use Rattle.wires.proofs.Changed.{Wrote, wrote_at, changed, stays_wired, own_paired}
use Rattle.wires.proofs.ends.Ends.settle_own.Goals as goal

pub returns : goal.returns
returns g c =
    let w : Wrote c.args.self.now.me c.args.self.now _ c.index_mut.result.now c.settle_own.new.self = wrote_at c.args.self.now.me c.me.inside.0 c.args.self.now _ c.index_mut.result.now c.settle_own.new.self c.me.view_is c.index_mut.ensures.value c.requires.there refl refl in
    record {
      ok = refl;
      settled = changed c.args.self.now.me (OwnBecomes IsSettled) c.args.self.now _ c.index_mut.result.now c.settle_own.new.self w c.settle_own.ensures.settled;
      paired = own_paired c.args.self.now _ c.index_mut.result.now c.settle_own.new.self w c.settle_own.ensures.rings c.requires;
      wired = stays_wired c.args.self.now.me c.args.self.now _ c.index_mut.result.now c.settle_own.new.self w c.settle_own.ensures.rings;
    }
