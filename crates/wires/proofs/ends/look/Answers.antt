use Rattle.std.proofs.Common.{refl}
use Rattle.wires.specs.Link.{IsInOrder, BothBecome}
use Rattle.wires.proofs.Changed.{Wrote, wrote_at, stays_wired, both_changed, still_paired}
use Rattle.wires.proofs.ends.look.Goals as goal

pub returns : goal.returns
returns g c =
    let v : Wrote c.args.b.now.me c.args.a.now _ c.index_mut.result.now c.look_with.new.self = wrote_at c.args.b.now.me c.theirs.inside.0 c.args.a.now _ c.index_mut.result.now c.look_with.new.self c.theirs.view_is c.index_mut.ensures.value c.requires.there refl refl in
    let w : Wrote c.args.a.now.me c.args.b.now _ c.index_mut-2.result.now c.look_with.new.other = wrote_at c.args.a.now.me c.ours.inside.0 c.args.b.now _ c.index_mut-2.result.now c.look_with.new.other c.ours.view_is c.index_mut-2.ensures.value c.requires.here refl refl in
    let rings = c.look_with.ensures.rings in
    record {
      looked = both_changed (BothBecome IsInOrder) c.args.a.now c.args.b.now _ _ c.index_mut.result.now c.index_mut-2.result.now c.look_with.new.self c.look_with.new.other v w c.look_with.ensures.looked;
      paired = still_paired c.args.a.now c.args.b.now _ _ c.index_mut.result.now c.index_mut-2.result.now c.look_with.new.self c.look_with.new.other v w rings.0 rings.1 c.requires;
      wired = (stays_wired c.args.b.now.me c.args.a.now _ c.index_mut.result.now c.look_with.new.self v rings.0, stays_wired c.args.a.now.me c.args.b.now _ c.index_mut-2.result.now c.look_with.new.other w rings.1);
    }
