use Rattle.std.proofs.Common.{◌≡◌, Some, get_or}
use Rattle.std.specs.Prelude.{slice_get}
use Rattle.std.proofs.lemmas.Option.{slice_get-get_or}
use Rattle.wires.specs.Link.{IsInOrder, OwnBecomes}
use Rattle.wires.proofs.Pairs.{paired_at, self_changed}
use Rattle.wires.proofs.all.look_self.Goals as goal

pub look_own-requires : goal.look_own-requires
look_own-requires g c =
    let es = c.args.nodes.now in
    let i = c.args.i in
    let a = get_or es i c.index-nodes-i.result in
    let at : slice_get es i ≡ Some a = slice_get-get_or es i c.index-nodes-i.result c.requires.place in
    paired_at es i i a a c.requires.wired at at

pub returns : goal.returns
returns g c =
    let es = c.args.nodes.now in
    let i = c.args.i in
    let a = get_or es i c.index-nodes-i.result in
    let at : slice_get es i ≡ Some a = slice_get-get_or es i c.index-nodes-i.result c.requires.place in
    self_changed i (OwnBecomes IsInOrder) es a c.look_own.new.self at c.requires.wired c.look_own.ensures.looked c.look_own.ensures.wired
