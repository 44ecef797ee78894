use Rattle.std.proofs.Common.{◌≡◌, Some, get_or}
use Rattle.std.specs.Prelude.{slice_get}
use Rattle.std.proofs.lemmas.Option.{slice_get-get_or}
use Rattle.wires.specs.Link.{IsSettled, OwnBecomes}
use Rattle.wires.proofs.Pairs.{paired_at, self_changed}
use Rattle.wires.proofs.all.settle_self.Goals as goal

pub settle_own-requires : goal.settle_own-requires
settle_own-requires g c =
    let es = c.args.nodes.now in
    let i = c.args.i in
    let a = get_or es i c.index-nodes-i.result in
    let at : slice_get es i ≡ Some a = slice_get-get_or es i c.index-nodes-i.result c.requires.place in
    paired_at es i i a a c.requires.wired at at

pub returns-clause-settled : goal.returns-clause-settled
returns-clause-settled g c =
    let es = c.args.nodes.now in
    let i = c.args.i in
    let a = get_or es i c.index-nodes-i.result in
    let at : slice_get es i ≡ Some a = slice_get-get_or es i c.index-nodes-i.result c.requires.place in
    self_changed i (OwnBecomes IsSettled) es a c.settle_own.new.self at c.requires.wired c.settle_own.ensures.settled c.settle_own.ensures.wired
