use Rattle.std.proofs.Common.{◌≡◌, Some, get_or, sym, subst, ◌∙◌}
use Rattle.std.specs.Prelude.{slice_get}
use Rattle.std.proofs.lemmas.Option.{slice_get-get_or}
use Rattle.wires.specs.Ends.{LinkChanged}
use Rattle.wires.specs.Link.{IsSettled, OwnBecomes}
use Rattle.wires.specs.Pairs.{SelfChanged}
use Rattle.wires.proofs.Lemmas.{paired_at, self_changed}
use Rattle.cluster.specs.Between.{wires_in}
use Rattle.cluster.proofs.Lists.{wires-get, wires-set, keeps_one}
use Rattle.cluster.proofs.stepping.settle_self.Goals as goal

pub settle_own-requires : goal.settle_own-requires
settle_own-requires c =
    let vs = c.args.nodes.now in
    let i = c.args.i in
    let v = get_or vs i c.index-nodes-i.result in
    let at : slice_get vs i ≡ Some v = slice_get-get_or vs i c.index-nodes-i.result c.requires.place in
    let here = wires-get vs c.args.rest.now i v at in
    paired_at (wires_in vs c.args.rest.now) i i v.ends v.ends c.requires.wired here here

pub returns-clause-settled : goal.returns-clause-settled
returns-clause-settled c =
    let vs = c.args.nodes.now in
    let rest = c.args.rest.now in
    let i = c.args.i in
    let v = get_or vs i c.index-nodes-i.result in
    let w = c.settle_own.new.self in
    let at : slice_get vs i ≡ Some v = slice_get-get_or vs i c.index-nodes-i.result c.requires.place in
    let here = wires-get vs rest i v at in
    let es = wires_in vs rest in (
      keeps_one vs i v w at c.settle_own.ensures.same,
      subst (λ fs. SelfChanged i (OwnBecomes IsSettled) es fs) (sym (wires-set vs rest i w c.requires.place))
          (self_changed i (OwnBecomes IsSettled) es v.ends w.ends here c.requires.wired
          (subst (λ m. LinkChanged m (OwnBecomes IsSettled) v.ends w.ends) (c.requires.numbered i v at ∙ sym (c.requires.wired.node i v.ends here)) c.settle_own.ensures.settled) c.settle_own.ensures.wired),
    )
