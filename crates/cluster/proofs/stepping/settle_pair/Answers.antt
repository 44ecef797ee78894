use Rattle.std.proofs.Common.{◌≡◌, ◌∙◌, Some, get_or, set, sym, ap, subst, arith, length-set}
use Rattle.std.specs.Prelude.{slice_get}
use Rattle.wires.specs.Link.{IsSettled, BothBecome}
use Rattle.wires.specs.Pairs.{PairChanged}
use Rattle.basics.proofs.Lemmas.{get_set_other, set_two, get_front, get_back}
use Rattle.wires.proofs.Lemmas.{paired_at, pair_changed}
use Rattle.cluster.specs.Between.{KeepNodes, wires_in}
use Rattle.cluster.proofs.Lists.{wires-get, wires-set, keeps_one, keeps_on}
use Rattle.cluster.proofs.stepping.settle_pair.Goals as goal

pub settle_with-requires : goal.settle_with-requires
settle_with-requires c =
    let s = c.split_at_mut-front in
    let vs = c.args.nodes.now in
    let rest = c.args.rest.now in
    let i = c.args.i in
    let j = c.args.j in
    let v = get_or s.result.0.now i c.index-front-i.result in
    let w = get_or s.result.1.now 0 c.index-back-0.result in
    let vi : slice_get vs i ≡ Some v = get_front vs s.result.0.now s.result.1.now i c.index-front-i.result s.ensures.value (omega arith) in
    let wj : slice_get vs j ≡ Some w = get_back vs s.result.0.now s.result.1.now j c.index-back-0.result s.ensures.value s.ensures.front_len c.requires.places.1 in
    paired_at (wires_in vs rest) i j v.ends w.ends c.requires.wired (wires-get vs rest i v vi) (wires-get vs rest j w wj)

pub returns-clause-settled : goal.returns-clause-settled
returns-clause-settled c =
    let s = c.split_at_mut-front in
    let vs = c.args.nodes.now in
    let rest = c.args.rest.now in
    let i = c.args.i in
    let j = c.args.j in
    let v = get_or s.result.0.now i c.index-front-i.result in
    let w = get_or s.result.1.now 0 c.index-back-0.result in
    let v' = c.settle_with.new.self in
    let w' = c.settle_with.new.other in
    let vi : slice_get vs i ≡ Some v = get_front vs s.result.0.now s.result.1.now i c.index-front-i.result s.ensures.value (omega arith) in
    let wj : slice_get vs j ≡ Some w = get_back vs s.result.0.now s.result.1.now j c.index-back-0.result s.ensures.value s.ensures.front_len c.requires.places.1 in
    let wj' : slice_get (set vs i v') j ≡ Some w = get_set_other vs j i v' (λ e. absurd (omega arith)) ∙ wj in
    let es = wires_in vs rest in
    let wires : wires_in (set (set vs i v') j w') rest ≡ set (set es i v'.ends) j w'.ends =
    wires-set (set vs i v') rest j w' (omega (arith, length-set vs i v', c.requires.places.1)) ∙ ap (λ fs. set fs j w'.ends) (wires-set vs rest i v' (omega (arith, c.requires.places))) in
    subst (λ us. KeepNodes vs us × PairChanged i j (BothBecome IsSettled) es (wires_in us rest)) (sym (set_two vs s.result.0.now s.result.1.now i j v' w' s.ensures.value s.ensures.front_len c.requires.places.0)) (
      keeps_on vs (set vs i v') (set (set vs i v') j w') (keeps_one vs i v v' vi c.settle_with.ensures.same.0) (keeps_one (set vs i v') j w w' wj' c.settle_with.ensures.same.1),
      subst (λ fs. PairChanged i j (BothBecome IsSettled) es fs) (sym wires)
          (pair_changed i j (BothBecome IsSettled) es v.ends w.ends v'.ends w'.ends c.requires.places.0 (wires-get vs rest i v vi) (wires-get vs rest j w wj) c.requires.wired
          c.settle_with.ensures.settled c.settle_with.ensures.wired.0 c.settle_with.ensures.wired.1),
    )
