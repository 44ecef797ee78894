use Rattle.std.proofs.Common.{◌≡◌, Some, get_or, sym, subst, arith}
use Rattle.std.specs.Prelude.{slice_get}
use Rattle.wires.specs.Link.{IsInOrder, BothBecome}
use Rattle.wires.specs.Pairs.{PairChanged}
use Rattle.basics.proofs.Lemmas.{set_two, get_front, get_back}
use Rattle.wires.proofs.Pairs.{paired_at, pair_changed}
use Rattle.wires.proofs.all.look_pair.Goals as goal

pub look-requires : goal.look-requires
look-requires g c =
    let s = c.split_at_mut-front in
    let es = c.args.nodes.now in
    paired_at es c.args.i c.args.j (get_or s.result.0.now c.args.i c.index-front-i.result) (get_or s.result.1.now 0 c.index-back-0.result) c.requires.wired
    (get_front es s.result.0.now s.result.1.now c.args.i c.index-front-i.result s.ensures.value (omega arith))
    (get_back es s.result.0.now s.result.1.now c.args.j c.index-back-0.result s.ensures.value s.ensures.front_len c.requires.places.1)

pub returns : goal.returns
returns g c =
    let s = c.split_at_mut-front in
    let es = c.args.nodes.now in
    let i = c.args.i in
    let j = c.args.j in
    let a = get_or s.result.0.now i c.index-front-i.result in
    let b = get_or s.result.1.now 0 c.index-back-0.result in
    let ai : slice_get es i ≡ Some a = get_front es s.result.0.now s.result.1.now i c.index-front-i.result s.ensures.value (omega arith) in
    let bj : slice_get es j ≡ Some b = get_back es s.result.0.now s.result.1.now j c.index-back-0.result s.ensures.value s.ensures.front_len c.requires.places.1 in
    subst (λ fs. PairChanged i j (BothBecome IsInOrder) es fs) (sym (set_two es s.result.0.now s.result.1.now i j c.look.new.a c.look.new.b s.ensures.value s.ensures.front_len c.requires.places.0))
    (pair_changed i j (BothBecome IsInOrder) es a b c.look.new.a c.look.new.b c.requires.places.0 ai bj c.requires.wired c.look.ensures.looked c.look.ensures.wired.0 c.look.ensures.wired.1)
