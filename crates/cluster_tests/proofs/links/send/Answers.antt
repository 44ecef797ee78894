use Rattle.std.proofs.Common.{◌≡◌, ℕ, Some, get_or, arith}
use Rattle.std.specs.Prelude.{slice_get}
use Rattle.std.proofs.lemmas.Option.{slice_get-get_or}
use Rattle.wires.proofs.Lemmas.{stays_trans}
use Rattle.cluster_tests.proofs.links.send.Goals as goal

pub returns : goal.returns
returns c =
    let es = c.args.nodes.now in
    let i : ℕ = 0 in
    let a = get_or es i c.index-nodes-0.result in
    let at : slice_get es i ≡ Some a = slice_get-get_or es i c.index-nodes-0.result (omega (arith, c.requires.places)) in
    (stays_trans a _ _ c.reserve.ensures.wired c.send.ensures.wired).among es i c.requires.wired at
