use Rattle.std.proofs.Common.{arith, rules, FitsSigned, w16, ◌≡◌, to_z, of_z}
use Rattle.std.proofs.lemmas.Int.{to_z-of_z}
use Rattle.std.proofs.lemmas.Grind.{common_steps}
use Rattle.rv_inst.proofs.decoding.branch.Goals as goal

pub returns-clause-exact : goal.returns-clause-exact
returns-clause-exact c =
    let f : FitsSigned w16 c.b_offset.result = search rules in
    let e : to_z w16 (of_z w16 c.b_offset.result) ≡ c.b_offset.result = to_z-of_z w16 _ f in
    rw e (grind (arith, common_steps))
