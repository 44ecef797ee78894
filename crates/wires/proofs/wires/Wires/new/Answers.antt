use Rattle.std.proofs.Common.{◌≡◌, subst, arith}
use Rattle.wires.specs.Built.{IsBuilt}
use Rattle.wires.proofs.Build.{fresh_for}
use Rattle.wires.proofs.wires.Wires.new.Goals as goal

pub returns : goal.returns
returns g c =
    let es = c.loop-n.ends.items in
    let all : c.loop-n.n ≡ c.args.nodes = omega arith in
    fresh_for c.args.nodes es (omega (arith, c.loop-n.ends.ok.0)) (subst (λ n. IsBuilt n es) all c.loop-n.invariant.built)
