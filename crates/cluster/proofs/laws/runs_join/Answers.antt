use Rattle.cluster.specs.Standing.{net_after}
use Rattle.cluster.proofs.Gathered.{are_joined}
use Rattle.cluster.proofs.laws.runs_join.Goals as goal

pub returns : goal.returns
returns c = λ p old trace histories j.
    are_joined p old trace histories j
    (c.joined.ensures.run p (net_after p old) trace histories j.joins)
    (c.joined.ensures.nodes p (net_after p old) trace histories j.joins)
    (c.joined.ensures.links p (net_after p old) trace histories j.joins)
