use Rattle.cluster.proofs.Gathered.{from_the_trace}
use Rattle.cluster.proofs.laws.nodes_have_histories.Goals as goal

pub returns : goal.returns
returns c = λ cluster before kept s n v new at turns h.
    from_the_trace cluster before kept s n v new at turns (c.turns_are_a_history.ensures v turns new h)
