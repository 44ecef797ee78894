use Rattle.trace_laws.specs.Gathers.{events_in}
use Rattle.cluster.specs.Standing.{net_after}
use Rattle.cluster.proofs.Gathered.{are_gathered, gathers, merges}
use Rattle.cluster.proofs.laws.rounds_gather.Goals as goal

pub returns : goal.returns
returns c = λ p old top round clocks turns g.
    are_gathered p old top round clocks turns g
    (c.gathered.ensures p (net_after p old) top clocks turns (gathers p old top round clocks turns g))
    (c.merged.ensures.entries p (net_after p old) (events_in turns) (merges p old top round clocks turns g))
