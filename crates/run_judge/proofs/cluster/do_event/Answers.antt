use Rattle.std.proofs.Common.{arith}
use Rattle.run_judge.proofs.ClusterLemmas.{outside}
use Rattle.run_judge.proofs.cluster.do_event.Goals as goal

pub returns-in-None : goal.returns-in-None
returns-in-None c = outside _ _ _ _ _ (let h = c.in-None.ensures.item in omega (arith, h.3, c.me.view_is, c.requires.nodes))
