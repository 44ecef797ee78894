use Rattle.cluster_tests.proofs.Driving.{driven_at_start, two_nodes}
use Rattle.cluster_tests.proofs.apart.driven.Goals as goal

pub start-requires : goal.start-requires
start-requires c = two_nodes c.args.shell.now c.args.nodes.now c.requires

pub turn-requires-clause-driven : goal.turn-requires-clause-driven
turn-requires-clause-driven c = driven_at_start c.args.shell.now c.args.nodes.now _ c.requires c.in_ok-start.ensures c.nodes_go_on.ensures.starts
