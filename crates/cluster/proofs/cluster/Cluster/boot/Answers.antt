use Rattle.std.proofs.Common.{[], ◌∙◌, ap, subst, length}
use Rattle.run_trace.specs.Legality.{boot_entries}
use Rattle.run_trace.specs.Program.{nodes_of}
use Rattle.cluster.specs.Standing.{StandsFor}
use Rattle.cluster.specs.View.{view_of}
use Rattle.cluster.proofs.cluster.Cluster.boot.Goals as goal

pub returns-clause-stands : goal.returns-clause-stands
returns-clause-stands c =
    subst (λ q. StandsFor (view_of c.in_ok-program.program 0 c.in_ok-nodes.nodes.items c.in_ok-nodes.rest.items) [] (boot_entries q (nodes_of q))) c.in_ok-program.ensures c.in_ok-nodes.ensures.stands

pub returns-clause-wires : goal.returns-clause-wires
returns-clause-wires c = c.in_ok-nodes.ensures.wide ∙ ap length c.in_ok-ends.ensures

pub returns-clause-first : goal.returns-clause-first
returns-clause-first c = (c.in_ok-nodes.ensures.clock, c.in_ok-nodes.ensures.round)
