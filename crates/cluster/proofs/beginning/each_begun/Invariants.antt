use Rattle.run_trace.specs.Program.{nodes_of}
use Rattle.cluster.specs.Between.{HaveBegun}
use Rattle.cluster.proofs.beginning.each_begun.Given as goal

-- so it is of the ends so far
abbrev pub invariant-loop-ends : goal.invariant-loop-ends
invariant-loop-ends l = HaveBegun l.program (nodes_of l.program) l.yielded l.nodes.items l.rest.items
