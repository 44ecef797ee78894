use Rattle.std.proofs.Common.{◌≡◌, ◌-◌, ◌++◌}
use Rattle.slot_space.specs.Sets.{run}
use Rattle.run_trace.specs.Program.{processors_of}
use Rattle.cluster.specs.Between.{acts_from, run_on, runs_by}
use Rattle.cluster.proofs.listing.push_runs.Given as goal

-- those so far and those of what is left are all
abbrev pub invariant-loop-vp : goal.invariant-loop-vp
invariant-loop-vp l = l.acts.items ++ acts_from l.node (run_on l.node) (run l.vp (processors_of l.node.program - l.vp)) ≡ l.fn.acts.items ++ runs_by l.node
