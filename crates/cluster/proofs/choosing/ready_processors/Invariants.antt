use Rattle.std.proofs.Common.{◌≡◌, ◌≤◌, ◌+◌, ◌-◌, length}
use Rattle.slot_space.specs.Sets.{run}
use Rattle.run_trace.specs.Program.{processors_of}
use Rattle.cluster.specs.Between.{acts_from, run_on, runs_by}
use Rattle.cluster.proofs.choosing.ready_processors.Given as goal

-- those so far and those of what is left are all
abbrev pub invariant-loop-vp : goal.invariant-loop-vp
invariant-loop-vp l = record {
  all : l.ready + length (acts_from l.node (run_on l.node) (run l.vp (processors_of l.node.program - l.vp))) ≡ length (runs_by l.node);
  few : l.ready ≤ l.vp;
}
