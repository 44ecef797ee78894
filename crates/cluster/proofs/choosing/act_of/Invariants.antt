use Rattle.std.proofs.Common.{◌≡◌, ◌-◌, ◌++◌}
use Rattle.std.specs.Prelude.{slice_get}
use Rattle.slot_space.specs.Sets.{run}
use Rattle.run_trace.specs.Program.{processors_of}
use Rattle.cluster.specs.Between.{acts_by, acts_from, run_on}
use Rattle.cluster.specs.Choosing.{later_acts}
use Rattle.cluster.proofs.choosing.act_of.Given as goal

-- it is at the place that is left, among what is left
abbrev pub invariant-loop-vp : goal.invariant-loop-vp
invariant-loop-vp l =
    slice_get (acts_from l.node (run_on l.node) (run l.vp (processors_of l.node.program - l.vp)) ++ later_acts l.moves l.node) l.left ≡ slice_get (acts_by l.moves l.node) l.place
