use Rattle.std.proofs.Common.{◌≡◌, ◌-◌, ◌++◌}
use Rattle.std.specs.Prelude.{slice_get}
use Rattle.slot_space.specs.Sets.{run}
use Rattle.run_trace.specs.Program.{nodes_of}
use Rattle.cluster.specs.Between.{takes_from}
use Rattle.cluster.specs.Choosing.{later_acts, listed_moves}
use Rattle.cluster.proofs.choosing.later_act.Given as goal

-- it is at the place that is left, among what is left
abbrev pub invariant-loop-sender : goal.invariant-loop-sender
invariant-loop-sender l =
    slice_get (takes_from l.node (run l.sender (nodes_of l.node.program - l.sender)) ++ listed_moves l.moves l.node) l.left ≡ slice_get (later_acts l.moves l.node) l.place
