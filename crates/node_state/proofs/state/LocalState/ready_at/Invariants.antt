use Rattle.std.proofs.Common.{◌≡◌}
use Rattle.std.specs.Prelude.{slice_get}
use Rattle.node_state.specs.Listed.{listed_among, listed}
use Rattle.node_state.proofs.state.LocalState.ready_at.Given as goal

-- it is at the place that is left, among the threads that are left
abbrev pub invariant-loop-t : goal.invariant-loop-t
invariant-loop-t l = slice_get (listed_among l.self.forest l.t-iterator) l.left ≡ slice_get (listed l.self) l.place
