use Rattle.std.proofs.Common.{◌≡◌, ◌++◌}
use Rattle.node_state.specs.Listed.{listed_among, listed}
use Rattle.node_state.proofs.state.LocalState.ready_names.Given as goal

-- the names so far, and those among the threads that are left
abbrev pub invariant-loop-t : goal.invariant-loop-t
invariant-loop-t l = l.names.items ++ listed_among l.self.forest l.t-iterator ≡ listed l.self
