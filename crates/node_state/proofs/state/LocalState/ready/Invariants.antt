use Rattle.std.proofs.Common.{◌≡◌, ◌≤◌, ◌+◌, length}
use Rattle.node_state.specs.Listed.{listed_among, listed}
use Rattle.node_state.proofs.state.LocalState.ready.Given as goal

-- of those that are left, each that is on no list is to be taken off
abbrev pub invariant-loop-t : goal.invariant-loop-t
invariant-loop-t l = (l.count + length (listed_among l.self.forest l.t-iterator) ≡ length (listed l.self) + length l.t-iterator) × (length l.t-iterator ≤ l.count)
