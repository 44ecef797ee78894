use Rattle.std.proofs.Common.{◌≡◌, not}
use Rattle.std.specs.List.{list_all}
use Rattle.slot_space.specs.Sets.{meets}
use Rattle.run_trace.specs.Guests.{guest_slots}
use Rattle.node_state.proofs.state.LocalState.are_nobodys.Given as goal

-- those that are left settle the answer
abbrev pub invariant-loop-thread : goal.invariant-loop-thread
invariant-loop-thread l =
    list_all (λ e. not (meets l.slots (guest_slots e.1.guest))) l.thread-iterator ≡ list_all (λ e. not (meets l.slots (guest_slots e.1.guest))) l.self.threads
