use Rattle.std.proofs.Common.{◌≡◌, ◌+◌, ◌-◌, ℕ, true, false}
use Rattle.slot_space.specs.Sets.{has, run}
use Rattle.rv_step.specs.Memory.{slots_of}
use Rattle.run_trace.specs.Guests.{with_zero_slots}
use Rattle.node_thread.proofs.heap_slots.take_run.Given as goal

-- the rest of the run comes to what the whole does
abbrev pub invariant-loop-n : goal.invariant-loop-n
invariant-loop-n l = record {
  same : with_zero_slots (run (l.first + l.n) (l.count - l.n)) l.mem.0 ≡ with_zero_slots (run l.first l.count) l.initial.mem.0;
  new : (s : ℕ) → has s (run (l.first + l.n) (l.count - l.n)) ≡ true → has s (slots_of l.mem.0) ≡ false;
  spare : l.pool + l.n ≡ l.initial.pool;
  room : l.mem.1 + l.n ≡ l.initial.mem.1;
}
