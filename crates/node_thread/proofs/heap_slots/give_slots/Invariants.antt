use Rattle.std.proofs.Common.{◌≡◌, ◌+◌, ◌-◌, ◌^◌, ◌<◌, ◌≤◌, ℕ, true, false, length}
use Rattle.std.specs.Prelude.{min}
use Rattle.slot_space.specs.Sets.{has}
use Rattle.rv_step.specs.Memory.{slots_of}
use Rattle.run_trace.specs.Guests.{without_slots}
use Rattle.node_thread.proofs.heap_slots.give_slots.Given as goal

-- what is left without the slots is the same, those below n are gone, and the others are held
abbrev pub invariant-loop-n : goal.invariant-loop-n
invariant-loop-n l = record {
  same : without_slots l.slots l.mem.0 ≡ without_slots l.slots l.fn.mem.0;
  gone : (s : ℕ) → s < l.n → has s l.slots ≡ true → has s (slots_of l.mem.0) ≡ false;
  held : (s : ℕ) → l.n ≤ s → has s l.slots ≡ true → has s (slots_of l.mem.0) ≡ true;
  spare : (min (l.pool + length l.mem.0) (2 ^ 32 - 1) ≡ min (l.fn.pool + length l.fn.mem.0) (2 ^ 32 - 1)) × (l.pool < 2 ^ 32);
}
