use Rattle.std.proofs.Common.{ℕ, ◌-◌, ◌<◌, ◌≤◌, length, get_or}
use Rattle.rv_step.specs.declared.memory.Held.{Held}
use Rattle.rv_step.proofs.memory.place_in.Given as goal

abbrev pub invariant-loop-low : goal.invariant-loop-low
invariant-loop-low l = record {
  inside : l.high ≤ length l.held;
  ordered : l.low ≤ l.high;
  below : (k : ℕ) (d : Held) → k < l.low → (get_or l.held k d).slot < l.slot;
  above : (k : ℕ) (d : Held) → l.high ≤ k → k < length l.held → l.slot < (get_or l.held k d).slot;
}

abbrev pub decreases-loop-low : goal.decreases-loop-low
decreases-loop-low l = l.high - l.low
