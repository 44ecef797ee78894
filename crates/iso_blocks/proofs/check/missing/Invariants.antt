use Rattle.std.proofs.Common.{◌≡◌, ℕ, ◌<◌, ◌≤◌, true}
use Rattle.slot_space.specs.Sets.{has}
use Rattle.iso_blocks.proofs.check.missing.Given as goal

abbrev pub invariant-loop-slot : goal.invariant-loop-slot
invariant-loop-slot l = (s : ℕ) → l.first ≤ s → s < l.slot → has s l.slots ≡ true
