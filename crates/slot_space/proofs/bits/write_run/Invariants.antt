use Rattle.std.proofs.Common.{◌≡◌, ℕ, ◌-◌, cond}
use Rattle.slot_space.specs.Sets.{has, run}
use Rattle.slot_space.specs.Words.{bit_of, AreWords}
use Rattle.slot_space.proofs.bits.write_run.Given as goal

abbrev pub invariant-loop-s : goal.invariant-loop-s
invariant-loop-s l = record { words : AreWords l.words; bits : (k : ℕ) → bit_of l.words k ≡ cond (has k (run l.first (l.s - l.first))) l.bit (bit_of l.initial.words k) }
