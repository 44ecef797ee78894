use Rattle.std.proofs.Common.{◌≡◌, ℕ, ◌*◌, ◌<◌, true, false}
use Rattle.slot_space.specs.Words.{bit_of}
use Rattle.slot_space.proofs.bits.have_common.Given as goal

abbrev pub invariant-loop-i : goal.invariant-loop-i
invariant-loop-i l = (s : ℕ) → s < 64 * l.i → bit_of l.words s ≡ true → bit_of l.others s ≡ false
