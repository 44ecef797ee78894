-- The zeros of a raw block are those of a new slot.
use Rattle.std.proofs.Common.{◌≡◌, ℕ, refl}
use Rattle.raw_slots.specs.Zeros.{zeros}
use Rattle.run_trace.specs.Guests.{zeros_of}

pub zeros_are : (n : ℕ) → zeros n ≡ zeros_of n
unfolding zeros zeros_of
zeros_are n = refl
