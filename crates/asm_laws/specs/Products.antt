-- Products and quotients of whole numbers.
use Rattle.std.specs.Prelude.{ℕ, ◌^◌, ◌≡◌, ℤ, pos, ◌+ℤ◌, ◌*ℤ◌}

-- the upper half of 64 bits and the lower one together are the product
abbrev pub Halves : ℤ → ℕ → ℤ → Type 0
Halves upper lower product = upper *ℤ pos (2 ^ 64) +ℤ pos lower ≡ product

-- the quotient times the divisor, with the remainder, is the dividend
abbrev pub Divides : (dividend divisor quotient remainder : ℤ) → Type 0
Divides dividend divisor quotient remainder = quotient *ℤ divisor +ℤ remainder ≡ dividend
