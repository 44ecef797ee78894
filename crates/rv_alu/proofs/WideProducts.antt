-- Products of 64-bit numbers, which 128 bits hold.
use Rattle.std.proofs.Common.{◌≡◌, ℕ, ◌-◌, ◌*◌, ◌^◌, ◌<◌, ◌≤◌, ℤ, pos, ◌*ℤ◌, FitsSigned, w64, to_z, of_z, lt_of_le_of_lt, mul-le-mul, arith}
use Rattle.std.specs.Prelude.{negsuc, unsigned_abs}
use Rattle.std.specs.Int.{w128}
use Rattle.std.proofs.lemmas.Int.{to_z-of_z, to_z_pos, unsigned_abs-mul, fits_signed_mul, fits_signed_from_abs}

-- a 64-bit number in 128 bits
pub small : (x : ℤ) → FitsSigned w64 x → unsigned_abs x ≤ 2 ^ 63
small (pos n) f = omega (arith, f.sfits)
small (negsuc n) f = omega (arith, f.sfits)

pub widened : (x : ℤ) → FitsSigned w64 x → to_z w128 (of_z w128 (to_z w64 (of_z w64 x))) ≡ x
widened x f = rw (to_z-of_z w64 x f) (to_z-of_z w128 x (fits_signed_from_abs w128 x (omega (arith, small x f))))

pub widened_unsigned : (y : ℕ) → y < 2 ^ 64 → to_z w128 y ≡ pos y
widened_unsigned y below = to_z_pos w128 y (omega (arith, below))

pub held : (x y : ℤ) (n : ℕ) → FitsSigned w64 x → unsigned_abs y ≤ n → 2 ^ 63 * n < 2 ^ 127 → to_z w128 (of_z w128 (x *ℤ y)) ≡ x *ℤ y
held x y n f below room = to_z-of_z w128 (x *ℤ y) (fits_signed_mul w128 x y (2 ^ 63) n (small x f) below room)

pub bounded : (x y : ℤ) (n : ℕ) → FitsSigned w64 x → unsigned_abs y ≤ n → 2 ^ 63 * n < 2 ^ 127 → unsigned_abs (x *ℤ y) < 2 ^ 127
bounded x y n f below room = rw (unsigned_abs-mul x y) (lt_of_le_of_lt (mul-le-mul (small x f) below) room)

pub signed_value : (x y : ℤ) → FitsSigned w64 x → FitsSigned w64 y
    → to_z w128 (of_z w128 (to_z w128 (of_z w128 (to_z w64 (of_z w64 x))) *ℤ to_z w128 (of_z w128 (to_z w64 (of_z w64 y))))) ≡ x *ℤ y
signed_value x y f g = rw (widened x f, widened y g) (held x y (2 ^ 63) f (small y g) (omega arith))

pub mixed_value : (x : ℤ) (y : ℕ) → FitsSigned w64 x → y < 2 ^ 64 → to_z w128 (of_z w128 (to_z w128 (of_z w128 (to_z w64 (of_z w64 x))) *ℤ to_z w128 y)) ≡ x *ℤ pos y
mixed_value x y f below = rw (widened x f, widened_unsigned y below) (held x (pos y) (2 ^ 64 - 1) f (omega (arith, below)) (omega arith))

pub signed_bound : (x y : ℤ) → FitsSigned w64 x → FitsSigned w64 y → unsigned_abs (x *ℤ y) < 2 ^ 127
signed_bound x y f g = bounded x y (2 ^ 63) f (small y g) (omega arith)

pub mixed_bound : (x : ℤ) (y : ℕ) → FitsSigned w64 x → y < 2 ^ 64 → unsigned_abs (x *ℤ pos y) < 2 ^ 127
mixed_bound x y f below = bounded x (pos y) (2 ^ 64 - 1) f (omega (arith, below)) (omega arith)
