-- The upper half of a product.
use Rattle.std.proofs.Common.{◌≡◌, ◌^◌, ℤ, pos, refl}
use Rattle.std.specs.Prelude.{negsuc}
use Rattle.std.specs.Int.{int_div_euclid, int_shr}

-- a shift by 64 places divides by 2 ^ 64
pub shifted : (z : ℤ) → int_shr z 64 ≡ int_div_euclid z (pos (2 ^ 64))
shifted (pos n) = refl
shifted (negsuc n) = refl
