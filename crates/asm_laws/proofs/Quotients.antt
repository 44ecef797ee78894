-- Quotients and remainders of whole numbers that fit their bits, over the width of these.
use Rattle.std.proofs.Common.{◌≡◌, ℕ, ◌<◌, ◌≤◌, ◌-◌, ◌*◌, ◌/◌, ◌%◌, ◌^◌, ℤ, pos, refl, sym, ap, ◌∙◌, arith, FitsSigned, w64, div-le_self, inl, inr}
use Rattle.std.specs.Prelude.{negsuc, zero, suc, int_div, int_rem, unsigned_abs, ◌≢◌, ◌⊎◌, neg_ℤ, ◌==◌, false}
use Rattle.std.specs.Int.{Width, w8, w16, w32, w128, cast_signed, cast_unsigned}
use mir.Val.{bits, hbits}
use Rattle.std.proofs.lemmas.Int.{to_z-of_z, of_z-to_z, quot-rem}
use Rattle.std.proofs.lemmas.Bool.Decides.{nat_tests}
use Rattle.std.proofs.lemmas.Nat.{pow_pos}
use Rattle.std.proofs.Math.Nat.{div-lt_iff_lt-mul, mod-le, mul-le-mul_left}
use Rattle.std.proofs.Math.Facts.{sfits_to_z}
use Rattle.rv_inst.specs.declared.inst.RegOp.TheVariants as ops
use Rattle.rv_alu.specs.Alu.{whole, whole_w, low, extended, reg_value}
use Rattle.asm_laws.specs.Products.{Divides}

-- half of the numbers of a width are negative
half : (w : Width) → 2 ^ bits w ≡ 2 * 2 ^ hbits w
half w8 = refl
half w16 = refl
half w32 = refl
half w64 = refl
half w128 = refl

module _ (w : Width) where
  neg_fits : (n : ℕ) → n ≤ 2 ^ hbits w → FitsSigned w (neg_ℤ (pos n))
  neg_fits zero p = record { sfits = pow_pos (hbits w) }
  neg_fits (suc n) p = record { sfits = omega (arith, p) }

  below : (a : ℕ) → a < 2 ^ hbits w → (a ≢ 2 ^ hbits w - 1) → suc a / 1 < 2 ^ hbits w
  below a f p = omega (arith, p, f)

  -- only the least number by -1 has a quotient that doesn't fit
  quotient_fits : (a d : ℤ) → FitsSigned w a → (a ≢ negsuc (2 ^ hbits w - 1)) ⊎ (d ≢ negsuc 0) → FitsSigned w (int_div a d)
  quotient_fits (pos a) (pos b) f h = record { sfits = omega (arith, div-le_self a b, f.sfits) }
  quotient_fits (pos a) (negsuc b) f h = neg_fits (a / suc b) (omega (arith, div-le_self a (suc b), f.sfits))
  quotient_fits (negsuc a) (pos b) f h = neg_fits (suc a / b) (omega (arith, div-le_self (suc a) b, f.sfits))
  quotient_fits (negsuc a) (negsuc zero) f (inl p) = record { sfits = below a f.sfits (λ e. p (ap negsuc e)) }
  quotient_fits (negsuc a) (negsuc zero) f (inr p) = absurd (p refl)
  quotient_fits (negsuc a) (negsuc (suc b)) f h =
      let wide : 2 ^ hbits w * 1 ≤ 2 ^ hbits w * suc b = mul-le-mul_left (2 ^ hbits w) (omega arith) in
      record { sfits = (div-lt_iff_lt-mul {k = suc (suc b)} {x = suc a} {y = 2 ^ hbits w} (omega arith)).1 (omega (arith, pow_pos (hbits w), f.sfits, wide)) }

  remainder_fits : (a d : ℤ) → FitsSigned w a → FitsSigned w (int_rem a d)
  remainder_fits (pos a) d f = record { sfits = omega (arith, mod-le a (unsigned_abs d), f.sfits) }
  remainder_fits (negsuc a) d f = neg_fits (suc a % unsigned_abs d) (omega (arith, mod-le (suc a) (unsigned_abs d), f.sfits))

  -- the bits of the least number and of -1, told by their numbers
  least_bits : (n : ℕ) → n < 2 ^ bits w → cast_signed w n ≡ negsuc (2 ^ hbits w - 1) → n ≡ 2 ^ hbits w
  least_bits n p e = sym (of_z-to_z w n p) ∙ ap (cast_unsigned w) e ∙ omega (arith, half w, pow_pos (hbits w))

  minus_bits : (n : ℕ) → n < 2 ^ bits w → cast_signed w n ≡ negsuc 0 → n ≡ 2 ^ bits w - 1
  minus_bits n p e = sym (of_z-to_z w n p) ∙ ap (cast_unsigned w) e

  -- bits that are read as whole numbers, of which one is divided by the other
  record Divided (n m : ℕ) : Type 0 where
    quotient : FitsSigned w (int_div (cast_signed w n) (cast_signed w m))
    remainder : FitsSigned w (int_rem (cast_signed w n) (cast_signed w m))

  divided : (n m : ℕ) → n < 2 ^ bits w → m < 2 ^ bits w → (n ≢ 2 ^ hbits w) ⊎ (m ≢ 2 ^ bits w - 1) → Divided n m
  divided n m p q h = record { quotient = by h; remainder = remainder_fits (cast_signed w n) (cast_signed w m) fits }
    where
      fits : FitsSigned w (cast_signed w n)
      fits = sfits_to_z {w = w} {n = n} (record { fits = p })

      by : (n ≢ 2 ^ hbits w) ⊎ (m ≢ 2 ^ bits w - 1) → FitsSigned w (int_div (cast_signed w n) (cast_signed w m))
      by (inl k) = quotient_fits (cast_signed w n) (cast_signed w m) fits (inl (λ e. k (least_bits n p e)))
      by (inr k) = quotient_fits (cast_signed w n) (cast_signed w m) fits (inr (λ e. k (minus_bits m q e)))

tested : (n : ℕ) → n ≢ 0 → (n == 0) ≡ false
tested n p = grind (arith, nat_tests)

pub quotients : (x y : ℕ) → x < 2 ^ 64 → y < 2 ^ 64 → y ≢ 0 → (x ≢ 2 ^ 63) ⊎ (y ≢ 2 ^ 64 - 1)
    → Divides (whole x) (whole y) (whole (reg_value ops.Div x y)) (whole (reg_value ops.Rem x y))
quotients x y p q h n =
    let k : Divided w64 x y = divided w64 x y p q n in
    rw (tested y h) (rw (to_z-of_z w64 _ k.quotient) (rw (to_z-of_z w64 _ k.remainder) (quot-rem (whole x) (whole y))))

-- 32 bits of a whole number, sign-extended, are its 64
word_again : (z : ℤ) → FitsSigned w32 z → whole (extended (cast_unsigned w32 z)) ≡ z
word_again z f = rw (to_z-of_z w32 z f) (to_z-of_z w64 z (record { sfits = omega (arith, f.sfits) }))

pub quotients_w : (x y : ℕ) → low y ≢ 0 → (low x ≢ 2 ^ 31) ⊎ (low y ≢ 2 ^ 32 - 1)
    → Divides (whole_w x) (whole_w y) (whole (reg_value ops.Divw x y)) (whole (reg_value ops.Remw x y))
quotients_w x y h n =
    let k : Divided w32 (low x) (low y) = divided w32 (low x) (low y) (omega arith) (omega arith) n in
    rw (tested (low y) h) (rw (word_again _ k.quotient) (rw (word_again _ k.remainder) (quot-rem (whole_w x) (whole_w y))))
