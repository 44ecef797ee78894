-- Halves of products.
use Rattle.std.proofs.Common.{◌≡◌, ℕ, ◌<◌, ◌≤◌, ◌+◌, ◌-◌, ◌*◌, ◌%◌, ◌^◌, ℤ, pos, refl, sym, ap, ◌∙◌, arith, FitsSigned, w64, inl, inr, ◌⊎◌}
use Rattle.std.specs.Prelude.{negsuc, zero, suc, unsigned_abs, ◌+ℤ◌, ◌*ℤ◌, neg_ℤ}
use Rattle.std.specs.Int.{int_div_euclid}
use Rattle.std.proofs.lemmas.Bool.Decides.{nat_tests}
use Rattle.std.proofs.lemmas.Int.{to_z-of_z, ints, unsigned_abs-mul}
use Rattle.std.proofs.Math.Nat.{add-mul, mul-add, add_comm, mul_comm, mul-le-mul}
use Rattle.std.proofs.lemmas.Bool.{cases_lt}
use Rattle.rv_inst.specs.declared.inst.RegOp.TheVariants as ops
use Rattle.rv_alu.specs.Alu.{upper, whole, reg_value}
use Rattle.asm_laws.specs.Products.{Halves}

-- the bits of a whole number below 2 ^ 64
abbrev pub lower : ℤ → ℕ
lower (pos n) = n % 2 ^ 64
lower (negsuc n) = 2 ^ 64 - 1 - n % 2 ^ 64

upper_fits : (z : ℤ) → unsigned_abs z < 2 ^ 127 → FitsSigned w64 (int_div_euclid z (pos (2 ^ 64)))
upper_fits (pos n) h = record { sfits = omega arith }
upper_fits (negsuc n) h = record { sfits = omega arith }

halves : (z : ℤ) → int_div_euclid z (pos (2 ^ 64)) *ℤ pos (2 ^ 64) +ℤ pos (lower z) ≡ z
halves (pos n) = omega (arith, ints)
halves (negsuc n) = omega (arith, ints)

pub together : (z : ℤ) (l : ℕ) → unsigned_abs z < 2 ^ 127 → l ≡ lower z → whole (upper z) *ℤ pos (2 ^ 64) +ℤ pos l ≡ z
together z l h e = rw (to_z-of_z w64 _ (upper_fits z h)) (rw e (halves z))

-- products of numbers that differ by multiples of 2 ^ 64 have the same bits
same : (n m s j k : ℕ) → n + s ≡ j * 2 ^ 64 → m + s ≡ k * 2 ^ 64 → n % 2 ^ 64 ≡ m % 2 ^ 64
same n m s j k p q = omega arith

opposite : (n m k : ℕ) → n + m ≡ k * 2 ^ 64 → lower (neg_ℤ (pos n)) ≡ m % 2 ^ 64
opposite zero m k p = omega arith
opposite (suc n) m k p = omega arith

below : (a b c : ℕ) → a + c ≡ 2 ^ 64 → c * b + a * b ≡ b * 2 ^ 64
below a b c e = sym (add-mul c a b) ∙ ap (λ k. k * b) (add_comm c a ∙ e) ∙ mul_comm (2 ^ 64) b

whole_pos : (x : ℕ) → x < 2 ^ 63 → whole x ≡ pos x
whole_pos x h = grind (arith, nat_tests)

whole_neg : (x : ℕ) → 2 ^ 63 ≤ x → x < 2 ^ 64 → whole x ≡ negsuc (2 ^ 64 - 1 - x)
whole_neg x h p = grind (arith, nat_tests)

above : (a b d : ℕ) → b + d ≡ 2 ^ 64 → a * d + a * b ≡ a * 2 ^ 64
above a b d e = sym (mul-add a d b) ∙ ap (λ k. a * k) (add_comm d b ∙ e)

both : (a b c d : ℕ) → a + c ≡ 2 ^ 64 → b + d ≡ 2 ^ 64 → (c * d) % 2 ^ 64 ≡ (a * b) % 2 ^ 64
both a b c d p q = same (c * d) (a * b) (a * d) d a (below a d c p) (add_comm (a * b) (a * d) ∙ above a b d q)

-- the low bits of a product don't depend on how its numbers are read
signed_by : (x y : ℕ) → x < 2 ^ 64 → y < 2 ^ 64 → (x < 2 ^ 63) ⊎ (2 ^ 63 ≤ x) → (y < 2 ^ 63) ⊎ (2 ^ 63 ≤ y) → reg_value ops.Mul x y ≡ lower (whole x *ℤ whole y)
signed_by x y p q (inl a) (inl b) = rw (whole_pos x a) (rw (whole_pos y b) refl)
signed_by x y p q (inl a) (inr b) = rw (whole_pos x a) (rw (whole_neg y b q)
    (sym (opposite (x * suc (2 ^ 64 - 1 - y)) (x * y) x (above x y (suc (2 ^ 64 - 1 - y)) (omega arith)))))
signed_by x y p q (inr a) (inl b) = rw (whole_neg x a p) (rw (whole_pos y b)
    (sym (opposite (suc (2 ^ 64 - 1 - x) * y) (x * y) y (below x y (suc (2 ^ 64 - 1 - x)) (omega arith)))))
signed_by x y p q (inr a) (inr b) = rw (whole_neg x a p) (rw (whole_neg y b q)
    (sym (both x y (suc (2 ^ 64 - 1 - x)) (suc (2 ^ 64 - 1 - y)) (omega arith) (omega arith))))

mixed_by : (x y : ℕ) → x < 2 ^ 64 → (x < 2 ^ 63) ⊎ (2 ^ 63 ≤ x) → reg_value ops.Mul x y ≡ lower (whole x *ℤ pos y)
mixed_by x y p (inl a) = rw (whole_pos x a) refl
mixed_by x y p (inr a) = rw (whole_neg x a p)
    (sym (opposite (suc (2 ^ 64 - 1 - x) * y) (x * y) y (below x y (suc (2 ^ 64 - 1 - x)) (omega arith))))

whole_size : (x : ℕ) → x < 2 ^ 64 → unsigned_abs (whole x) ≤ 2 ^ 63
whole_size x p = grind (arith, nat_tests)

size : (a b : ℤ) (m n : ℕ) → unsigned_abs a ≤ m → unsigned_abs b ≤ n → m * n < 2 ^ 127 → unsigned_abs (a *ℤ b) < 2 ^ 127
size a b m n p q r = omega (arith, unsigned_abs-mul a b, mul-le-mul p q)

pub halves_signed : (x y : ℕ) → x < 2 ^ 64 → y < 2 ^ 64 → Halves (whole (reg_value ops.Mulh x y)) (reg_value ops.Mul x y) (whole x *ℤ whole y)
halves_signed x y p q = together (whole x *ℤ whole y) (reg_value ops.Mul x y)
    (size (whole x) (whole y) (2 ^ 63) (2 ^ 63) (whole_size x p) (whole_size y q) (omega arith))
    (signed_by x y p q (cases_lt x (2 ^ 63)) (cases_lt y (2 ^ 63)))

pub halves_mixed : (x y : ℕ) → x < 2 ^ 64 → y < 2 ^ 64 → Halves (whole (reg_value ops.Mulhsu x y)) (reg_value ops.Mul x y) (whole x *ℤ pos y)
halves_mixed x y p q = together (whole x *ℤ pos y) (reg_value ops.Mul x y)
    (size (whole x) (pos y) (2 ^ 63) (2 ^ 64 - 1) (whole_size x p) (omega arith) (omega arith))
    (mixed_by x y p (cases_lt x (2 ^ 63)))
