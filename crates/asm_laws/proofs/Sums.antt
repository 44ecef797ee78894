-- The sums behind the expansions.
use Rattle.std.proofs.Common.{◌≡◌, ℕ, ◌+◌, ◌-◌, ◌*◌, ◌%◌, ◌^◌, ◌<◌, true, arith}
use Rattle.std.specs.Prelude.{if◌then◌else◌, nat_lt}
use Rattle.std.specs.Int.{cast_unsigned, w64}
use Rattle.std.proofs.lemmas.Bool.Decides.{nat_tests}
use Rattle.rv_alu.specs.Alu.{plus, extended}
use Rattle.rv_inst.specs.Format.{low_twelve}
use Rattle.asm_targets.specs.Expansions.{fits_signed, high, shifted, distance}

-- the low part's 64 bits
low_bits : (n : ℕ) → cast_unsigned w64 (low_twelve n) ≡ (if nat_lt (n % 2 ^ 12) (2 ^ 11) then n % 2 ^ 12 else 2 ^ 64 - 2 ^ 12 + n % 2 ^ 12)
low_bits n = grind (arith, nat_tests)

pub low_alone : (n : ℕ) → n < 2 ^ 64 → fits_signed 11 n ≡ true → plus 0 (cast_unsigned w64 (low_twelve n)) ≡ n
low_alone n h e = grind (arith, nat_tests, low_bits)

pub low_onto : (n : ℕ) → n < 2 ^ 64 → plus ((shifted n * 2 ^ 12) % 2 ^ 64) (cast_unsigned w64 (low_twelve n)) ≡ n
low_onto n h = grind (arith, nat_tests, low_bits)

pub low_onto_high : (n : ℕ) → n < 2 ^ 64 → fits_signed 31 n ≡ true
    → extended ((extended (high n * 2 ^ 12) + cast_unsigned w64 (low_twelve n)) % 2 ^ 32) ≡ n
low_onto_high n h e = grind (arith, nat_tests, low_bits)

pub shifted_fits : (n : ℕ) → shifted n < 2 ^ 64
shifted_fits n = grind (arith, nat_tests)

pub shifted_once : (n : ℕ) → fits_signed 51 (shifted n) ≡ true
shifted_once n = grind (arith, nat_tests)

pub shifted_twice : (n : ℕ) → n < 2 ^ 64 → fits_signed 51 n ≡ true → fits_signed 40 (shifted n) ≡ true
shifted_twice n h e = grind (arith, nat_tests)

pub shifted_thrice : (n : ℕ) → n < 2 ^ 64 → fits_signed 40 n ≡ true → fits_signed 31 (shifted n) ≡ true
shifted_thrice n h e = grind (arith, nat_tests)

pub low_onto_place : (at target : ℕ) → at < 2 ^ 30 → target < 2 ^ 30
    → plus (plus at (extended (high (distance at target) * 2 ^ 12))) (cast_unsigned w64 (low_twelve (distance at target))) ≡ target
low_onto_place at target h g = grind (arith, nat_tests, low_bits)
