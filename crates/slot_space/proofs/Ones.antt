-- Ones in a row in one word.
use Rattle.std.proofs.Common.{◌≡◌, ℕ, ◌+◌, ◌-◌, ◌*◌, ◌/◌, ◌%◌, ◌^◌, ◌<◌, ◌≤◌, suc, ap, ◌∙◌, inl, inr, arith, shr-shr, pow_pos, pow_mono, div-lt_iff_lt-mul, le-div_iff_mul-le}
use Rattle.std.specs.Prelude.{bit_and}
use Rattle.std.specs.Int.{bit_at}
use Rattle.std.proofs.Math.Nat.{two-pow-succ, div-eq_of_lt}
use Rattle.std.proofs.lemmas.Bool.{cases_lt}
use Rattle.std.proofs.lemmas.Nat.Bits.{bit_at_and, bit_at-lt}
use Rattle.slot_space.specs.Words.{AreOnes}

-- the highest bit that is set, and the bits above it
pub bit_at_top : (m k : ℕ) → 2 ^ k ≤ m → m < 2 * 2 ^ k → bit_at m k ≡ 1
bit_at_top m k low high =
    let p = pow_pos k in
    let a : m / 2 ^ k < 2 = (div-lt_iff_lt-mul p).1 high in
    let b : 1 ≤ m / 2 ^ k = (le-div_iff_mul-le p).1 (omega arith) in
    omega arith

pub bit_above_top : (m j k : ℕ) → m < 2 * 2 ^ j → j < k → bit_at m k ≡ 0
bit_above_top m j k high l =
    let a : m < 2 ^ k = omega (arith, two-pow-succ j, pow_mono {i = suc j} {j = k} (omega arith)) in
    ap (λ x. x % 2) (div-eq_of_lt a)

pub bit_at-shr : (m by k : ℕ) → bit_at (m / 2 ^ by) k ≡ bit_at m (by + k)
bit_at-shr m by k = ap (λ x. x % 2) (shr-shr m by k)

-- the starts of the ones are exactly these bits
pub record AreStarts (word count starts : ℕ) : Type 0 where
  pub only : (k : ℕ) → bit_at starts k ≡ 1 → AreOnes word k count
  pub all : (k : ℕ) → AreOnes word k count → bit_at starts k ≡ 1

pub starts_one : (word : ℕ) → AreStarts word 1 word
starts_one word = record {
  only = λ k h u l. ap (bit_at word) (omega arith) ∙ h;
  all = λ k h. ap (bit_at word) (omega arith) ∙ h 0 (omega arith);
}

-- ones that start here and not too far on are more ones
pub starts_more : (word known step starts : ℕ) → step ≤ known → AreStarts word known starts → AreStarts word (known + step) (bit_and starts (starts / 2 ^ step))
starts_more word known step starts le old = record {
  only = λ k h u l.
      let here : bit_at starts k ≡ 1 = omega (arith, bit_at_and starts (starts / 2 ^ step) k, bit_at-lt starts k, bit_at-lt (starts / 2 ^ step) k) in
      let there : bit_at starts (step + k) ≡ 1 = omega (arith, bit_at-shr starts step k, bit_at_and starts (starts / 2 ^ step) k, bit_at-lt starts k, bit_at-lt (starts / 2 ^ step) k) in
      elim (cases_lt u known) [
        | inl low ↦ old.only k here u low
        | inr high ↦ let e : k + u ≡ step + k + (u - step) = omega arith in ap (bit_at word) e ∙ old.only (step + k) there (u - step) (omega arith)
      ];
  all = λ k h.
      let here : bit_at starts k ≡ 1 = old.all k (λ u l. h u (omega arith)) in
      let there : bit_at starts (step + k) ≡ 1 = old.all (step + k) (λ u l. let e : step + k + u ≡ k + (step + u) = omega arith in ap (bit_at word) e ∙ h (step + u) (omega arith)) in
      omega (arith, bit_at-shr starts step k, bit_at_and starts (starts / 2 ^ step) k);
}
