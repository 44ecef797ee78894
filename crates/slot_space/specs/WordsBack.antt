-- The words are given back by the set that they mean: what lets a set be copied and compared. It stands here since the type's own impl cites it.
use Rattle.std.proofs.Common.{◌≡◌, ℕ, ◌+◌, ◌*◌, ◌/◌, ◌%◌, ◌^◌, ◌<◌, ◌≤◌, zero, suc, List, [], ◌∷◌, Bool, true, false, eqb, cond, refl, sym, ap, ◌∙◌, arith, length, get_or, ext_get_or}
use Rattle.std.specs.Prelude.{nat_lt}
use Rattle.std.specs.List.{filter}
use Rattle.std.specs.Int.{bit_at}
use Rattle.std.proofs.lemmas.List.{length-map, get_or-map, get_or_past}
use Rattle.std.proofs.lemmas.Bool.{eqb-true, eqb-false}
use Rattle.std.proofs.lemmas.Nat.Bits.{bit_at-suc, bit_at_lowest, bit_at-zero, same_from_bits_below}
use Rattle.std.proofs.Math.Nat.{pow-suc}
use Rattle.slot_space.specs.Sets.{has, run}
use Rattle.slot_space.specs.Words.{bit_of, members, number_of, words_of, AreSlotWords}

pub has-filter : (p : ℕ → Bool) (s : ℕ) (xs : List ℕ) → has s (filter p xs) ≡ cond (p s) (has s xs) false
has-filter p s [] = elim (p s) as (λ v. false ≡ cond v false false) [ true ↦ refl | false ↦ refl ]
has-filter p s (x ∷ xs) = grind (arith, has-filter p s xs, eqb-true x s)

-- the members of a run
pub has-run : (s first count : ℕ) → has s (run first count) ≡ cond (nat_lt s first) false (nat_lt s (first + count))
unfolding run
has-run s first zero = grind arith
has-run s first (suc count) = grind (arith, has-run s (suc first) count, eqb-true first s, eqb-false first s)

-- no bit stands past the words
pub bit_past : (words : List ℕ) (s : ℕ) → 64 * length words ≤ s → bit_of words s ≡ false
unfolding bit_of
bit_past words s h =
    let past : length words ≤ s / 64 = omega arith in
    ap (λ w. eqb (bit_at w (s % 64)) 1) (get_or_past words (s / 64) 0 past) ∙ ap (λ b. eqb b 1) (bit_at-zero (s % 64))

-- a member is a bit that is set
pub has-members : (words : List ℕ) (s : ℕ) → has s (members words) ≡ bit_of words s
unfolding members
has-members words s = grind (arith, has-filter (bit_of words) s (run 0 (64 * length words)), has-run s 0 (64 * length words), bit_past words s)

pub number_of-lt : (bits : ℕ → Bool) (n : ℕ) → number_of bits n < 2 ^ n
unfolding number_of
number_of-lt bits zero = omega arith
number_of-lt bits (suc n) = elim (bits 0) as (λ o. cond o 1 0 + 2 * number_of (λ i. bits (suc i)) n < 2 ^ suc n) [
  | true ↦ omega (arith, number_of-lt (λ i. bits (suc i)) n, pow-suc 2 n)
  | false ↦ omega (arith, number_of-lt (λ i. bits (suc i)) n, pow-suc 2 n)
]

pub bit_at-number_of : (bits : ℕ → Bool) (n i : ℕ) → i < n → bit_at (number_of bits n) i ≡ cond (bits i) 1 0
unfolding number_of
bit_at-number_of bits zero i h = absurd (omega arith)
bit_at-number_of bits (suc n) zero h = bit_at_lowest _ ∙ elim (bits 0) as (λ o. (cond o 1 0 + 2 * number_of (λ i. bits (suc i)) n) % 2 ≡ cond o 1 0) [ true ↦ omega arith | false ↦ omega arith ]
bit_at-number_of bits (suc n) (suc i) h =
    let half : (cond (bits 0) 1 0 + 2 * number_of (λ i. bits (suc i)) n) / 2 ≡ number_of (λ i. bits (suc i)) n =
    elim (bits 0) as (λ o. (cond o 1 0 + 2 * number_of (λ i. bits (suc i)) n) / 2 ≡ number_of (λ i. bits (suc i)) n) [ true ↦ omega arith | false ↦ omega arith ] in
    bit_at-suc _ i ∙ ap (λ x. bit_at x i) half ∙ bit_at-number_of (λ i. bits (suc i)) n i (omega arith)

length-run : (first n : ℕ) → length (run first n) ≡ n
unfolding run
length-run first zero = refl
length-run first (suc n) = ap suc (length-run (suc first) n)

get_or-run : (first n k d : ℕ) → k < n → get_or (run first n) k d ≡ first + k
unfolding run
get_or-run first zero k d h = absurd (omega arith)
get_or-run first (suc n) zero d h = omega arith
get_or-run first (suc n) (suc k) d h = omega (arith, get_or-run (suc first) n k d (omega arith))

flag : (b : Bool) (x : ℕ) → x < 2 → eqb x 1 ≡ b → cond b 1 0 ≡ x
flag true x h e = grind (arith, e, h, eqb-true x 1)
flag false x h e = grind (arith, e, h, eqb-false x 1)

word_back : (words : List ℕ) (i : ℕ) → get_or words i 0 < 2 ^ 64 → number_of (λ b. has (64 * i + b) (members words)) 64 ≡ get_or words i 0
unfolding bit_of
word_back words i fit = same_from_bits_below 64 _ _ (number_of-lt (λ b. has (64 * i + b) (members words)) 64) fit
    (λ b low.
    let place : (64 * i + b) / 64 ≡ i = omega arith in
    let within : (64 * i + b) % 64 ≡ b = omega arith in
    let e : has (64 * i + b) (members words) ≡ eqb (bit_at (get_or words i 0) b) 1 = has-members words (64 * i + b) ∙ rw (place, within) refl in
    bit_at-number_of (λ b. has (64 * i + b) (members words)) 64 b low ∙ flag _ _ (omega arith) (sym e))

pub words_of-members : (words : List ℕ) (n : ℕ) → length words ≡ n → ((i : ℕ) → get_or words i 0 < 2 ^ 64) → words_of n (members words) ≡ words
unfolding words_of
words_of-members words n len fit = ext_get_or 0 _ _ (length-map (run 0 n) _ ∙ length-run 0 n ∙ sym len)
    (λ k h.
    let within : k < n = omega (arith, h, length-map (run 0 n) (λ i. number_of (λ b. has (64 * i + b) (members words)) 64), length-run 0 n) in
    get_or-map (λ i. number_of (λ b. has (64 * i + b) (members words)) 64) (run 0 n) k 0 0 (omega (arith, length-run 0 n))
    ∙ ap (λ i. number_of (λ b. has (64 * i + b) (members words)) 64) (get_or-run 0 n k 0 within ∙ zero_first k)
    ∙ word_back words k (fit k))
  where
    zero_first : (k : ℕ) → 0 + k ≡ k
    zero_first k = omega arith

-- the same for a struct around the words
pub words_back : {S : Type 0} (words : List ℕ) → AreSlotWords words → (f : List ℕ → S) → f (words_of 64 (members words)) ≡ f words
words_back words h f = ap f (words_of-members words 64 h.len h.fit)
