-- A set of small numbers as the bits of a row of words.
use Rattle.std.specs.Prelude.{◌≡◌, ℕ, ◌+◌, ◌*◌, ◌/◌, ◌%◌, ◌^◌, ◌<◌, ◌≤◌, zero, suc, Bool, true, false, Option, Some, None, List, length, map, ◌==◌, if◌then◌else◌, slice_index}
use Rattle.std.specs.List.{filter}
use Rattle.std.specs.Int.{bit_at}
use Rattle.slot_space.specs.Limits.{slot_limit}
use Rattle.slot_space.specs.Sets.{has, run, has_run}
use Rattle.slot_space.specs.declared.bits.Step.{Step}
use Rattle.slot_space.specs.declared.bits.Step.TheVariants.{Found, From}

-- bit s, counted from the lowest bit of the first word
unfoldable pub bit_of : List ℕ → ℕ → Bool
bit_of words s = bit_at (slice_index words (s / 64)) (s % 64) == 1

-- the places of the bits that are set, ascending
unfoldable pub members : List ℕ → List ℕ
members words = filter (bit_of words) (run 0 (64 * length words))

-- the number with these lowest bits
unfoldable pub number_of : (ℕ → Bool) → ℕ → ℕ
number_of bits zero = 0
number_of bits (suc n) = (if bits 0 then 1 else 0) + 2 * number_of (λ i. bits (suc i)) n

-- the row of n words that has these members
unfoldable pub words_of : ℕ → List ℕ → List ℕ
words_of n xs = map (λ i. number_of (λ b. has (64 * i + b) xs) 64) (run 0 n)

-- each is a word of 64 bits
abbrev pub AreWords : List ℕ → Type 0
AreWords words = (i : ℕ) → slice_index words i < 2 ^ 64

-- 64 words of 64 bits
pub record AreSlotWords (words : List ℕ) : Type 0 where
  pub len : length words ≡ 64
  pub fit : AreWords words

-- the bits of the word from k to k + count - 1 are set
abbrev pub AreOnes : ℕ → ℕ → ℕ → Type 0
AreOnes word k count = (u : ℕ) → u < count → bit_at word (k + u) ≡ 1

-- `count` consecutive ones begin nowhere below the limit
abbrev pub NoOnes : ℕ → ℕ → ℕ → Type 0
NoOnes word count limit = (k : ℕ) → k < limit → AreOnes word k count → ⊥

-- the flag says whether some number is in both sets
abbrev pub HasCommon : (ℕ → Bool) → (ℕ → Bool) → Bool → Type 0
HasCommon set other true = (s : ℕ) × (set s ≡ true) × (other s ≡ true)
HasCommon set other false = (s : ℕ) → set s ≡ true → other s ≡ false

-- no number from `from` on and below `to` is in the set
abbrev pub HasNoneBetween : (ℕ → Bool) → ℕ → ℕ → Type 0
HasNoneBetween set from to = (s : ℕ) → from ≤ s → s < to → set s ≡ false

-- the answer is the first number from `from` on that is in a set of slots
abbrev pub IsFirstFrom : (ℕ → Bool) → ℕ → Option ℕ → Type 0
IsFirstFrom set from None = HasNoneBetween set from slot_limit
IsFirstFrom set from (Some s) = (from ≤ s) × (s < slot_limit) × (set s ≡ true) × HasNoneBetween set from s

-- no run starts below `start`, and all from there to `place` are in the set, fewer than the count
pub record SearchedTo (set : ℕ → Bool) (count place start : ℕ) : Type 0 where
  pub within : start ≤ place
  pub short : place < start + count
  pub tail : (k : ℕ) → start ≤ k → k < place → set k ≡ true
  pub none : (k : ℕ) → k < start → has_run set k count ≡ false

-- the lowest run starts here
pub record IsLowestStart (set : ℕ → Bool) (count start : ℕ) : Type 0 where
  pub run : has_run set start count ≡ true
  pub none : (k : ℕ) → k < start → has_run set k count ≡ false

-- what a step up to `place` has found
abbrev pub IsStep : (ℕ → Bool) → ℕ → ℕ → Step → Type 0
IsStep set count place (Found start) = (start < place) × IsLowestStart set count start
IsStep set count place (From start) = SearchedTo set count place start
