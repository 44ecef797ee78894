-- How the walk over the words finds the lowest run and the next member.
use Rattle.std.proofs.Common.{◌≡◌, ℕ, ◌+◌, ◌-◌, ◌*◌, ◌/◌, ◌%◌, ◌^◌, ◌<◌, ◌≤◌, List, Option, Some, None, Bool, true, false, eqb, get_or, refl, sym, ap, ◌∙◌, inl, inr, arith, eq-eqb, ne_eqb, w64}
use Rattle.std.specs.Prelude.{bit_and, MatchOption}
use Rattle.std.specs.Int.{bit_at, bit_not}
use Rattle.std.proofs.lemmas.Bool.{eqb-true, cases_lt}
use Rattle.std.proofs.lemmas.Nat.Bits.{bit_at_not, bit_at-lt, bit_at-zero, bit_at_above, bit_at_and}
use Rattle.slot_space.specs.Limits.{slot_limit}
use Rattle.slot_space.specs.Sets.{has_run}
use Rattle.slot_space.specs.Words.{bit_of, AreOnes, NoOnes, HasNoneBetween, SearchedTo, IsLowestStart}
use Rattle.slot_space.proofs.Ones.{bit_at-shr}
use Rattle.slot_space.proofs.Runs.{has_run-each, has_run-all, has_run-none}
use Rattle.slot_space.proofs.Words.{bit_of-in}

-- ## The lowest run: one word more

module _ (set : ℕ → Bool) (base word count start : ℕ) (link : (b : ℕ) → b < 64 → set (base + b) ≡ eqb (bit_at word b) 1) (fits : word < 2 ^ 64) (some : 0 < count) (so : SearchedTo set count base start) where
  clear_at : (b : ℕ) → b < 64 → bit_at (bit_not w64 word) b ≡ 1 → set (base + b) ≡ false
  clear_at b l h = let e : bit_at word b ≡ 0 = omega (arith, bit_at_not w64 word b fits l, bit_at-lt word b) in link b l ∙ ne_eqb (bit_at word b) 1 (omega arith)

  set_at : (b : ℕ) → b < 64 → bit_at (bit_not w64 word) b ≡ 0 → set (base + b) ≡ true
  set_at b l h = let e : bit_at word b ≡ 1 = omega (arith, bit_at_not w64 word b fits l, bit_at-lt word b) in link b l ∙ eq-eqb (bit_at word b) 1 e

  -- all from the start to here are set, where the word's lowest bits are
  tail_to : (low : ℕ) → low ≤ 64 → ((b : ℕ) → b < low → bit_at (bit_not w64 word) b ≡ 0) → (k : ℕ) → start ≤ k → k < base + low → set k ≡ true
  tail_to low le below k a b = elim (cases_lt k base) [
    | inl before ↦ so.tail k a before
    | inr after ↦ let e : k ≡ base + (k - base) = omega arith in ap set e ∙ set_at (k - base) (omega arith) (below (k - base) (omega arith))
  ]

  pub start_found : (low : ℕ) → low ≤ 64 → ((b : ℕ) → b < low → bit_at (bit_not w64 word) b ≡ 0) → start + count ≤ base + low → IsLowestStart set count start
  start_found low le below far = record {
    run = has_run-all set start count (λ u l. tail_to low le below (start + u) (omega arith) (omega arith));
    none = so.none;
  }

  pub full : ((b : ℕ) → b < 64 → bit_at (bit_not w64 word) b ≡ 0) → base + 64 < start + count → SearchedTo set count (base + 64) start
  full below near = record { within = omega (arith, so.within); short = near; tail = tail_to 64 (omega arith) below; none = so.none }

  module _ (low high : ℕ) (low_in : low < 64) (high_in : high < 64) (low_clear : bit_at (bit_not w64 word) low ≡ 1) (high_clear : bit_at (bit_not w64 word) high ≡ 1) (near : base + low < start + count) where
    -- no run starts here, where none lies within the word
    near_none : (k : ℕ) → k ≤ base + high → (base ≤ k → k + count ≤ base + 64 → has_run set k count ≡ false) → has_run set k count ≡ false
    near_none k h inside = elim (cases_lt k start) [
      | inl early ↦ so.none k early
      | inr late ↦ elim (cases_lt (base + low) k) [
        | inl past ↦ elim (cases_lt (base + high) (k + count)) [
          | inl over ↦ has_run-none set k count (base + high) h over (clear_at high high_in high_clear)
          | inr short ↦ inside (omega arith) (omega arith)
        ]
        | inr onto ↦ has_run-none set k count (base + low) onto (omega arith) (clear_at low low_in low_clear)
      ]
    ]

    -- a run within the word is one of ones
    within_none : (limit k : ℕ) → NoOnes word count limit → base ≤ k → k < base + limit → k + count ≤ base + 64 → has_run set k count ≡ false
    within_none limit k ones from to end = elim (has_run set k count) as (λ o. has_run set k count ≡ o → o ≡ false) [
      | true ↦ λ e. absurd (ones (k - base) (omega arith) (λ u l.
          let place : k + u ≡ base + (k - base + u) = omega arith in
          let here : set (base + (k - base + u)) ≡ true = ap set (sym place) ∙ has_run-each set k count u e l in
          eqb-true (bit_at word (k - base + u)) 1 (sym (link (k - base + u) (omega arith)) ∙ here)))
      | false ↦ λ e. refl
    ] refl

    pub place_found : (place : ℕ) → place < 64 → AreOnes word place count → NoOnes word count place → IsLowestStart set count (base + place)
    place_found place l ones lower =
        let end : place + count ≤ 64 = elim (cases_lt 64 (place + count)) [
          | inl over ↦ let last : place + (count - 1) ≡ place + count - 1 = omega arith in
              let a : bit_at word (place + (count - 1)) ≡ 1 = ones (count - 1) (omega arith) in
              let b : bit_at word (place + (count - 1)) ≡ 0 = bit_at_above word 64 (place + (count - 1)) fits (omega arith) in absurd (omega arith)
          | inr in_word ↦ in_word
        ] in
        record {
          run = has_run-all set (base + place) count (λ u h. let e : base + place + u ≡ base + (place + u) = omega arith in ap set e ∙ link (place + u) (omega arith) ∙ eq-eqb _ 1 (ones u h));
          none = λ k h. elim (cases_lt (base + high) k) [
            | inl past ↦ within_none place k lower (omega arith) h (omega arith)
            | inr not_past ↦ near_none k not_past (λ from to. within_none place k lower from h to)
          ];
        }

    pub from_high : ((b : ℕ) → high < b → bit_at (bit_not w64 word) b ≡ 0) → (count < 64 → NoOnes word count 64) → SearchedTo set count (base + 64) (base + high + 1)
    from_high above nowhere = record {
      within = omega arith;
      short = elim (cases_lt (base + 64) (base + high + 1 + count)) [
        | inl short ↦ short
        | inr long ↦ absurd (nowhere (omega arith) (high + 1) (omega arith) (λ u l. let e = bit_at_not w64 word (high + 1 + u) fits (omega arith) in omega (arith, e, above (high + 1 + u) (omega arith), bit_at-lt word (high + 1 + u))))
      ];
      tail = λ k a b. let e : k ≡ base + (k - base) = omega arith in ap set e ∙ set_at (k - base) (omega arith) (above (k - base) (omega arith));
      none = λ k h. near_none k (omega arith) (λ from to. elim (cases_lt count 64) [
        | inl few ↦ within_none 64 k (nowhere few) from (omega arith) to
        | inr many ↦ has_run-none set k count (base + low) (omega arith) (omega arith) (clear_at low low_in low_clear)
      ]);
    }

pub none_said : (word count : ℕ) (Q : ℕ → Type 0) (r : Option ℕ) → MatchOption r (NoOnes word count 64) Q → ((place : ℕ) → r ≡ Some place → ⊥) → NoOnes word count 64
none_said word count Q None h g = h
none_said word count Q (Some place) h g = absurd (g place refl)

-- ## Word by word

bit_in : (words : List ℕ) (i s : ℕ) → 64 * i ≤ s → s < 64 * i + 64 → bit_of words s ≡ eqb (bit_at (get_or words i 0) (s - 64 * i)) 1
bit_in words i s a b = let e : s ≡ 64 * i + (s - 64 * i) = omega arith in ap (bit_of words) e ∙ bit_of-in words i (s - 64 * i) (omega arith)

-- a bit that two words have
pub common_bit : (words others : List ℕ) (i b : ℕ) → b < 64 → bit_at (bit_and (get_or words i 0) (get_or others i 0)) b ≡ 1 → (s : ℕ) × (bit_of words s ≡ true) × (bit_of others s ≡ true)
common_bit words others i b l h =
    let both = bit_at_and (get_or words i 0) (get_or others i 0) b in
    let x = bit_at-lt (get_or words i 0) b in
    let y = bit_at-lt (get_or others i 0) b in
    (64 * i + b, bit_of-in words i b l ∙ eq-eqb _ 1 (omega arith), bit_of-in others i b l ∙ eq-eqb _ 1 (omega arith))

-- words with no bit in common say so of their places
pub apart_more : (words others : List ℕ) (i : ℕ) → bit_and (get_or words i 0) (get_or others i 0) ≡ 0
    → ((s : ℕ) → s < 64 * i → bit_of words s ≡ true → bit_of others s ≡ false)
    → (s : ℕ) → s < 64 * (i + 1) → bit_of words s ≡ true → bit_of others s ≡ false
apart_more words others i none old s l h = elim (cases_lt s (64 * i)) [
  | inl low ↦ old s low h
  | inr high ↦
      let b : ℕ = s - 64 * i in
      let mine : bit_at (get_or words i 0) b ≡ 1 = eqb-true _ 1 (sym (bit_in words i s high (omega arith)) ∙ h) in
      let both : bit_at (bit_and (get_or words i 0) (get_or others i 0)) b ≡ 0 = ap (λ x. bit_at x b) none ∙ bit_at-zero b in
      let theirs : bit_at (get_or others i 0) b ≡ 0 = omega (arith, bit_at_and (get_or words i 0) (get_or others i 0) b, bit_at-lt (get_or others i 0) b) in
      bit_in others i s high (omega arith) ∙ ne_eqb _ 1 (omega arith)
]

-- a word of zeros has no member
pub none_more : (words : List ℕ) (i from : ℕ) → get_or words i 0 ≡ 0 → HasNoneBetween (bit_of words) from (64 * i) → HasNoneBetween (bit_of words) from (64 * (i + 1))
none_more words i from none old s a b = elim (cases_lt s (64 * i)) [
  | inl low ↦ old s a low
  | inr high ↦ bit_in words i s high (omega arith) ∙ ap (λ x. eqb (bit_at x (s - 64 * i)) 1) none ∙ ap (λ x. eqb x 1) (bit_at-zero (s - 64 * i))
]

-- the lowest bit of a word is the next member
pub first_in : (words : List ℕ) (i from low : ℕ) → i < 64 → low < 64 → from ≤ 64 * i → bit_at (get_or words i 0) low ≡ 1 → ((k : ℕ) → k < low → bit_at (get_or words i 0) k ≡ 0)
    → HasNoneBetween (bit_of words) from (64 * i) → (from ≤ 64 * i + low) × (64 * i + low < slot_limit) × (bit_of words (64 * i + low) ≡ true) × HasNoneBetween (bit_of words) from (64 * i + low)
first_in words i from low in_row in_word le here below old = (
  omega arith,
  omega arith,
  bit_of-in words i low in_word ∙ eq-eqb _ 1 here,
  λ s a b. elim (cases_lt s (64 * i)) [
    | inl early ↦ old s a early
    | inr late ↦ bit_in words i s late (omega arith) ∙ ne_eqb _ 1 (let e = below (s - 64 * i) (omega arith) in omega (arith, e))
  ],
)

-- the same in the word of `from` itself, without its bits below
rest_bit : (words : List ℕ) (from s : ℕ) → from ≤ s → s < 64 * (from / 64) + 64 → bit_of words s ≡ eqb (bit_at (get_or words (from / 64) 0 / 2 ^ (from % 64)) (s - from)) 1
rest_bit words from s a b =
    let e : s - 64 * (from / 64) ≡ from % 64 + (s - from) = omega arith in
    bit_in words (from / 64) s (omega arith) b ∙ ap (λ x. eqb x 1) (ap (bit_at (get_or words (from / 64) 0)) e ∙ sym (bit_at-shr (get_or words (from / 64) 0) (from % 64) (s - from)))

pub first_of_rest : (words : List ℕ) (from low : ℕ) → from / 64 < 64 → get_or words (from / 64) 0 < 2 ^ 64 → bit_at (get_or words (from / 64) 0 / 2 ^ (from % 64)) low ≡ 1
    → ((k : ℕ) → k < low → bit_at (get_or words (from / 64) 0 / 2 ^ (from % 64)) k ≡ 0)
    → (from ≤ from + low) × (from + low < slot_limit) × (bit_of words (from + low) ≡ true) × HasNoneBetween (bit_of words) from (from + low)
first_of_rest words from low in_row fits here below =
    let word : ℕ = get_or words (from / 64) 0 in
    let in_word : from % 64 + low < 64 = elim (cases_lt (from % 64 + low) 64) [
      | inl low_in ↦ low_in
      | inr out ↦ let e = bit_at-shr word (from % 64) low in let g = bit_at_above word 64 (from % 64 + low) fits out in absurd (omega arith)
    ] in
    let off : from + low - from ≡ low = omega arith in (
      omega arith,
      omega arith,
      rest_bit words from (from + low) (omega arith) (omega arith) ∙ eq-eqb _ 1 (ap (bit_at (word / 2 ^ (from % 64))) off ∙ here),
      λ s a b. rest_bit words from s a (omega arith) ∙ ne_eqb _ 1 (let e = below (s - from) (omega arith) in omega (arith, e)),
    )

pub none_of_rest : (words : List ℕ) (from : ℕ) → get_or words (from / 64) 0 / 2 ^ (from % 64) ≡ 0 → HasNoneBetween (bit_of words) from (64 * (from / 64 + 1))
none_of_rest words from none s a b = rest_bit words from s a (omega arith) ∙ ap (λ x. eqb (bit_at x (s - from)) 1) none ∙ ap (λ x. eqb x 1) (bit_at-zero (s - from))

-- a word of ones: its complement has no bit
pub no_zeros : (word : ℕ) → bit_not w64 word ≡ 0 → (b : ℕ) → b < 64 → bit_at (bit_not w64 word) b ≡ 0
no_zeros word h b l = ap (λ x. bit_at x b) h ∙ bit_at-zero b
