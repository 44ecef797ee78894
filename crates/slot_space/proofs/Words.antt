-- The set that a row of words means, bit by bit.
use Rattle.std.proofs.Common.{◌≡◌, ℕ, ◌+◌, ◌-◌, ◌*◌, ◌/◌, ◌%◌, ◌^◌, ◌<◌, ◌≤◌, Some, None, List, [], ◌∷◌, Bool, true, false, eqb, cond, refl, sym, ap, ◌∙◌, arith, length, replicate, get_or, set, get_or-set_same, get_or-set_other, inl, inr, ◌≢◌, eq-eqb, ne_eqb, w64}
use Rattle.std.specs.Prelude.{nat_lt, bit_and, bit_or, min, max}
use Rattle.std.specs.Int.{bit_at, bit_not}
use Rattle.std.specs.Cmp.Lexicographic.{pointwise, bytes_decides}
use Rattle.std.proofs.lemmas.List.{length-replicate, get_or-replicate, get_or_past}
use Rattle.std.proofs.lemmas.Bool.{eqb-true, eqb-false, cases_eq, cases_lt, lt-ltb, le-ltb}
use Rattle.std.proofs.lemmas.Nat.Bits.{bit_at_set_same, bit_at_set_other, bit_at_clear_same, bit_at_clear_other, bit_at-zero, bit_at-lt, bit_at_or, bit_at_and, bit_at_not}
use Rattle.slot_space.specs.Limits.{slot_limit}
use Rattle.slot_space.specs.Sets.{has, IsAscending, AreBelow, IsSlotSet, insert, union, minus, meets, least_from, run}
use Rattle.slot_space.specs.Words.{bit_of, members, words_of, AreWords, AreSlotWords, HasCommon, HasNoneBetween}
use Rattle.slot_space.specs.WordsBack.{bit_past, has-members, has-run, words_back}
use Rattle.slot_space.proofs.Sets.{has-insert, has-union, has-minus, meets-some, meets-common}
use Rattle.slot_space.proofs.Ascending.{ascending-insert, ascending-union, ascending-minus, ascending-filter, ascending-run, least_from-some, least_from-none, same_members}

pub has_past : (words : List ℕ) (s : ℕ) → 64 * length words ≤ s → has s (members words) ≡ false
has_past words s h = has-members words s ∙ bit_past words s h

pub ascending-members : (words : List ℕ) → IsAscending (members words)
unfolding members
ascending-members words = ascending-filter (bit_of words) (run 0 (64 * length words)) (ascending-run 0 (64 * length words))

pub below-members : (words : List ℕ) → AreBelow (64 * length words) (members words)
below-members words s e = grind (arith, e, has-members words s, bit_past words s)

-- an ascending list of the bits that are set is what the words mean
pub members-by : (words xs : List ℕ) → IsAscending xs → ((s : ℕ) → bit_of words s ≡ has s xs) → members words ≡ xs
members-by words xs r k = same_members (members words) xs (ascending-members words) r (λ s. has-members words s ∙ k s)

zero_word : (n i : ℕ) → let zeros : List ℕ = replicate n 0 in get_or zeros i 0 ≡ 0
zero_word n i = elim (cases_lt i n) [
  | inl within ↦ get_or-replicate n i 0 0 within
  | inr past ↦ get_or_past (replicate n 0) i 0 (omega (arith, length-replicate {A = ℕ} n 0))
]

pub zeros_fit : (n : ℕ) → let zeros : List ℕ = replicate n 0 in AreWords zeros
zeros_fit n i = omega (arith, zero_word n i)

pub members-zeros : (n : ℕ) → members (replicate n 0) ≡ []
unfolding bit_of
members-zeros n =
    let zeros : List ℕ = replicate n 0 in
    members-by zeros [] tt (λ s. ap (λ w. eqb (bit_at w (s % 64)) 1) (zero_word n (s / 64)) ∙ ap (λ b. eqb b 1) (bit_at-zero (s % 64)))

-- one word replaced
pub bit_of-set : (words : List ℕ) (i word k : ℕ) → i < length words
    → bit_of (set words i word) k ≡ cond (eqb (k / 64) i) (eqb (bit_at word (k % 64)) 1) (bit_of words k)
unfolding bit_of
bit_of-set words i word k within = elim (cases_eq (k / 64) i) as (λ _. bit_of (set words i word) k ≡ cond (eqb (k / 64) i) (eqb (bit_at word (k % 64)) 1) (bit_of words k)) [
  | inl same ↦ rw (eq-eqb (k / 64) i same) (ap (λ x. eqb (bit_at (get_or (set words i word) x 0) (k % 64)) 1) same ∙ ap (λ x. eqb (bit_at x (k % 64)) 1) (get_or-set_same words i word 0 within))
  | inr other ↦ rw (ne_eqb (k / 64) i other) (ap (λ x. eqb (bit_at x (k % 64)) 1) (get_or-set_other words i (k / 64) word 0 other))
]

-- a word replaced by one that differs at the bit of s alone
bit_of-one : (words : List ℕ) (s k word : ℕ) (b : Bool) → s < 64 * length words
    → ((j : ℕ) → j < 64 → j ≢ s % 64 → bit_at word j ≡ bit_at (get_or words (s / 64) 0) j) → eqb (bit_at word (s % 64)) 1 ≡ b
    → bit_of (set words (s / 64) word) k ≡ cond (eqb s k) b (bit_of words k)
unfolding bit_of
bit_of-one words s k word b h others here = bit_of-set words (s / 64) word k (omega arith) ∙ elim (cases_eq k s) as (λ _. cond (eqb (k / 64) (s / 64)) (eqb (bit_at word (k % 64)) 1) (bit_of words k) ≡ cond (eqb s k) b (bit_of words k)) [
  | inl same ↦ rw (same, eq-eqb s s refl, eq-eqb (s / 64) (s / 64) refl) here
  | inr other ↦ rw (ne_eqb s k (λ e. other (sym e))) (elim (cases_eq (k / 64) (s / 64)) as (λ _. cond (eqb (k / 64) (s / 64)) (eqb (bit_at word (k % 64)) 1) (bit_of words k) ≡ bit_of words k) [
    | inl row ↦ rw (eq-eqb (k / 64) (s / 64) row) (ap (λ x. eqb x 1) (others (k % 64) (omega arith) (omega arith)) ∙ ap (λ x. eqb (bit_at (get_or words x 0) (k % 64)) 1) (sym row))
    | inr apart ↦ rw (ne_eqb (k / 64) (s / 64) apart) refl
  ])
]

pub bit_of-or_one : (words : List ℕ) (s k : ℕ) → s < 64 * length words
    → bit_of (set words (s / 64) (bit_or (get_or words (s / 64) 0) (1 * 2 ^ (s % 64) % 2 ^ 64))) k ≡ cond (eqb s k) true (bit_of words k)
bit_of-or_one words s k h =
    let within : s % 64 < 64 = omega arith in
    let word : ℕ = get_or words (s / 64) 0 in
    bit_of-one words s k _ true h (λ j _ apart. bit_at_set_other w64 word (s % 64) within j apart) (eq-eqb _ 1 (bit_at_set_same w64 word (s % 64) within))

pub bit_of-and_not_one : (words : List ℕ) (s k : ℕ) → s < 64 * length words
    → bit_of (set words (s / 64) (bit_and (get_or words (s / 64) 0) (bit_not w64 (1 * 2 ^ (s % 64) % 2 ^ 64)))) k ≡ cond (eqb s k) false (bit_of words k)
bit_of-and_not_one words s k h =
    let within : s % 64 < 64 = omega arith in
    let word : ℕ = get_or words (s / 64) 0 in
    bit_of-one words s k _ false h (λ j low apart. bit_at_clear_other w64 word (s % 64) within j low apart) (ap (λ x. eqb x 1) (bit_at_clear_same w64 word (s % 64) within))

-- ## The set after each change of the words

pub members-insert : (words new : List ℕ) (x : ℕ) → ((s : ℕ) → bit_of new s ≡ cond (eqb x s) true (bit_of words s)) → members new ≡ insert x (members words)
members-insert words new x k = members-by new (insert x (members words)) (ascending-insert x (members words) (ascending-members words))
    (λ s. k s ∙ ap (λ b. cond (eqb x s) true b) (sym (has-members words s)) ∙ sym (has-insert x s (members words)))

pub members-remove : (words new : List ℕ) (x : ℕ) → ((s : ℕ) → bit_of new s ≡ cond (eqb x s) false (bit_of words s)) → members new ≡ minus (members words) (x ∷ [])
members-remove words new x k = members-by new (minus (members words) (x ∷ [])) (ascending-minus (members words) (x ∷ []) (ascending-members words))
    (λ s. grind (arith, k s, has-members words s, has-minus s (members words) (x ∷ [])))

-- what isn't a member needs no taking out
pub minus-absent : (xs : List ℕ) (x : ℕ) → IsAscending xs → has x xs ≡ false → xs ≡ minus xs (x ∷ [])
minus-absent xs x r h = same_members xs (minus xs (x ∷ [])) r (ascending-minus xs (x ∷ []) r) (λ s. grind (arith, h, has-minus s xs (x ∷ []), eqb-true x s))

pub members-union : (words new xs : List ℕ) → IsAscending xs → ((s : ℕ) → bit_of new s ≡ cond (has s xs) true (bit_of words s)) → members new ≡ union (members words) xs
members-union words new xs r k = members-by new (union (members words) xs) (ascending-union (members words) xs r)
    (λ s. grind (arith, k s, has-members words s, has-union s (members words) xs))

pub members-minus : (words new xs : List ℕ) → ((s : ℕ) → bit_of new s ≡ cond (has s xs) false (bit_of words s)) → members new ≡ minus (members words) xs
members-minus words new xs k = members-by new (minus (members words) xs) (ascending-minus (members words) xs (ascending-members words))
    (λ s. grind (arith, k s, has-members words s, has-minus s (members words) xs))

-- the same, where the others are words
pub members-union_words : (words others new : List ℕ) → ((s : ℕ) → bit_of new s ≡ cond (bit_of others s) true (bit_of words s)) → members new ≡ union (members words) (members others)
members-union_words words others new k = members-union words new (members others) (ascending-members others) (λ s. k s ∙ ap (λ b. cond b true (bit_of words s)) (sym (has-members others s)))

pub members-minus_words : (words others new : List ℕ) → ((s : ℕ) → bit_of new s ≡ cond (bit_of others s) false (bit_of words s)) → members new ≡ minus (members words) (members others)
members-minus_words words others new k = members-minus words new (members others) (λ s. k s ∙ ap (λ b. cond b false (bit_of words s)) (sym (has-members others s)))

-- a run that is longer by one place
pub run_more : (first count s : ℕ) (hit old now new : Bool) → now ≡ cond (has s (run first count)) hit old → new ≡ cond (eqb (first + count) s) hit now → new ≡ cond (has s (run first (count + 1))) hit old
run_more first count s hit old now new e g = grind (arith, e, g, has-run s first count, has-run s first (count + 1), eqb-true (first + count) s, eqb-false (first + count) s)

pub proper : (words : List ℕ) → AreSlotWords words → IsSlotSet (members words)
proper words h = record { ascending = ascending-members words; small = λ s e. omega (arith, below-members words s e, h.len) }

-- ## Rows joined word by word

-- the place of a bit of word i
pub bit_of-in : (words : List ℕ) (i b : ℕ) → b < 64 → bit_of words (64 * i + b) ≡ eqb (bit_at (get_or words i 0) b) 1
unfolding bit_of
bit_of-in words i b h =
    let place : (64 * i + b) / 64 ≡ i = omega arith in
    let within : (64 * i + b) % 64 ≡ b = omega arith in
    rw (place, within) refl

module _ (op : Bool → Bool → Bool) (start words others : List ℕ) where
  -- the words below i are joined
  abbrev pub IsJoinedTo : ℕ → Type 0
  IsJoinedTo i = (k : ℕ) → bit_of words k ≡ cond (nat_lt k (64 * i)) (op (bit_of others k) (bit_of start k)) (bit_of start k)

  pub joined_more : (i word : ℕ) → i < length words → ((j : ℕ) → j < 64 → eqb (bit_at word j) 1 ≡ op (eqb (bit_at (get_or others i 0) j) 1) (eqb (bit_at (get_or words i 0) j) 1))
      → IsJoinedTo i → (k : ℕ) → bit_of (set words i word) k ≡ cond (nat_lt k (64 * (i + 1))) (op (bit_of others k) (bit_of start k)) (bit_of start k)
  unfolding bit_of
  joined_more i word within h inv k = bit_of-set words i word k within ∙ elim (cases_eq (k / 64) i) as (λ _. cond (eqb (k / 64) i) (eqb (bit_at word (k % 64)) 1) (bit_of words k) ≡ cond (nat_lt k (64 * (i + 1))) (op (bit_of others k) (bit_of start k)) (bit_of start k)) [
    | inl row ↦
        let before : bit_of words k ≡ bit_of start k = inv k ∙ rw (le-ltb k (64 * i) (omega arith)) refl in
        rw (eq-eqb (k / 64) i row, lt-ltb k (64 * (i + 1)) (omega arith))
        (h (k % 64) (omega arith)
        ∙ ap (λ x. op (eqb (bit_at (get_or others x 0) (k % 64)) 1) (eqb (bit_at (get_or words x 0) (k % 64)) 1)) (sym row)
        ∙ ap (op (bit_of others k)) before)
    | inr apart ↦ rw (ne_eqb (k / 64) i apart, same_side k apart) (inv k)
  ]
    where
      same_side : (k : ℕ) → k / 64 ≢ i → nat_lt k (64 * (i + 1)) ≡ nat_lt k (64 * i)
      same_side k apart = elim (cases_lt k (64 * i)) [
        | inl low ↦ lt-ltb k (64 * (i + 1)) (omega arith) ∙ sym (lt-ltb k (64 * i) low)
        | inr high ↦ le-ltb k (64 * (i + 1)) (omega arith) ∙ sym (le-ltb k (64 * i) high)
      ]

  -- all words are joined
  pub joined_all : (n : ℕ) → length others ≤ n → ((b : Bool) → op false b ≡ b) → IsJoinedTo n → (k : ℕ) → bit_of words k ≡ op (bit_of others k) (bit_of start k)
  joined_all n len nothing inv k = inv k ∙ elim (cases_lt k (64 * n)) as (λ _. cond (nat_lt k (64 * n)) (op (bit_of others k) (bit_of start k)) (bit_of start k) ≡ op (bit_of others k) (bit_of start k)) [
    | inl low ↦ rw (lt-ltb k (64 * n) low) refl
    | inr high ↦ rw (le-ltb k (64 * n) high, bit_past others k (omega arith)) (sym (nothing (bit_of start k)))
  ]

-- one word joined
flag_or : (a b x : ℕ) → a < 2 → b < 2 → x ≡ max a b → eqb x 1 ≡ cond (eqb b 1) true (eqb a 1)
flag_or a b x h g e = grind (arith, h, g, e, eqb-true x 1, eqb-true a 1, eqb-true b 1, eqb-false x 1, eqb-false a 1, eqb-false b 1)

flag_less : (a b x : ℕ) → a < 2 → b < 2 → x ≡ min a (1 - b) → eqb x 1 ≡ cond (eqb b 1) false (eqb a 1)
flag_less a b x h g e = grind (arith, h, g, e, eqb-true x 1, eqb-true a 1, eqb-true b 1, eqb-false x 1, eqb-false a 1, eqb-false b 1)

pub or_word : (a b j : ℕ) → eqb (bit_at (bit_or a b) j) 1 ≡ cond (eqb (bit_at b j) 1) true (eqb (bit_at a j) 1)
or_word a b j = flag_or (bit_at a j) (bit_at b j) _ (bit_at-lt a j) (bit_at-lt b j) (bit_at_or a b j)

pub and_not_word : (a b j : ℕ) → b < 2 ^ 64 → j < 64 → eqb (bit_at (bit_and a (bit_not w64 b)) j) 1 ≡ cond (eqb (bit_at b j) 1) false (eqb (bit_at a j) 1)
and_not_word a b j fit low = flag_less (bit_at a j) (bit_at b j) _ (bit_at-lt a j) (bit_at-lt b j) (bit_at_and a (bit_not w64 b) j ∙ ap (min (bit_at a j)) (bit_at_not w64 b j fit low))

-- a word is replaced by a word
pub words-set : (words : List ℕ) (i word : ℕ) → i < length words → word < 2 ^ 64 → AreWords words → AreWords (set words i word)
words-set words i word within fit all k = elim (cases_eq k i) [
  | inl same ↦ let e : get_or (set words i word) k 0 ≡ word = ap (λ x. get_or (set words i word) x 0) same ∙ get_or-set_same words i word 0 within in omega (arith, e)
  | inr other ↦ let e : get_or (set words i word) k 0 ≡ get_or words k 0 = get_or-set_other words i k word 0 other in omega (arith, e, all k)
]

-- whether two sets meet
pub meets-members : (words others : List ℕ) (b : Bool) → HasCommon (bit_of words) (bit_of others) b → b ≡ meets (members words) (members others)
meets-members words others true h = sym (meets-common h.0 (members words) (members others) (has-members words h.0 ∙ h.1) (has-members others h.0 ∙ h.2))
meets-members words others false h = elim (meets (members words) (members others)) as (λ o. meets (members words) (members others) ≡ o → false ≡ o) [
  | true ↦ λ e. let k = meets-some (members words) (members others) e in
      let here : bit_of words k.0 ≡ true = sym (has-members words k.0) ∙ k.1 in
      let there : bit_of others k.0 ≡ true = sym (has-members others k.0) ∙ k.2 in
      let apart : bit_of others k.0 ≡ false = h k.0 here in absurd (cc (there, apart))
  | false ↦ λ e. refl
] refl

-- the next member
pub next_some : (words : List ℕ) (from s : ℕ) → (from ≤ s) × (s < slot_limit) × (bit_of words s ≡ true) × HasNoneBetween (bit_of words) from s → least_from from (members words) ≡ Some s
next_some words from s h = least_from-some from s (members words) (ascending-members words) (has-members words s ∙ h.2) h.0 (λ k a b. has-members words k ∙ h.3 k a b)

pub next_none : (words : List ℕ) (from : ℕ) → length words ≡ 64 → HasNoneBetween (bit_of words) from slot_limit → least_from from (members words) ≡ None
next_none words from len h = least_from-none from (members words) (λ k a. has-members words k ∙ elim (cases_lt k slot_limit) [
  | inl within ↦ h k a within
  | inr past ↦ bit_past words k (omega arith)
])

-- rows are equal where their members are
pub same_rows : (words others : List ℕ) → AreSlotWords words → AreSlotWords others → pointwise eqb words others ≡ pointwise eqb (members words) (members others)
same_rows words others h g = elim (pointwise eqb words others) as (λ o. pointwise eqb words others ≡ o → o ≡ pointwise eqb (members words) (members others)) [
  | true ↦ λ e. sym ((bytes_decides (members words) (members others)).1 (ap members ((bytes_decides words others).0 e)))
  | false ↦ λ e. elim (pointwise eqb (members words) (members others)) as (λ o. pointwise eqb (members words) (members others) ≡ o → false ≡ o) [
    | true ↦ λ k.
        let back : words ≡ others = sym (words_back words h (λ x. x)) ∙ ap (words_of 64) ((bytes_decides (members words) (members others)).0 k) ∙ words_back others g (λ x. x) in
        let same : pointwise eqb words others ≡ true = (bytes_decides words others).1 back in absurd (cc (e, same))
    | false ↦ λ k. refl
  ] refl
] refl
