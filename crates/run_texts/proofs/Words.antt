-- Words that are put together come apart again.
use Rattle.std.proofs.Common.{◌≡◌, ◌∙◌, ℕ, ◌-◌, ◌^◌, ◌<◌, suc, Bool, true, false, not, eqb, List, [], ◌∷◌, ◌++◌, length, refl, ap, zero, arith, append-nil}
use Rattle.std.specs.Prelude.{decimal, slice_index}
use Rattle.std.specs.List.{list_all}
use Rattle.std.specs.Str.Lines.{strip_carriage_return}
use Rattle.std.proofs.lemmas.Bool.Decides.{nat_tests}
use Rattle.std.proofs.lemmas.Fmt.{digits_decimal}
use Rattle.trace_text.specs.Lines.{spaced, words_text}
use Rattle.run_texts.specs.Parts.{Text, is_digit, is_filled, onto, parts_of, words_of}
use Rattle.run_texts.proofs.Digits.{AreDigits, both_and, numerals}
use Rattle.std.proofs.lemmas.Bool.{and_parts}

-- no byte of a text is this one
abbrev pub is_apart : ℕ → Text → Bool
is_apart c text = list_all (λ b. not (eqb b c)) text

pub not_here : (b c : ℕ) → not (eqb b c) ≡ true → eqb b c ≡ false
not_here b c h = by_test (eqb b c) h
  where
    by_test : (t : Bool) → not t ≡ true → t ≡ false
    by_test true e = cc
    by_test false e = refl

pub apart-append : (c : ℕ) (xs ys : Text) → is_apart c xs ≡ true → is_apart c ys ≡ true → is_apart c (xs ++ ys) ≡ true
apart-append c [] ys hx hy = hy
apart-append c (x ∷ xs) ys hx hy =
    let p = and_parts (not (eqb x c)) (is_apart c xs) hx in
    both_and (not (eqb x c)) (is_apart c (xs ++ ys)) p.0 (apart-append c xs ys p.1 hy)

-- ---- parts

pub part_behind : (c : ℕ) (w rest : Text) → is_apart c w ≡ true → parts_of c (w ++ c ∷ rest) ≡ w ∷ parts_of c rest
part_behind c [] rest h = let same : eqb c c ≡ true = grind (arith, nat_tests) in rw same refl
part_behind c (b ∷ w) rest h =
    let p = and_parts (not (eqb b c)) (is_apart c w) h in
    rw (not_here b c p.0) (ap (onto b) (part_behind c w rest p.1))

pub part_alone : (c b : ℕ) (w : Text) → is_apart c (b ∷ w) ≡ true → parts_of c (b ∷ w) ≡ (b ∷ w) ∷ []
part_alone c b [] h = rw (not_here b c (and_parts (not (eqb b c)) true h).0) refl
part_alone c b (d ∷ w) h =
    let p = and_parts (not (eqb b c)) (is_apart c (d ∷ w)) h in
    rw (not_here b c p.0) (ap (onto b) (part_alone c d w p.1))

-- ---- words

-- a word has bytes, and no newline, carriage return or blank
pub record IsWord (w : Text) : Type 0 where
  pub some : is_filled w ≡ true
  pub newline : is_apart 10 w ≡ true
  pub carriage_return : is_apart 13 w ≡ true
  pub blank : is_apart 32 w ≡ true

abbrev pub AreWords : List Text → Type 0
AreWords [] = Unit {0}
AreWords (w ∷ ws) = IsWord w × AreWords ws

word_first : (w : Text) (rest : Text) → IsWord w → words_of (w ++ 32 ∷ rest) ≡ w ∷ words_of rest
word_first [] rest h = let bad = h.some in cc
word_first (b ∷ w) rest h = rw (part_behind 32 (b ∷ w) rest h.blank) refl

word_last : (w : Text) → IsWord w → words_of w ≡ w ∷ []
word_last [] h = let bad = h.some in cc
word_last (b ∷ w) h = rw (part_alone 32 b w h.blank) refl

pub words_again : (w : Text) (ws : List Text) → IsWord w → AreWords ws → words_of (words_text (w ∷ ws)) ≡ w ∷ ws
words_again w [] h hs = rw append-nil (word_last w h)
words_again w (v ∷ vs) h hs = word_first w (v ++ spaced vs) h ∙ ap (λ l. w ∷ l) (words_again v vs hs.0 hs.1)

-- a text of words has no such byte, where no word has
pub spaced_apart : (c : ℕ) → eqb 32 c ≡ false → ((w : Text) → IsWord w → is_apart c w ≡ true) → (ws : List Text) → AreWords ws → is_apart c (spaced ws) ≡ true
spaced_apart c other each [] hs = refl
spaced_apart c other each (w ∷ ws) hs = both_and (not (eqb 32 c)) (is_apart c (w ++ spaced ws)) (rw other refl) (apart-append c w (spaced ws) (each w hs.0) (spaced_apart c other each ws hs.1))

pub no_newline : (w : Text) (ws : List Text) → IsWord w → AreWords ws → is_apart 10 (words_text (w ∷ ws)) ≡ true
no_newline w ws h hs = apart-append 10 w (spaced ws) h.newline (spaced_apart 10 refl (λ v k. k.newline) ws hs)

pub no_carriage_return : (w : Text) (ws : List Text) → IsWord w → AreWords ws → is_apart 13 (words_text (w ∷ ws)) ≡ true
no_carriage_return w ws h hs = apart-append 13 w (spaced ws) h.carriage_return (spaced_apart 13 refl (λ v k. k.carriage_return) ws hs)

-- ---- the end of a line

index_apart : (text : Text) (i : ℕ) → is_apart 13 text ≡ true → eqb (slice_index text i) 13 ≡ false
index_apart [] i h = refl
index_apart (b ∷ bs) zero h = not_here b 13 (and_parts (not (eqb b 13)) (is_apart 13 bs) h).0
index_apart (b ∷ bs) (suc i) h = index_apart bs i (and_parts (not (eqb b 13)) (is_apart 13 bs) h).1

pub nothing_stripped : (text : Text) → is_apart 13 text ≡ true → strip_carriage_return text ≡ text
nothing_stripped text h = rw (index_apart text (length text - 1) h) refl

-- ---- numbers

digit_apart : (c b : ℕ) → is_digit c ≡ false → is_digit b ≡ true → not (eqb b c) ≡ true
digit_apart c b hc hb = by_test (eqb b c) refl
  where
    by_test : (t : Bool) → eqb b c ≡ t → not (eqb b c) ≡ true
    by_test false e = rw e refl
    by_test true e = let same : b ≡ c = grind (arith, nat_tests) in let bad : is_digit c ≡ true = rw same at hb in cc

pub digits_apart : (c : ℕ) (text : Text) → is_digit c ≡ false → AreDigits text → is_apart c text ≡ true
digits_apart c [] other h = refl
digits_apart c (b ∷ bs) other h =
    let p = and_parts (is_digit b) (list_all is_digit bs) h in
    both_and (not (eqb b c)) (is_apart c bs) (digit_apart c b other p.0) (digits_apart c bs other p.1)

pub decimal_digits : (n : ℕ) → n < 2 ^ 64 → AreDigits (decimal n)
decimal_digits n h = digits_decimal numerals n h
