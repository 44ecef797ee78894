-- Digits and their value.
use Rattle.std.proofs.Common.{◌≡◌, ℕ, ◌+◌, ◌-◌, ◌*◌, ◌<◌, ◌≤◌, Bool, true, ◌&&◌, [], ◌∷◌, length, take, get_or, refl, arith, suc, zero, length-take}
use Rattle.std.specs.List.{list_all}
use Rattle.std.specs.Int.{IsInRange}
use Rattle.std.specs.Str.Parse.{digits_value}
use Rattle.std.proofs.lemmas.Bool.{and_parts}
use Rattle.std.proofs.lemmas.Bool.Decides.{nat_tests}
use Rattle.std.proofs.lemmas.Str.Parse.{IsDigitsTest, IsNumeralModel, digits_value_short, numerals_by_value}
use Rattle.std.proofs.lemmas.Int.Digits.{digits_value_more}
use Rattle.std.proofs.lemmas.Str.{digit_value_digit}
use Rattle.run_texts.specs.Parts.{Text, is_digit}

pub digit_is : (b : ℕ) → is_digit b ≡ true → IsInRange 48 57 b
digit_is b h = grind (arith, nat_tests)

is_one : (b : ℕ) → IsInRange 48 57 b → is_digit b ≡ true
is_one b h = let low : 48 ≤ b = h.0 in let high : b ≤ 57 = h.1 in grind (arith, nat_tests)

pub both_and : (a b : Bool) → a ≡ true → b ≡ true → (a && b) ≡ true
both_and a b ea eb = cc

abbrev pub AreDigits : Text → Type 0
AreDigits text = list_all is_digit text ≡ true

digits_told : IsDigitsTest AreDigits
digits_told = record {
  empty = refl;
  parts = λ c cs h. let p = and_parts (is_digit c) (list_all is_digit cs) h in (digit_is c p.0, p.1);
  more = λ c cs one h. both_and (is_digit c) (list_all is_digit cs) (is_one c one) h;
}

pub numerals : IsNumeralModel AreDigits (digits_value 10)
numerals = numerals_by_value AreDigits digits_told

first_digits : (text : Text) (i : ℕ) → AreDigits text → AreDigits (take i text)
first_digits text zero h = refl
first_digits [] (suc i) h = refl
first_digits (b ∷ bs) (suc i) h = let p = and_parts (is_digit b) (list_all is_digit bs) h in both_and (is_digit b) (list_all is_digit (take i bs)) p.0 (first_digits bs i p.1)

-- the digits before the tenth one write less than 10^9
pub value_before : (text : Text) (i : ℕ) → AreDigits text → length text ≤ 10 → i < length text → digits_value 10 (take i text) < 1000000000
value_before text i h few less = digits_value_short numerals (take i text) 9 (first_digits text i h) (omega (arith, length-take i text))

digit_at : (text : Text) (i : ℕ) → AreDigits text → i < length text → IsInRange 48 57 (get_or text i 0)
digit_at [] i h less = absurd (omega arith)
digit_at (b ∷ bs) zero h less = digit_is b (and_parts (is_digit b) (list_all is_digit bs) h).0
digit_at (b ∷ bs) (suc i) h less = digit_at bs i (and_parts (is_digit b) (list_all is_digit bs) h).1 (omega arith)

-- one digit more
pub value_more : (text : Text) (i : ℕ) → AreDigits text → i < length text → digits_value 10 (take i text) * 10 + (get_or text i 0 - 48) ≡ digits_value 10 (take (i + 1) text)
value_more text i h less = omega (arith, digits_value_more 10 text i less, digit_value_digit (get_or text i 0) (digit_at text i h less))
