-- A text of digits that `parse` refuses writes a number past the range.
use Rattle.std.proofs.Common.{◌≡◌, ◌∙◌, sym, ap, refl, ℕ, ◌<◌, ◌≤◌, ◌^◌, ◌==◌, Bool, true, false, List, [], ◌∷◌, length, Option, None, arith}
use Rattle.std.specs.Prelude.{if◌then◌else◌}
use Rattle.std.specs.List.{list_all}
use Rattle.std.specs.Char.{digit_value}
use Rattle.std.specs.Str.Parse.{AllDigits, IsNumeral, digits_value, without_leading_plus}
use Rattle.std.proofs.lemmas.Bool.{and_parts}
use Rattle.std.proofs.lemmas.Bool.Decides.{nat_tests}
use Rattle.settings.specs.Numbers.{is_digit, is_number, number_of, within}

digit_is : (b : ℕ) → is_digit b ≡ true → (48 ≤ b) × (b ≤ 57)
digit_is b h = grind (arith, nat_tests)

small : (b : ℕ) → is_digit b ≡ true → digit_value b < 10
small b h = let d = digit_is b h in let low : 48 ≤ b = d.0 in let high : b ≤ 57 = d.1 in grind (arith, nat_tests)

digits : (text : List ℕ) → list_all is_digit text ≡ true → AllDigits 10 text
digits [] h = tt
digits (b ∷ bs) h = let p = and_parts (is_digit b) (list_all is_digit bs) h in (small b p.0, digits bs p.1)

no_plus : (text : List ℕ) → list_all is_digit text ≡ true → without_leading_plus text ≡ text
no_plus [] h = refl
no_plus (b ∷ bs) h = let d = digit_is b (and_parts (is_digit b) (list_all is_digit bs) h).0 in let low : 48 ≤ b = d.0 in let e : (b == 43) ≡ false = grind (arith, nat_tests) in rw e refl

past : (low high n : ℕ) → high < n → within low high n ≡ None
past low high n h = grind (arith, nat_tests)

same_both : (b : Bool) (o : Option ℕ) → (if b then o else o) ≡ o
same_both true o = refl
same_both false o = refl

large : (n m : ℕ) → (n < m → ⊥) → m ≤ n
large n m h = omega arith

pub refused : (text : List ℕ) (low high : ℕ) → 0 < length text → list_all is_digit text ≡ true → high < 2 ^ 64
    → (IsNumeral 10 (without_leading_plus text) × (digits_value 10 (without_leading_plus text) < 2 ^ 64) → ⊥) → None ≡ number_of low high text
refused text low high some d fits bad =
    let bad' = rw (no_plus text d) at bad in
    let big : 2 ^ 64 ≤ digits_value 10 text = large _ _ (λ h. bad' ((some, digits text d), h)) in
    sym (ap (λ o. if is_number text then o else None) (past low high (digits_value 10 text) (omega arith)) ∙ same_both (is_number text) None)
