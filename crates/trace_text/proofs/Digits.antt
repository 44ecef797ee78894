-- Digits and parts, for the functions that read one word.
use Rattle.std.proofs.Common.{◌≡◌, ℕ, suc, ◌+◌, ◌*◌, ◌-◌, ◌^◌, ◌<◌, ◌≤◌, Bool, true, false, eqb, ltb, not, ◌&&◌, List, [], ◌∷◌, ◌++◌, length, take, drop, get_or, Option, Some, None, refl, sym, ap, ◌∙◌, inl, inr, arith, rules, tests, append_assoc}
use Rattle.std.specs.List.{prefix_len}
use Rattle.std.specs.Char.{digit_value, is_ascii_digit}
use Rattle.std.specs.Str.{all_ascii_digits}
use Rattle.std.specs.Str.Parse.{digits_value, digits_value_after}
use Rattle.std.proofs.lemmas.Bool.{cases_Bool, lt-ltb, ltb-true}
use Rattle.std.proofs.lemmas.List.Splits.{length-slice_split}
use Rattle.std.specs.Option.{option_map}
use Rattle.std.proofs.lemmas.List.{drop_more}
use Rattle.trace_text.specs.Reading.{◌>>=◌, only_if, parts, left, tid_in, nibble, pairs_in}

-- more digits don't make a number less
pub after_least : (n : ℕ) (cs : List ℕ) → n ≤ digits_value_after 10 n cs
after_least n [] = omega arith
after_least n (c ∷ cs) = let more = after_least (n * 10 + digit_value c) cs in omega (arith, more)

abbrev other : ℕ → ℕ → Bool
other c b = not (eqb b c)

dropped : (n b : ℕ) (bs : List ℕ) → drop (1 + n) (b ∷ bs) ≡ drop n bs
dropped n b bs = let e : 1 + n ≡ suc n = omega arith in rw e refl

taken : (n b : ℕ) (bs : List ℕ) → take (1 + n) (b ∷ bs) ≡ b ∷ take n bs
taken n b bs = let e : 1 + n ≡ suc n = omega arith in rw e refl

-- the first part, and those behind it
pub cut_at : (c : ℕ) (bs : List ℕ) → parts c bs ≡ take (prefix_len (other c) bs) bs ∷ left c (drop (prefix_len (other c) bs) bs)
cut_at c [] = refl
cut_at c (b ∷ bs) =
    elim (cases_Bool (eqb b c)) [
      | inl is ↦ rw is refl
      | inr isnt ↦ rw (isnt, taken (prefix_len (other c) bs) b bs, dropped (prefix_len (other c) bs) b bs, cut_at c bs) refl
    ]

pub some_parts : (c : ℕ) (bs : List ℕ) → 0 < length (parts c bs)
some_parts c bs = rw length-slice_split (omega arith)

-- a name has two parts
pub three_parts : (h s : List ℕ) (ps : List (List ℕ)) → 0 < length ps → tid_in (h ∷ s ∷ ps) ≡ None
three_parts h s [] lt = absurd (omega arith)
three_parts h s (p ∷ ps) lt = refl

one_more : (old : List ℕ) (n : ℕ) (o : Option (List ℕ)) → option_map (λ ns. (old ++ n ∷ []) ++ ns) o ≡ option_map (λ ns. old ++ ns) (o >>= λ more. Some (n ∷ more))
one_more old n None = refl
one_more old n (Some more) = ap (λ (x : List ℕ). Some x) (append_assoc old (n ∷ []) more)

digit_is : (c : ℕ) → is_ascii_digit c ≡ true → digit_value c ≡ c - 48
digit_is c is = search (rules, tests)

-- a bound that is passed by the digits so far is passed by all
abbrev fits : ℕ → Bool
fits n = ltb n (2 ^ 64)

passed : (all : Bool) (n m : ℕ) → n ≤ m → only_if (fits n) n ≡ None → only_if (all && fits m) m ≡ None
passed false n m le e = refl
passed true n m le e =
    elim (cases_Bool (fits m)) [
      | inl is ↦
          let lt : ltb n (2 ^ 64) ≡ true = lt-ltb n (2 ^ 64) (omega (arith, ltb-true m (2 ^ 64) is, le)) in
          let some : Some n ≡ None = rw lt at e in
          absurd cc
      | inr isnt ↦ rw isnt refl
    ]

pub too_many : (ds : List ℕ) (i v : ℕ) → i < length ds → digits_value_after 10 v (drop i ds) ≡ digits_value 10 ds → is_ascii_digit (get_or ds i 0) ≡ true → only_if (ltb (v * 10 + (get_or ds i 0 - 48)) (2 ^ 64)) (v * 10 + (get_or ds i 0 - 48)) ≡ None → only_if (all_ascii_digits ds && ltb (digits_value 10 ds) (2 ^ 64)) (digits_value 10 ds) ≡ None
too_many ds i v lt e is over =
    let cut = drop_more ds i 0 lt in
    let more = after_least (v * 10 + digit_value (get_or ds i 0)) (drop (i + 1) ds) in
    let whole : digits_value_after 10 (v * 10 + digit_value (get_or ds i 0)) (drop (i + 1) ds) ≡ digits_value 10 ds = rw cut at e in
    let digit : digit_value (get_or ds i 0) ≡ get_or ds i 0 - 48 = digit_is (get_or ds i 0) is in
    passed (all_ascii_digits ds) (v * 10 + (get_or ds i 0 - 48)) (digits_value 10 ds) (omega (arith, more, whole, digit)) over

pairs_more : (old rest : List ℕ) (whole : Option (List ℕ)) (h l high low : ℕ) → nibble h ≡ Some high → nibble l ≡ Some low → option_map (λ ns. old ++ ns) (pairs_in (h ∷ l ∷ rest)) ≡ whole → option_map (λ ns. (old ++ (high * 16 + low) ∷ []) ++ ns) (pairs_in rest) ≡ whole
pairs_more old rest whole h l high low e f g =
    let now : option_map (λ ns. old ++ ns) (pairs_in rest >>= λ more. Some ((high * 16 + low) ∷ more)) ≡ whole = rw (e, f) at g in
    one_more old (high * 16 + low) (pairs_in rest) ∙ now

pub pairs_step : (old new rest behind left : List ℕ) (whole : Option (List ℕ)) (h l high low : ℕ) → rest ≡ h ∷ behind → behind ≡ l ∷ left → new ≡ old ++ (high * 16 + low) ∷ [] → Some high ≡ nibble h → Some low ≡ nibble l → option_map (λ ns. old ++ ns) (pairs_in rest) ≡ whole → option_map (λ ns. new ++ ns) (pairs_in left) ≡ whole
pairs_step old new rest behind left whole h l high low e f g i j k =
    let cut : rest ≡ h ∷ l ∷ left = e ∙ ap (λ (x : List ℕ). h ∷ x) f in
    let now : option_map (λ ns. old ++ ns) (pairs_in (h ∷ l ∷ left)) ≡ whole = rw cut at k in
    rw g (pairs_more old left whole h l high low (sym i) (sym j) now)
