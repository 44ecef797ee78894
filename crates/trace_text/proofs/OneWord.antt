-- One word, both ways: what is written of a value is read as it, and what is read as a value is written so.
use Rattle.std.proofs.Common.{◌≡◌, ℕ, ◌+◌, ◌*◌, ◌-◌, ◌/◌, ◌%◌, ◌^◌, ◌<◌, ◌≤◌, Bool, true, false, cond, eqb, ltb, leb, not, ◌&&◌, ◌||◌, List, [], ◌∷◌, ◌++◌, length, get_or, Option, Some, None, refl, sym, ap, subst, ◌∙◌, inl, inr, arith, rules, tests}
use Rattle.std.specs.Prelude.{map, decimal, codes}
use Rattle.std.specs.List.{flat_map, join_with_byte, All, AllByRecursion, list_all}
use Rattle.std.specs.Char.{is_ascii_digit}
use Rattle.std.specs.Str.{bytes_eq, all_ascii_digits}
use Rattle.std.specs.Str.Parse.{digits_value}
use Rattle.std.proofs.lemmas.Bool.{cases_Bool, cases_lt, lt-ltb, ltb-true, le-leb, leb-true, le-ltb, lt-leb, ne_eqb, eq-eqb, eqb-true, eqb-false, not-true, and_parts, or_cases}
use Rattle.std.proofs.lemmas.List.Splits.{slice_split_at, slice_split_none, join_with_byte-slice_split}
use Rattle.std.proofs.lemmas.List.Elements.{All-from_recursion, All-append, All-cons}
use Rattle.std.proofs.lemmas.Fmt.{decimal_is_IsNumeral, first_decimal, decimal_digit, decimal-digits_value, digits_value-decimal, digits_decimal}
use Rattle.std.proofs.lemmas.Str.Parse.{IsNumeralModel, numerals_by_value, tells_all_ascii_digits}
use Rattle.std.proofs.lemmas.Slice.Eq.{bytes_eq-Decides}
use Rattle.slot_space.specs.declared.names.Tid.{Tid}
use Rattle.trace_text.specs.Words.{tid_text, slots_text, glyph, byte_text, bytes_text, reply_text}
use Rattle.trace_text.specs.Fits.{FitsTid, AscendFrom, FitsSlots, AreBytes}
use Rattle.trace_text.specs.Reading.{◌>>=◌, only_if, parts, is_number, number_at, tid_in, tid_at, slots_from, slots_at, nibble, pairs_in, bytes_at, reply_at}
use Rattle.std.proofs.lemmas.List.{append-nil}
use Rattle.trace_text.proofs.Digits.{some_parts}

abbrev pub some : {A : Type 0} → A → Option A
some x = Some x

pub some_is : {A : Type 0} (x y : A) → some x ≡ some y → x ≡ y
some_is x y e = cc

pub bind_some : {A B : Type 0} (o : Option A) (f : A → Option B) (y : B) → (o >>= f) ≡ Some y → (x : A) × (o ≡ Some x) × (f x ≡ Some y)
bind_some None f y e = absurd cc
bind_some (Some x) f y e = (x, refl, e)

pub only_some : {A : Type 0} (b : Bool) (x y : A) → only_if b x ≡ Some y → (b ≡ true) × (x ≡ y)
only_some true x y e = (refl, some_is x y e)
only_some false x y e = absurd cc

-- ---- numbers

pub own : IsNumeralModel (λ ds. all_ascii_digits ds ≡ true) (digits_value 10)
own = numerals_by_value (λ ds. all_ascii_digits ds ≡ true) tells_all_ascii_digits

-- no zero in front, or it alone
has_one_form : (n : ℕ) → n < 2 ^ 64 → (not (eqb (get_or (decimal n) 0 0) 48) || eqb (length (decimal n)) 1) ≡ true
has_one_form n h =
    elim (cases_lt 0 n) [
      | inl more ↦ let ne : eqb (get_or (decimal n) 0 0) 48 ≡ false = ne_eqb _ 48 (λ e. absurd (omega (arith, first_decimal n more h))) in rw ne refl
      | inr none ↦ let z : n ≡ 0 = omega arith in let one : decimal 0 ≡ 48 ∷ [] = decimal_digit 0 (omega arith) in rw (z, one) refl
    ]

pub number_again : (last n : ℕ) → n ≤ last → last < 2 ^ 64 → number_at last (decimal n) ≡ Some n
unfolding number_at
number_again last n le h =
    let short : n < 2 ^ 64 = omega (arith, le, h) in
    let digits : all_ascii_digits (decimal n) ≡ true = digits_decimal own n short in
    let value : digits_value 10 (decimal n) ≡ n = digits_value-decimal own n short in
    let some_digit : eqb (length (decimal n)) 0 ≡ false = ne_eqb (length (decimal n)) 0 (λ e. absurd (omega (arith, (decimal_is_IsNumeral n short).0.0))) in
    let within : leb n last ≡ true = le-leb n last le in
    rw (some_digit, digits, has_one_form n short, value, within) refl

pub number_sound : (last : ℕ) (w : List ℕ) (n : ℕ) → last < 2 ^ 64 → number_at last w ≡ Some n → (n ≤ last) × (decimal n ≡ w)
unfolding number_at
number_sound last w n h e =
    let p = only_some (is_number w && leb (digits_value 10 w) last) (digits_value 10 w) n e in
    let tests_of = and_parts (is_number w) (leb (digits_value 10 w) last) p.0 in
    let forms = and_parts (not (eqb (length w) 0)) (all_ascii_digits w && (not (eqb (get_or w 0 0) 48) || eqb (length w) 1)) tests_of.0 in
    let inner = and_parts (all_ascii_digits w) (not (eqb (get_or w 0 0) 48) || eqb (length w) 1) forms.1 in
    let within : digits_value 10 w ≤ last = leb-true (digits_value 10 w) last tests_of.1 in
    let some_digit : 0 < length w = omega (arith, eqb-false (length w) 0 (not-true (eqb (length w) 0) forms.0)) in
    let one : get_or w 0 0 ≡ 48 → length w ≡ 1 = λ z. elim (or_cases (not (eqb (get_or w 0 0) 48)) (eqb (length w) 1) inner.1) [
      | inl other ↦ absurd (eqb-false (get_or w 0 0) 48 (not-true (eqb (get_or w 0 0) 48) other) z)
      | inr single ↦ eqb-true (length w) 1 single
    ] in
    (omega (arith, within, p.1), ap decimal (sym p.1) ∙ decimal-digits_value own w inner.0 some_digit one (omega (arith, within, h)))

-- ---- words without blanks, newlines, commas and dots

abbrev pub IsApart : ℕ → List ℕ → Type 0
IsApart c bs = All (λ b. eqb b c ≡ false) bs

digits_apart : (c : ℕ) (ds : List ℕ) → c < 48 → all_ascii_digits ds ≡ true → AllByRecursion (λ b. eqb b c ≡ false) ds
digits_apart c [] lt h = tt
digits_apart c (d ∷ ds) lt h =
    let p = and_parts (is_ascii_digit d) (all_ascii_digits ds) h in
    (search (rules, tests, p.0, lt), digits_apart c ds lt p.1)

pub number_apart : (c n : ℕ) → c < 48 → n < 2 ^ 64 → IsApart c (decimal n)
number_apart c n lt h = All-from_recursion (λ b. eqb b c ≡ false) (decimal n) (digits_apart c (decimal n) lt (digits_decimal own n h))

pub joined_apart : (c d : ℕ) (xs ys : List ℕ) → eqb d c ≡ false → IsApart c xs → IsApart c ys → IsApart c (xs ++ d ∷ ys)
joined_apart c d xs ys e h k = All-append (λ b. eqb b c ≡ false) xs (d ∷ ys) h (All-cons (λ b. eqb b c ≡ false) d ys e k)

pub last_part : (c : ℕ) (xs : List ℕ) → IsApart c xs → parts c xs ≡ xs ∷ []
last_part c xs h = slice_split_none (λ b. eqb b c) xs h

pub first_part : (c : ℕ) (xs ys : List ℕ) → IsApart c xs → parts c (xs ++ c ∷ ys) ≡ xs ∷ parts c ys
first_part c xs ys h = slice_split_at (λ b. eqb b c) xs c ys h (eq-eqb c c refl)

-- no byte is a blank or below
abbrev pub plain : List ℕ → Bool
plain w = list_all (λ b. ltb 32 b) w

-- ---- names

pub tid_apart : (c : ℕ) (t : Tid) → c < 46 → FitsTid t → IsApart c (tid_text t)
tid_apart c t lt fits =
    joined_apart c 46 (decimal t.home) (decimal t.seq) (ne_eqb 46 c (λ e. absurd (omega arith))) (number_apart c t.home (omega arith) (omega (arith, fits.0))) (number_apart c t.seq (omega arith) (omega (arith, fits.1)))

pub tid_again : (t : Tid) → FitsTid t → tid_at (tid_text t) ≡ Some t
unfolding tid_at
tid_again t fits =
    let home = number_apart 46 t.home (omega arith) (omega (arith, fits.0)) in
    let seq = number_apart 46 t.seq (omega arith) (omega (arith, fits.1)) in
    let cut : parts 46 (tid_text t) ≡ decimal t.home ∷ decimal t.seq ∷ [] = first_part 46 (decimal t.home) (decimal t.seq) home ∙ ap (λ (x : List (List ℕ)). decimal t.home ∷ x) (last_part 46 (decimal t.seq) seq) in
    rw (cut, number_again 255 t.home (omega (arith, fits.0)) (omega arith), number_again 4294967295 t.seq (omega (arith, fits.1)) (omega arith)) refl

abbrev tid : ℕ → ℕ → Tid
tid h s = record { home = h; seq = s }

tid_in_sound : (ps : List (List ℕ)) (t : Tid) → tid_in ps ≡ Some t → FitsTid t × (tid_text t ≡ join_with_byte 46 ps)
tid_in_sound [] t e = absurd cc
tid_in_sound (a ∷ []) t e = absurd cc
tid_in_sound (a ∷ b ∷ c ∷ ps) t e = absurd cc
tid_in_sound (a ∷ b ∷ []) t e =
    let h = bind_some (number_at 255 a) (λ (h : ℕ). number_at 4294967295 b >>= λ (s : ℕ). some (tid h s)) t e in
    let s = bind_some (number_at 4294967295 b) (λ (s : ℕ). some (tid h.0 s)) t h.2 in
    let home = number_sound 255 a h.0 (omega arith) h.1 in
    let seq = number_sound 4294967295 b s.0 (omega arith) s.1 in
    let same : tid h.0 s.0 ≡ t = some_is (tid h.0 s.0) t s.2 in
    let fits : FitsTid (tid h.0 s.0) = (omega (arith, home.0), omega (arith, seq.0)) in
    let text : tid_text (tid h.0 s.0) ≡ a ++ 46 ∷ b = ap (λ (x : List ℕ). x ++ 46 ∷ decimal s.0) home.1 ∙ ap (λ (x : List ℕ). a ++ 46 ∷ x) seq.1 in
    (subst FitsTid same fits, ap tid_text (sym same) ∙ text)

pub tid_sound : (w : List ℕ) (t : Tid) → tid_at w ≡ Some t → FitsTid t × (tid_text t ≡ w)
unfolding tid_at
tid_sound w t e = let p = tid_in_sound (parts 46 w) t e in (p.0, p.1 ∙ join_with_byte-slice_split 46 w)

-- ---- slots

abbrev commas : List ℕ → List ℕ
commas ns = flat_map (λ m. 44 ∷ decimal m) ns

slots_cut : (n : ℕ) (ns : List ℕ) (least : ℕ) → AscendFrom least (n ∷ ns) → parts 44 (decimal n ++ commas ns) ≡ map decimal (n ∷ ns)
slots_cut n [] least h = rw append-nil (last_part 44 (decimal n) (number_apart 44 n (omega arith) (omega (arith, h.1))))
slots_cut n (m ∷ ns) least h =
    first_part 44 (decimal n) (decimal m ++ commas ns) (number_apart 44 n (omega arith) (omega (arith, h.1)))
    ∙ ap (λ (fs : List (List ℕ)). decimal n ∷ fs) (slots_cut m ns (n + 1) h.2)

slots_from_again : (ns : List ℕ) (least : ℕ) → AscendFrom least ns → slots_from least (map decimal ns) ≡ Some ns
slots_from_again [] least h = refl
slots_from_again (n ∷ ns) least h =
    let within : leb least n ≡ true = le-leb least n h.0 in
    rw (number_again 65535 n (omega (arith, h.1)) (omega arith), within, slots_from_again ns (n + 1) h.2) refl

-- a number doesn't begin as the sign for none
pub not_none : (ds rest : List ℕ) → 0 < length ds → all_ascii_digits ds ≡ true → bytes_eq (ds ++ rest) (codes "-") ≡ false
not_none [] rest lt h = absurd (omega arith)
not_none (d ∷ ds) rest lt h =
    let p = and_parts (is_ascii_digit d) (all_ascii_digits ds) h in
    let ne : eqb d 45 ≡ false = search (rules, tests, p.0) in rw ne refl

pub slots_again : (ns : List ℕ) → FitsSlots ns → slots_at (slots_text ns) ≡ Some ns
unfolding slots_at
slots_again [] h = refl
slots_again (n ∷ ns) h =
    let short : n < 2 ^ 64 = omega (arith, h.1) in
    let is_list : bytes_eq (decimal n ++ commas ns) (codes "-") ≡ false = not_none (decimal n) (commas ns) (decimal_is_IsNumeral n short).0.0 (digits_decimal own n short) in
    rw (is_list, slots_cut n ns 0 h, slots_from_again (n ∷ ns) 0 h) refl

slots_from_sound : (ps : List (List ℕ)) (least : ℕ) (ns : List ℕ) → slots_from least ps ≡ Some ns → AscendFrom least ns × (map decimal ns ≡ ps)
slots_from_sound [] least ns e = let same : [] ≡ ns = some_is [] ns e in (subst (AscendFrom least) same tt, ap (map decimal) (sym same))
slots_from_sound (p ∷ ps) least ns e =
    let n = bind_some (number_at 65535 p) (λ (n : ℕ). cond (leb least n) (slots_from (n + 1) ps >>= λ (ms : List ℕ). some (n ∷ ms)) None) ns e in
    let number = number_sound 65535 p n.0 (omega arith) n.1 in
    elim (cases_Bool (leb least n.0)) [
      | inl is ↦
          let more : (slots_from (n.0 + 1) ps >>= λ (ms : List ℕ). some (n.0 ∷ ms)) ≡ Some ns = rw is at n.2 in
          let ms = bind_some (slots_from (n.0 + 1) ps) (λ (ms : List ℕ). some (n.0 ∷ ms)) ns more in
          let others = slots_from_sound ps (n.0 + 1) ms.0 ms.1 in
          let same : n.0 ∷ ms.0 ≡ ns = some_is (n.0 ∷ ms.0) ns ms.2 in
          let least_is : least ≤ n.0 = leb-true least n.0 is in
          let fits : AscendFrom least (n.0 ∷ ms.0) = (least_is, omega (arith, number.0), others.0) in
          let text : map decimal (n.0 ∷ ms.0) ≡ p ∷ ps = ap (λ (x : List ℕ). x ∷ map decimal ms.0) number.1 ∙ ap (λ (x : List (List ℕ)). p ∷ x) others.1 in
          (subst (AscendFrom least) same fits, ap (map decimal) (sym same) ∙ text)
      | inr isnt ↦ let no : None ≡ some ns = rw isnt at n.2 in absurd cc
    ]

joined : (n : ℕ) (ns : List ℕ) → decimal n ++ commas ns ≡ join_with_byte 44 (map decimal (n ∷ ns))
joined n [] = append-nil (decimal n)
joined n (m ∷ ns) = ap (λ (t : List ℕ). decimal n ++ 44 ∷ t) (joined m ns)

slots_joined : (ns : List ℕ) (ps : List (List ℕ)) → 0 < length ps → map decimal ns ≡ ps → slots_text ns ≡ join_with_byte 44 ps
slots_joined [] ps lt e = absurd (omega (arith, ap length e))
slots_joined (n ∷ ns) ps lt e = joined n ns ∙ ap (join_with_byte 44) e

pub slots_sound : (w ns : List ℕ) → slots_at w ≡ Some ns → FitsSlots ns × (slots_text ns ≡ w)
unfolding slots_at
slots_sound w ns e =
    elim (cases_Bool (bytes_eq w (codes "-"))) [
      | inl is ↦
          let none : some [] ≡ some ns = rw is at e in
          let same : [] ≡ ns = some_is [] ns none in
          (subst FitsSlots same tt, ap slots_text (sym same) ∙ sym ((bytes_eq-Decides w (codes "-")).0 is))
      | inr isnt ↦
          let read : slots_from 0 (parts 44 w) ≡ Some ns = rw isnt at e in
          let all = slots_from_sound (parts 44 w) 0 ns read in
          (all.0, slots_joined ns (parts 44 w) (some_parts 44 w) all.1 ∙ join_with_byte-slice_split 44 w)
    ]

-- ---- bytes

nibble_again : (n : ℕ) → n < 16 → nibble (glyph n) ≡ Some n
nibble_again n lt =
    elim (cases_lt n 10) [
      | inl small ↦
          let is : ltb n 10 ≡ true = lt-ltb n 10 small in
          let low : leb 48 (48 + n) ≡ true = le-leb 48 (48 + n) (omega arith) in
          let high : leb (48 + n) 57 ≡ true = le-leb (48 + n) 57 (omega (arith, small)) in
          let value : 48 + n - 48 ≡ n = omega arith in
          rw (is, low, high, value) refl
      | inr large ↦
          let is : ltb n 10 ≡ false = le-ltb n 10 large in
          let high : leb (87 + n) 57 ≡ false = lt-leb (87 + n) 57 (omega (arith, large)) in
          let low : leb 48 (87 + n) ≡ true = le-leb 48 (87 + n) (omega arith) in
          let from_a : leb 97 (87 + n) ≡ true = le-leb 97 (87 + n) (omega (arith, large)) in
          let to_f : leb (87 + n) 102 ≡ true = le-leb (87 + n) 102 (omega (arith, lt)) in
          let value : 87 + n - 87 ≡ n = omega arith in
          rw (is, low, high, from_a, to_f, value) refl
    ]

nibble_sound : (c n : ℕ) → nibble c ≡ Some n → (n < 16) × (glyph n ≡ c)
nibble_sound c n e =
    elim (cases_Bool (leb 48 c && leb c 57)) [
      | inl is ↦
          let p = and_parts (leb 48 c) (leb c 57) is in
          let low = leb-true 48 c p.0 in
          let high = leb-true c 57 p.1 in
          let now : some (c - 48) ≡ some n = rw is at e in
          let same : c - 48 ≡ n = some_is (c - 48) n now in
          let small : ltb n 10 ≡ true = lt-ltb n 10 (omega (arith, same, low, high)) in
          let value : 48 + n ≡ c = omega (arith, same, low) in
          (omega (arith, same, low, high), rw small value)
      | inr isnt ↦
          let now : only_if (leb 97 c && leb c 102) (c - 87) ≡ Some n = rw isnt at e in
          let q = only_some (leb 97 c && leb c 102) (c - 87) n now in
          let p = and_parts (leb 97 c) (leb c 102) q.0 in
          let low = leb-true 97 c p.0 in
          let high = leb-true c 102 p.1 in
          let large : ltb n 10 ≡ false = le-ltb n 10 (omega (arith, q.1, low)) in
          let value : 87 + n ≡ c = omega (arith, q.1, low) in
          (omega (arith, q.1, low, high), rw large value)
    ]

pairs_again : (bs : List ℕ) → AreBytes bs → pairs_in (flat_map byte_text bs) ≡ Some bs
pairs_again [] h = refl
pairs_again (b ∷ bs) h =
    let value : b / 16 * 16 + b % 16 ≡ b = omega arith in
    rw (nibble_again (b / 16) (omega (arith, h.0)), nibble_again (b % 16) (omega arith), pairs_again bs h.1, value) refl

pairs_sound : (w bs : List ℕ) → pairs_in w ≡ Some bs → AreBytes bs × (flat_map byte_text bs ≡ w)
pairs_sound [] bs e = let same : [] ≡ bs = some_is [] bs e in (subst AreBytes same tt, ap (flat_map byte_text) (sym same))
pairs_sound (c ∷ []) bs e = absurd cc
pairs_sound (c ∷ d ∷ w) bs e =
    let h = bind_some (nibble c) (λ (h : ℕ). nibble d >>= λ (l : ℕ). pairs_in w >>= λ (more : List ℕ). some ((h * 16 + l) ∷ more)) bs e in
    let l = bind_some (nibble d) (λ (l : ℕ). pairs_in w >>= λ (more : List ℕ). some ((h.0 * 16 + l) ∷ more)) bs h.2 in
    let m = bind_some (pairs_in w) (λ (more : List ℕ). some ((h.0 * 16 + l.0) ∷ more)) bs l.2 in
    let high = nibble_sound c h.0 h.1 in
    let low = nibble_sound d l.0 l.1 in
    let others = pairs_sound w m.0 m.1 in
    let same : (h.0 * 16 + l.0) ∷ m.0 ≡ bs = some_is ((h.0 * 16 + l.0) ∷ m.0) bs m.2 in
    let fits : AreBytes ((h.0 * 16 + l.0) ∷ m.0) = (omega (arith, high.0, low.0), others.0) in
    let upper : (h.0 * 16 + l.0) / 16 ≡ h.0 = omega (arith, low.0) in
    let lower : (h.0 * 16 + l.0) % 16 ≡ l.0 = omega (arith, low.0) in
    let text : flat_map byte_text ((h.0 * 16 + l.0) ∷ m.0) ≡ c ∷ d ∷ w = rw (upper, lower, high.1, low.1, others.1) refl in
    (subst AreBytes same fits, ap (flat_map byte_text) (sym same) ∙ text)

and_false : (b : Bool) → (b && false) ≡ false
and_false true = refl
and_false false = refl

pub bytes_again : (bs : List ℕ) → AreBytes bs → bytes_at (bytes_text bs) ≡ Some bs
unfolding bytes_at
bytes_again [] h = refl
bytes_again (b ∷ bs) h = rw (pairs_again (b ∷ bs) h, and_false (eqb (glyph (b / 16)) 45)) refl

some_bytes : (bs : List ℕ) (c : ℕ) (w : List ℕ) → flat_map byte_text bs ≡ c ∷ w → bytes_text bs ≡ c ∷ w
some_bytes [] c w e = absurd cc
some_bytes (b ∷ bs) c w e = e

pub bytes_sound : (w bs : List ℕ) → bytes_at w ≡ Some bs → AreBytes bs × (bytes_text bs ≡ w)
unfolding bytes_at
bytes_sound [] bs e = absurd cc
bytes_sound (c ∷ w) bs e =
    elim (cases_Bool (bytes_eq (c ∷ w) (codes "-"))) [
      | inl is ↦
          let none : some [] ≡ some bs = rw is at e in
          let same : [] ≡ bs = some_is [] bs none in
          (subst AreBytes same tt, ap bytes_text (sym same) ∙ sym ((bytes_eq-Decides (c ∷ w) (codes "-")).0 is))
      | inr isnt ↦
          let read : pairs_in (c ∷ w) ≡ Some bs = rw isnt at e in
          let all = pairs_sound (c ∷ w) bs read in
          (all.0, some_bytes bs c w all.1)
    ]

-- ---- replies

unsigned : (n : ℕ) (w : List ℕ) → w ≡ decimal n → n < 2 ^ 63 → reply_at w ≡ Some n
unfolding reply_at
unsigned n [] e lt = absurd (omega (arith, (decimal_is_IsNumeral n (omega (arith, lt))).0.0, ap length e))
unsigned n (c ∷ w) e lt =
    let digits : all_ascii_digits (c ∷ w) ≡ true = ap all_ascii_digits e ∙ digits_decimal own n (omega (arith, lt)) in
    let p = and_parts (is_ascii_digit c) (all_ascii_digits w) digits in
    let ne : eqb c 45 ≡ false = search (rules, tests, p.0) in
    rw ne (ap (number_at (2 ^ 63 - 1)) e ∙ number_again (2 ^ 63 - 1) n (omega (arith, lt)) (omega arith))

pub reply_again : (n : ℕ) → n < 2 ^ 64 → reply_at (reply_text n) ≡ Some n
unfolding reply_at
reply_again n lt =
    elim (cases_lt n (2 ^ 63)) [
      | inl small ↦
          let is : ltb n (2 ^ 63) ≡ true = lt-ltb n (2 ^ 63) small in
          rw is (unsigned n (decimal n) refl small)
      | inr large ↦
          let is : ltb n (2 ^ 63) ≡ false = le-ltb n (2 ^ 63) large in
          let more : ltb 0 (2 ^ 64 - n) ≡ true = lt-ltb 0 (2 ^ 64 - n) (omega (arith, lt)) in
          let value : 2 ^ 64 - (2 ^ 64 - n) ≡ n = omega (arith, lt) in
          rw (is, number_again (2 ^ 63) (2 ^ 64 - n) (omega (arith, large)) (omega arith), more, value) refl
    ]

pub reply_sound : (w : List ℕ) (n : ℕ) → reply_at w ≡ Some n → (n < 2 ^ 64) × (reply_text n ≡ w)
unfolding reply_at
reply_sound [] n e = absurd cc
reply_sound (c ∷ w) n e =
    elim (cases_Bool (eqb c 45)) [
      | inl is ↦
          let now : (number_at (2 ^ 63) w >>= λ (m : ℕ). only_if (ltb 0 m) (2 ^ 64 - m)) ≡ Some n = rw is at e in
          let m = bind_some (number_at (2 ^ 63) w) (λ (m : ℕ). only_if (ltb 0 m) (2 ^ 64 - m)) n now in
          let number = number_sound (2 ^ 63) w m.0 (omega arith) m.1 in
          let q = only_some (ltb 0 m.0) (2 ^ 64 - m.0) n m.2 in
          let more = ltb-true 0 m.0 q.0 in
          let large : ltb n (2 ^ 63) ≡ false = le-ltb n (2 ^ 63) (omega (arith, q.1, number.0)) in
          let value : 2 ^ 64 - n ≡ m.0 = omega (arith, q.1, number.0) in
          let minus : c ≡ 45 = eqb-true c 45 is in
          (omega (arith, q.1, more), rw (large, value, number.1, minus) refl)
      | inr isnt ↦
          let now : number_at (2 ^ 63 - 1) (c ∷ w) ≡ Some n = rw isnt at e in
          let number = number_sound (2 ^ 63 - 1) (c ∷ w) n (omega arith) now in
          let small : ltb n (2 ^ 63) ≡ true = lt-ltb n (2 ^ 63) (omega (arith, number.0)) in
          (omega (arith, number.0), rw small number.1)
    ]
