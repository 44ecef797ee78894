-- Each use of an option or a flag gives it a value.
use Rattle.std.proofs.Common.{◌≡◌, ◌∙◌, sym, subst, refl, ℕ, ◌+◌, ◌≤◌, ◌==◌, Bool, true, false, not, ◌||◌, List, [], ◌∷◌, map, length, Option, Some, None, arith, zero-add}
use Rattle.std.specs.Prelude.{codes, cond, count_by, filter}
use Rattle.std.specs.Str.{bytes_eq}
use Rattle.std.specs.List.{list_all}
use Rattle.std.proofs.lemmas.List.{length-map}
use Rattle.std.proofs.lemmas.List.Recursion.{is_count_by}
use Rattle.std.proofs.lemmas.List.Sums.{length-filter}
use Rattle.words.specs.Uses.{is_use}
use Rattle.words.specs.Words.{Form, GrammarOf, Item, Text, end, file, form_of, has, is_clean, is_name, items_from, items_of, long, long_items, plain, value_items, values, with_item, word_items}
use Rattle.std.proofs.lemmas.Bool.{and_parts}

-- how many pass a test
abbrev pub tally : {X : Type 0} → (X → Bool) → List X → ℕ
tally p [] = 0
tally p (x ∷ xs) = cond (p x) 1 0 + tally p xs

pub tally_is : {X : Type 0} (p : X → Bool) (xs : List X) → tally p xs ≡ count_by p xs
tally_is p xs = is_count_by (tally p) p refl (λ x rest. one (p x) (tally p rest)) xs
  where
    one : (b : Bool) (n : ℕ) → cond b 1 0 + n ≡ cond b (1 + n) n
    one true n = refl
    one false n = zero-add n

-- how many of the items are values of this name
abbrev count : Text → List Item → ℕ
count name items = tally (λ (p : Item). bytes_eq p.0 name) items

-- an item that is no positional word, or a good one
abbrev is_good : Item → Bool
is_good p = not (bytes_eq p.0 file) || is_name p.1

-- the option that waits has been used already
abbrev waits_for : Text → Option Text → ℕ
waits_for name None = 0
waits_for name (Some option) = cond (bytes_eq option name) 1 0

no_use : (name word : Text) → is_name word ≡ true → is_use name word ≡ false
no_use name [] h = cc
no_use name (b ∷ bs) h = at_byte (b == 45) refl
  where
    at_byte : (c : Bool) → (b == 45) ≡ c → is_use name (b ∷ bs) ≡ false
    at_byte true e = let bad : is_name (b ∷ bs) ≡ false = rw e refl in cc
    at_byte false e = rw e refl

no_uses : (name : Text) (words : List Text) → list_all is_good (map (λ w. (file, w)) words) ≡ true → tally (is_use name) words ≡ 0
no_uses name [] h = refl
no_uses name (w ∷ ws) h =
    let both = and_parts (is_name w) (list_all is_good (map (λ v. (file, v)) ws)) h in
    rw (no_use name w both.0) (zero-add (tally (is_use name) ws) ∙ no_uses name ws both.1)

record Split (item : Item) (more : Option (List Item)) (items : List Item) : Type 0 where
  rest : List Item
  is : more ≡ Some rest
  all : items ≡ item ∷ rest

split : (item : Item) (more : Option (List Item)) (items : List Item) → with_item item more ≡ Some items → Split item more items
split item None items e = cc
split item (Some rest) items e = record { rest = rest; is = refl; all = cc }

-- what is to be shown of the words from here on
abbrev Counts : GrammarOf → Text → Option Text → List Text → Type 0
Counts g name waiting words = (items : List Item) → items_from g waiting words ≡ Some items → list_all is_good items ≡ true → waits_for name waiting + tally (is_use name) words ≤ count name items

-- with one item, and then the rest
with_one : (g : GrammarOf) (name : Text) (words : List Text) → Counts g name None words → (item : Item) (items : List Item) → with_item item (items_from g None words) ≡ Some items → list_all is_good items ≡ true
    → cond (bytes_eq item.0 name) 1 0 + tally (is_use name) words ≤ count name items
with_one g name words h item items e good =
    let parts = split item (items_from g None words) items e in
    let P : List Item → Type 0 = λ l. list_all is_good l ≡ true in
    let goods : list_all is_good (item ∷ parts.rest) ≡ true = subst P parts.all good in
    let rest = h parts.rest parts.is (and_parts (is_good item) (list_all is_good parts.rest) goods).1 in
    let one : count name (item ∷ parts.rest) ≡ cond (bytes_eq item.0 name) 1 0 + count name parts.rest = refl in
    let Q : List Item → Type 0 = λ l. cond (bytes_eq item.0 name) 1 0 + tally (is_use name) words ≤ count name l in
    subst Q (sym parts.all) (omega (arith, rest))

at_value : (g : GrammarOf) (name option word : Text) (words : List Text) → Counts g name None words → (f : Form) → form_of word ≡ f → (items : List Item) → value_items option f word (items_from g None words) ≡ Some items → list_all is_good items ≡ true
    → waits_for name (Some option) + tally (is_use name) (word ∷ words) ≤ count name items
at_value g name option word words h end ef items e good = cc
at_value g name option word words h (long n value) ef items e good = cc
at_value g name option word words h plain ef items e good = rw ef (omega (arith, with_one g name words h (option, word) items e good))

at_long : (g : GrammarOf) (name n : Text) (words : List Text) → ((waiting : Option Text) → Counts g name waiting words) → (o f : Bool) → has n g.options ≡ o → has n g.flags ≡ f → (value : Option Text) (items : List Item)
    → long_items g n value (λ waiting. items_from g waiting words) ≡ Some items → list_all is_good items ≡ true → cond (bytes_eq n name) 1 0 + tally (is_use name) words ≤ count name items
at_long g name n words h true f eo ef (Some v) items e good = with_one g name words (h None) (n, v) items (rw eo at e) good
at_long g name n words h true f eo ef None items e good = h (Some n) items (rw eo at e) good
at_long g name n words h false true eo ef (Some v) items e good = let bad = rw (eo, ef) at e in cc
at_long g name n words h false true eo ef None items e good = with_one g name words (h None) (n, codes "true") items (rw (eo, ef) at e) good
at_long g name n words h false false eo ef value items e good = let bad = rw (eo, ef) at e in cc

at_word : (g : GrammarOf) (name word : Text) (words : List Text) → ((waiting : Option Text) → Counts g name waiting words) → (f : Form) → form_of word ≡ f → (items : List Item) → word_items g f word words (λ waiting. items_from g waiting words) ≡ Some items → list_all is_good items ≡ true
    → tally (is_use name) (word ∷ words) ≤ count name items
at_word g name word words h end ef items e good =
    let same : items ≡ map (λ w. (file, w)) words = cc in
    let P : List Item → Type 0 = λ l. list_all is_good l ≡ true in
    rw ef (omega (arith, no_uses name words (subst P same good)))
at_word g name word words h plain ef items e good = rw ef (omega (arith, with_one g name words (h None) (file, word) items e good))
at_word g name word words h (long n value) ef items e good = rw ef (at_long g name n words h (has n g.options) (has n g.flags) refl refl value items e good)

uses_counted : (g : GrammarOf) (name : Text) (words : List Text) (waiting : Option Text) → Counts g name waiting words
uses_counted g name [] None items e good = omega arith
uses_counted g name [] (Some option) items e good = cc
uses_counted g name (word ∷ words) None items e good = omega (arith, at_word g name word words (λ waiting. uses_counted g name words waiting) (form_of word) refl items e good)
uses_counted g name (word ∷ words) (Some option) items e good = at_value g name option word words (λ l. uses_counted g name words None l) (form_of word) refl items e good

good_first : (p : Item) (items : List Item) → (list_all is_name (values file items) ≡ true → list_all is_good items ≡ true) → (b : Bool) → bytes_eq p.0 file ≡ b → list_all is_name (values file (p ∷ items)) ≡ true → list_all is_good (p ∷ items) ≡ true
good_first p items rest true e h =
    let both = and_parts (is_name p.1) (list_all is_name (values file items)) (rw e at h) in
    rw (e, both.0) (rest both.1)
good_first p items rest false e h = rw e (rest (rw e at h))

all_good : (items : List Item) → list_all is_name (values file items) ≡ true → list_all is_good items ≡ true
all_good [] h = refl
all_good (p ∷ items) h = good_first p items (all_good items) (bytes_eq p.0 file) refl h

counted_values : (name : Text) (items : List Item) → length (values name items) ≡ count name items
counted_values name items = length-map (filter (λ p. bytes_eq p.0 name) items) (λ (p : Item). p.1) ∙ length-filter (λ (p : Item). bytes_eq p.0 name) items ∙ sym (tally_is (λ (p : Item). bytes_eq p.0 name) items)

-- items of clean words are items from the start
items_are : (g : GrammarOf) (words : List Text) (items : List Item) (b : Bool) → list_all is_clean words ≡ b → items_of g words ≡ Some items → items_from g None words ≡ Some items
items_are g words items true c e = rw c at e
items_are g words items false c e = let bad = rw c at e in cc

pub uses_have_values : (g : GrammarOf) (name : Text) (words : List Text) (items : List Item) → items_of g words ≡ Some items → list_all is_name (values file items) ≡ true → count_by (is_use name) words ≤ length (values name items)
uses_have_values g name words items e names =
    omega (arith, uses_counted g name words None items (items_are g words items (list_all is_clean words) refl e) (all_good items names), counted_values name items, tally_is (is_use name) words)
