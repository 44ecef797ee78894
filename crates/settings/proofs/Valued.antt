-- A flag with a value has no settings.
use Rattle.std.proofs.Common.{◌≡◌, subst, refl, ◌==◌, ◌||◌, Bool, true, false, List, [], ◌∷◌, map, All, Option, Some, None}
use Rattle.std.specs.Prelude.{codes}
use Rattle.std.specs.Str.{bytes_eq}
use Rattle.std.specs.List.{list_all, list_any}
use Rattle.std.proofs.lemmas.List.Elements.{All-cons, All-nil}
use Rattle.words.specs.Words.{Form, GrammarOf, Item, Text, end, file, form_of, has, is_clean, is_name, items_from, items_of, long, long_items, plain, value_items, values, with_item, word_items}
use Rattle.words.proofs.Lemmas.{same_text}
use Rattle.std.proofs.lemmas.Bool.{and_parts}
use Rattle.settings.specs.declared.verb.Verb.{Verb}
use Rattle.settings.specs.declared.verb.Verb.TheVariants as verb
use Rattle.settings.specs.declared.command.Command.{Command}
use Rattle.settings.specs.Numbers.{flags, moves, summary}
use Rattle.settings.specs.Settings.{IsWithoutValue, chosen_by, command_of, gives_value, grammar_of, settings_by, settings_of, gives_in, verb_of}
use Rattle.settings.proofs.Twice.{good_names, verb_is_plain}

-- ---- the words of a command

no_value : (name word : Text) → is_name word ≡ true → gives_value name word ≡ false
no_value name [] h = cc
no_value name (b ∷ bs) h = at_byte (b == 45) refl
  where
    at_byte : (c : Bool) → (b == 45) ≡ c → gives_value name (b ∷ bs) ≡ false
    at_byte true e = let bad : is_name (b ∷ bs) ≡ false = rw e refl in cc
    at_byte false e = rw e refl

no_values : (name : Text) (words : List Text) → list_all is_name (values file (map (λ w. (file, w)) words)) ≡ true → list_any (gives_value name) words ≡ false
no_values name [] h = refl
no_values name (w ∷ ws) h =
    let both = and_parts (is_name w) (list_all is_name (values file (map (λ v. (file, v)) ws))) h in
    rw (no_value name w both.0) (no_values name ws both.1)

later_names : (p : Item) (items : List Item) (b : Bool) → bytes_eq p.0 file ≡ b → list_all is_name (values file (p ∷ items)) ≡ true → list_all is_name (values file items) ≡ true
later_names p items true e h = (and_parts (is_name p.1) (list_all is_name (values file items)) (rw e at h)).1
later_names p items false e h = rw e at h

other_name : (names : List Text) (n name : Text) → has n names ≡ true → has name names ≡ false → (b : Bool) → bytes_eq n name ≡ b → bytes_eq n name ≡ false
other_name names n name some none true e = let bad = rw (same_text n name e) at some in cc
other_name names n name some none false e = e

-- what is to be shown of the words from here on
abbrev HasNoValue : GrammarOf → Text → Option Text → List Text → Type 0
HasNoValue g name waiting words = (items : List Item) → items_from g waiting words ≡ Some items → list_all is_name (values file items) ≡ true → list_any (gives_value name) words ≡ false

-- with one item, and then the rest
with_one : (g : GrammarOf) (name : Text) (words : List Text) → HasNoValue g name None words → (item : Item) (more : Option (List Item)) → items_from g None words ≡ more → (items : List Item) → with_item item more ≡ Some items
    → list_all is_name (values file items) ≡ true → list_any (gives_value name) words ≡ false
with_one g name words h item None em items e good = cc
with_one g name words h item (Some rest) em items e good =
    let all : items ≡ item ∷ rest = cc in
    let P : List Item → Type 0 = λ l. list_all is_name (values file l) ≡ true in
    h rest em (later_names item rest (bytes_eq item.0 file) refl (subst P all good))

at_value : (g : GrammarOf) (name option word : Text) (words : List Text) → HasNoValue g name None words → (f : Form) → form_of word ≡ f → (items : List Item)
    → value_items option f word (items_from g None words) ≡ Some items → list_all is_name (values file items) ≡ true → list_any (gives_value name) (word ∷ words) ≡ false
at_value g name option word words h end ef items e good = cc
at_value g name option word words h (long n value) ef items e good = cc
at_value g name option word words h plain ef items e good = rw ef (with_one g name words h (option, word) (items_from g None words) refl items e good)

at_long : (g : GrammarOf) (name n : Text) (words : List Text) → has name g.options ≡ false → ((waiting : Option Text) → HasNoValue g name waiting words) → (o f : Bool) → has n g.options ≡ o → has n g.flags ≡ f
    → (value : Option Text) (items : List Item) → long_items g n value (λ waiting. items_from g waiting words) ≡ Some items → list_all is_name (values file items) ≡ true
    → (gives_in name (long n value) || list_any (gives_value name) words) ≡ false
at_long g name n words no_option h true f eo ef (Some v) items e good =
    rw (other_name g.options n name eo no_option (bytes_eq n name) refl) (with_one g name words (h None) (n, v) (items_from g None words) refl items (rw eo at e) good)
at_long g name n words no_option h true f eo ef None items e good = h (Some n) items (rw eo at e) good
at_long g name n words no_option h false true eo ef (Some v) items e good = let bad = rw (eo, ef) at e in cc
at_long g name n words no_option h false true eo ef None items e good = with_one g name words (h None) (n, codes "true") (items_from g None words) refl items (rw (eo, ef) at e) good
at_long g name n words no_option h false false eo ef value items e good = let bad = rw (eo, ef) at e in cc

at_word : (g : GrammarOf) (name word : Text) (words : List Text) → has name g.options ≡ false → ((waiting : Option Text) → HasNoValue g name waiting words) → (f : Form) → form_of word ≡ f → (items : List Item)
    → word_items g f word words (λ waiting. items_from g waiting words) ≡ Some items → list_all is_name (values file items) ≡ true → list_any (gives_value name) (word ∷ words) ≡ false
at_word g name word words no_option h end ef items e good =
    let same : items ≡ map (λ w. (file, w)) words = cc in
    let P : List Item → Type 0 = λ l. list_all is_name (values file l) ≡ true in
    rw ef (no_values name words (subst P same good))
at_word g name word words no_option h plain ef items e good = rw ef (with_one g name words (h None) (file, word) (items_from g None words) refl items e good)
at_word g name word words no_option h (long n value) ef items e good = rw ef (at_long g name n words no_option h (has n g.options) (has n g.flags) refl refl value items e good)

from_here : (g : GrammarOf) (name : Text) → has name g.options ≡ false → (words : List Text) (waiting : Option Text) → HasNoValue g name waiting words
from_here g name no_option [] waiting items e good = refl
from_here g name no_option (word ∷ words) None items e good = at_word g name word words no_option (λ waiting. from_here g name no_option words waiting) (form_of word) refl items e good
from_here g name no_option (word ∷ words) (Some option) items e good = at_value g name option word words (λ l. from_here g name no_option words None l) (form_of word) refl items e good

-- items of clean words are items from the start
items_are : (g : GrammarOf) (words : List Text) (items : List Item) (b : Bool) → list_all is_clean words ≡ b → items_of g words ≡ Some items → items_from g None words ≡ Some items
items_are g words items true c e = rw c at e
items_are g words items false c e = let bad = rw c at e in cc

-- ---- the words of a command line

-- no command has an option of this name
abbrev IsNoOption : Text → Type 0
IsNoOption name = (verb : Verb) → has name (grammar_of verb).options ≡ false

by_command : (name : Text) (verb : Verb) (items : List Item) (c : Option Command) → command_of verb (values file items) ≡ c → (list_all is_name (values file items) ≡ true → ⊥) → chosen_by verb (λ n. values n items) ≡ None
by_command name verb items None ec bad = rw ec refl
by_command name verb items (Some command) ec bad = absurd (bad (good_names verb (values file items) command ec))

both_ways : (b : Bool) → b ≡ true → b ≡ false → ⊥
both_ways b h e = cc

by_items : (name : Text) → IsNoOption name → (verb : Verb) (words : List Text) (i : Option (List Item)) → items_of (grammar_of verb) words ≡ i → list_any (gives_value name) words ≡ true → settings_by verb words ≡ None
by_items name no_option verb words None ei h = rw ei refl
by_items name no_option verb words (Some items) ei h =
    let g = grammar_of verb in
    let bad : list_all is_name (values file items) ≡ true → ⊥ =
    λ names. both_ways (list_any (gives_value name) words) h (from_here g name (no_option verb) words None items (items_are g words items (list_all is_clean words) refl ei) names) in
    rw ei (by_command name verb items (command_of verb (values file items)) refl bad)

behind_verb : (name word : Text) (words : List Text) → form_of word ≡ plain → list_any (gives_value name) (word ∷ words) ≡ true → list_any (gives_value name) words ≡ true
behind_verb name word words e h = rw e at h

by_verb : (name : Text) → IsNoOption name → (word : Text) (words : List Text) (v : Option Verb) → verb_of word ≡ v → list_any (gives_value name) (word ∷ words) ≡ true → settings_of (word ∷ words) ≡ None
by_verb name no_option word words None ev h = rw ev refl
by_verb name no_option word words (Some verb) ev h =
    rw ev (by_items name no_option verb words (items_of (grammar_of verb) words) refl (behind_verb name word words (verb_is_plain word verb ev) h))

without_value : (name : Text) → IsNoOption name → IsWithoutValue name
without_value name no_option [] h = refl
without_value name no_option (word ∷ words) h = by_verb name no_option word words (verb_of word) refl h

moves_is_no_option : IsNoOption moves
moves_is_no_option verb.Asm = refl
moves_is_no_option verb.Run = refl
moves_is_no_option verb.Sim = refl
moves_is_no_option verb.Replay = refl
moves_is_no_option verb.Stress = refl

summary_is_no_option : IsNoOption summary
summary_is_no_option verb.Asm = refl
summary_is_no_option verb.Run = refl
summary_is_no_option verb.Sim = refl
summary_is_no_option verb.Replay = refl
summary_is_no_option verb.Stress = refl

pub all_without_value : All IsWithoutValue flags
all_without_value =
    All-cons IsWithoutValue moves (summary ∷ []) (without_value moves moves_is_no_option)
    (All-cons IsWithoutValue summary [] (without_value summary summary_is_no_option) (All-nil IsWithoutValue))
