-- When the whole parse fails, and what it gives.
use Rattle.std.proofs.Common.{◌≡◌, ◌∙◌, subst, sym, ap, refl, ℕ, ◌+◌, Bool, true, false, not, ◌&&◌, ◌||◌, List, [], ◌∷◌, ◌++◌, map, Option, Some, None, is_some, add-zero, append-nil, append_assoc, Bor, take, length, get_or, ◌<◌, inl, inr}
use Rattle.std.proofs.lemmas.List.{map-append, take_more}
use Rattle.std.proofs.lemmas.List.Folds.{list_all-map}
use Rattle.std.specs.Prelude.{if◌then◌else◌, cond, fold, count_by, option_map, unwrap_or}
use Rattle.std.specs.List.{list_all, list_any}
use Rattle.clap.specs.Walk.{Held, Row, Rule, all_of, rows_of, has_row, finished, nothing_held, settled, walk, walk_from, with_default, is_early_multiple}
use Rattle.clap.specs.Faults.{built_fault, check_fault, defaults_fault, fault_of, is_free_app, is_simple_and_free, level_fault, settle_fault, walk_fault}
use Rattle.clap.specs.Takes.{is_given}
use Rattle.clap.specs.Kinds.{HasKind, IsAmong, Kinds, or_else}
use Rattle.clap.specs.Values.{kind_of}
use Rattle.clap.specs.declared.error.Error.{Error}
use Rattle.clap.specs.declared.error.kind.ErrorKind.TheVariants.{OutOfMemory}
use Rattle.clap.specs.Simple.{App, HasMatchesOf, built, with_rule, matches_of, names_of, is_simple, is_buildable, is_ready, is_ready_leaf}
use Rattle.clap.proofs.FaultLemmas.{leaf_fault}
use Rattle.words.specs.Words.{Item, GrammarOf, Text, file, has, is_clean, items_from, items_of, values}
use Rattle.words.specs.Parser.{parser_of, file_rule, flag_rule, option_rule}
use Rattle.words.proofs.Rules.{built_app, built_flag, built_option, rules, shape, with_rules}
use Rattle.words.proofs.Rows.{rows}
use Rattle.words.proofs.Walks.{Agrees, agrees}
use Rattle.std.proofs.lemmas.Bool.{and_parts}
use Rattle.words.proofs.Values.{values_at}
use Rattle.clap.proofs.WalkLemmas.{raw_values-rows}
use Rattle.clap.specs.Matches.{found_of, matched_of, raw_values}
use Rattle.clap.specs.declared.parser.matches.ArgMatches.{ArgMatches}

same_both : {X : Type 0} (b : Bool) (x : X) → (if b then x else x) ≡ x
same_both true x = refl
same_both false x = refl

-- ---- no argument has a default

no_fault : (b : Bool) (k : Kinds) → (if b || true then [] else k) ≡ []
no_fault true k = refl
no_fault false k = refl

flags_default : (rs : List Row) (xs : List Text) → defaults_fault rs (map built_flag xs) ≡ []
unfolding defaults_fault
flags_default rs [] = refl
flags_default rs (x ∷ xs) = rw (no_fault (has_row x rs), same_both (has_row x rs) rs) (flags_default rs xs)

options_default : (rs : List Row) (xs ys : List Text) → defaults_fault rs (map built_option xs ++ map built_flag ys) ≡ []
unfolding defaults_fault
options_default rs [] ys = flags_default rs ys
options_default rs (x ∷ xs) ys = rw (no_fault (has_row x rs), same_both (has_row x rs) rs) (options_default rs xs ys)

no_defaults : (t : GrammarOf) (rs : List Row) → defaults_fault rs (rules t) ≡ []
unfolding defaults_fault
no_defaults t rs = rw (no_fault (has_row file rs), same_both (has_row file rs) rs) (options_default rs t.options t.flags)

flags_finish : (rs : List Row) (xs : List Text) → fold with_default rs (map built_flag xs) ≡ rs
flags_finish rs [] = refl
flags_finish rs (x ∷ xs) = ap (λ z. fold with_default z (map built_flag xs)) (same_both (has_row x rs) rs) ∙ flags_finish rs xs

options_finish : (rs : List Row) (xs ys : List Text) → fold with_default rs (map built_option xs ++ map built_flag ys) ≡ rs
options_finish rs [] ys = flags_finish rs ys
options_finish rs (x ∷ xs) ys = ap (λ z. fold with_default z (map built_option xs ++ map built_flag ys)) (same_both (has_row x rs) rs) ∙ options_finish rs xs ys

all_finish : (t : GrammarOf) (rs : List Row) → fold with_default rs (rules t) ≡ rs
all_finish t rs = ap (λ z. fold with_default z (map built_option t.options ++ map built_flag t.flags)) (same_both (has_row file rs) rs) ∙ options_finish rs t.options t.flags

-- ---- no argument is required

flags_any : (p : Rule → Bool) → ((x : Text) → p (built_flag x) ≡ false) → (xs : List Text) → list_any p (map built_flag xs) ≡ false
flags_any p h [] = refl
flags_any p h (x ∷ xs) = rw (h x) (flags_any p h xs)

options_any : (p : Rule → Bool) → ((x : Text) → p (built_option x) ≡ false) → ((x : Text) → p (built_flag x) ≡ false) → (xs ys : List Text) → list_any p (map built_option xs ++ map built_flag ys) ≡ false
options_any p h k [] ys = flags_any p k ys
options_any p h k (x ∷ xs) ys = rw (h x) (options_any p h k xs ys)

no_check : (t : GrammarOf) (rs : List Row) → check_fault (shape t) rs false ≡ []
no_check t rs = rw (options_any (λ a. a.required && not (is_given a.id rs)) (λ x. refl) (λ x. refl) t.options t.flags) refl

-- ---- the whole parse

level_is : (t : GrammarOf) (words : List Text) → level_fault (shape t) [] nothing_held words false [] ≡ or_else (walk_fault (shape t) [] (walk_from nothing_held) words) (settle_fault (rules t) false (walk (rules t) [] nothing_held words).held)
level_is t words = rw (no_defaults t (settled (rules t) (walk (rules t) [] nothing_held words).held).rows, no_check t (finished (rules t) (walk (rules t) [] nothing_held words).held))
    (ap (λ k. or_else (walk_fault (shape t) [] (walk_from nothing_held) words) k) (or_nothing (settle_fault (rules t) false (walk (rules t) [] nothing_held words).held)))
  where
    or_nothing : (k : Kinds) → or_else k [] ≡ k
    or_nothing [] = refl
    or_nothing (k ∷ ks) = refl

fault_is : (t : GrammarOf) (words : List Text) → fault_of (parser_of t) words ≡ or_else (walk_fault (shape t) [] (walk_from nothing_held) words) (settle_fault (rules t) false (walk (rules t) [] nothing_held words).held)
fault_is t words = ap (λ (a : App). built_fault a nothing_held words) (built_app t) ∙ leaf_fault (with_rules (rules t)) nothing_held words refl ∙ level_is t words

matches_are : (t : GrammarOf) (words : List Text) → matches_of (parser_of t) words ≡ finished (rules t) (walk (rules t) [] nothing_held words).held
matches_are t words = ap (λ (a : App). finished a.top.rules (walk a.top.rules (names_of a) nothing_held words).held) (built_app t)

-- the parse fails exactly where the words have no items, and else has their rows
abbrev pub Reads : Option (List Item) → Kinds → List Row → Type 0
Reads None kinds found = (kinds ≡ []) → ⊥
Reads (Some items) kinds found = (kinds ≡ []) × (found ≡ rows items)

reads_from : (t : GrammarOf) (o : Option (List Item)) (kinds : Kinds) (h : Held) → Agrees t o kinds h → Reads o kinds (finished (rules t) h)
reads_from t None kinds h a = a
reads_from t (Some items) kinds h a = (a.0, all_finish t (settled (rules t) h).rows ∙ ap (λ (x : Held). x.rows) a.1)

pub reads : (t : GrammarOf) → has file t.options ≡ false → (words : List Text) → list_all is_clean words ≡ true → Reads (items_from t None words) (fault_of (parser_of t) words) (matches_of (parser_of t) words)
reads t n words c = rw (fault_is t words, matches_are t words) (reads_from t _ _ _ (agrees t n words c))

-- ---- the command is one whose parses are known

flags_all : (p : Rule → Bool) (f : Text → Rule) → ((x : Text) → p (f x) ≡ true) → (xs : List Text) → list_all p (map f xs) ≡ true
flags_all p f h [] = refl
flags_all p f h (x ∷ xs) = rw (h x) (flags_all p f h xs)

options_all : (p : Rule → Bool) (f g : Text → Rule) → ((x : Text) → p (f x) ≡ true) → ((x : Text) → p (g x) ≡ true) → (xs ys : List Text) → list_all p (map f xs ++ map g ys) ≡ true
options_all p f g h k [] ys = flags_all p g k ys
options_all p f g h k (x ∷ xs) ys = rw (h x) (options_all p f g h k xs ys)

abbrev count_one : ℕ → Rule → ℕ
count_one n a = n + cond (is_some a.index) 1 0

flags_count : (n : ℕ) (xs : List Text) → fold count_one n (map built_flag xs) ≡ n
flags_count n [] = refl
flags_count n (x ∷ xs) = ap (λ m. fold count_one m (map built_flag xs)) (add-zero n) ∙ flags_count n xs

options_count : (n : ℕ) (xs ys : List Text) → fold count_one n (map built_option xs ++ map built_flag ys) ≡ n
options_count n [] ys = flags_count n ys
options_count n (x ∷ xs) ys = ap (λ m. fold count_one m (map built_option xs ++ map built_flag ys)) (add-zero n) ∙ options_count n xs ys

pub is_simple_app : (t : GrammarOf) → is_simple_and_free (parser_of t) ≡ true
is_simple_app t =
    let P : App → Type 0 = λ b. ((is_buildable (parser_of t) && (is_ready b.top && list_all is_ready_leaf b.subs)) && is_free_app b) ≡ true in
    subst P (sym (built_app t))
    (rw (
      options_all (λ a. a.is_simple) option_rule flag_rule (λ x. refl) (λ x. refl) t.options t.flags,
      options_all (λ a. a.is_simple) built_option built_flag (λ x. refl) (λ x. refl) t.options t.flags,
      options_all (λ a. a.is_free) built_option built_flag (λ x. refl) (λ x. refl) t.options t.flags,
      options_any (is_early_multiple (count_by (λ a. is_some a.index) (rules t))) (λ x. refl) (λ x. refl) t.options t.flags,
      options_count 1 t.options t.flags,
    ) refl)

-- ---- the command as the code makes it

abbrev pub grammar_of : List Text → List Text → GrammarOf
grammar_of options flags = record { options = options; flags = flags }

abbrev parser_with : List Rule → App
parser_with l = record { top = record (parser_of (grammar_of [] [])).top { rules = file_rule ∷ l }; subs = [] }

pub more_options : (xs : List Text) (x : Text) → with_rule (parser_of (grammar_of xs [])) (option_rule x) ≡ parser_of (grammar_of (xs ++ x ∷ []) [])
more_options xs x = ap parser_with (ap (λ l. l ++ option_rule x ∷ []) (append-nil (map option_rule xs)) ∙ sym (map-append option_rule xs (x ∷ [])) ∙ sym (append-nil (map option_rule (xs ++ x ∷ []))))

pub more_flags : (xs ys : List Text) (y : Text) → with_rule (parser_of (grammar_of xs ys)) (flag_rule y) ≡ parser_of (grammar_of xs (ys ++ y ∷ []))
more_flags xs ys y = ap parser_with (append_assoc (map option_rule xs) (map flag_rule ys) (flag_rule y ∷ []) ∙ ap (λ l. map option_rule xs ++ l) (sym (map-append flag_rule ys (y ∷ []))))

pub more_texts : (xs : List (Bor Text)) (i : ℕ) (d : Bor Text) → i < length xs → map (λ s. s.now) (take (i + 1) xs) ≡ map (λ s. s.now) (take i xs) ++ (get_or xs i d).now ∷ []
more_texts xs i d h = ap (λ l. map (λ s. s.now) l) (take_more xs i d h) ∙ map-append (λ s. s.now) (take i xs) (get_or xs i d ∷ [])

-- ---- what `clap` says of a parse, in terms of the words

no_items : (t : GrammarOf) → has file t.options ≡ false → (words : List Text) → (e : Error) (o : Option (List Item)) → items_from t None words ≡ o → list_all is_clean words ≡ true
    → HasKind (fault_of (parser_of t) words) e → (kind_of e ≡ OutOfMemory → ⊥) → o ≡ None
no_items t n words e None eo c h k = refl
no_items t n words e (Some items) eo c h k =
    let r : Reads (Some items) (fault_of (parser_of t) words) (matches_of (parser_of t) words) = subst (λ x. Reads x (fault_of (parser_of t) words) (matches_of (parser_of t) words)) eo (reads t n words c) in
    absurd (never e (fault_of (parser_of t) words) r.0 h k)
  where
    never : (e : Error) (kinds : Kinds) → kinds ≡ [] → HasKind kinds e → (kind_of e ≡ OutOfMemory → ⊥) → ⊥
    never e kinds none (inl m) k = k m
    never e kinds none (inr a) k = subst (λ ks. IsAmong (kind_of e) ks) none a

some_items : (t : GrammarOf) → has file t.options ≡ false → (words : List Text) (o : Option (List Item)) → items_from t None words ≡ o → list_all is_clean words ≡ true → fault_of (parser_of t) words ≡ []
    → (items : List Item) × (items_from t None words ≡ Some items) × (matches_of (parser_of t) words ≡ rows items)
some_items t n words None eo c h =
    let r : Reads None (fault_of (parser_of t) words) (matches_of (parser_of t) words) = subst (λ x. Reads x (fault_of (parser_of t) words) (matches_of (parser_of t) words)) eo (reads t n words c) in
    absurd (r h)
some_items t n words (Some items) eo c h =
    let r : Reads (Some items) (fault_of (parser_of t) words) (matches_of (parser_of t) words) = subst (λ x. Reads x (fault_of (parser_of t) words) (matches_of (parser_of t) words)) eo (reads t n words c) in
    (items, eo, r.1)

-- ---- the same of words as the program has them

clean : {X : Type 0} (text : X → Text) (words : List X) → true ≡ list_all (λ s. is_clean (text s)) words → list_all is_clean (map text words) ≡ true
clean text words e = list_all-map is_clean text words ∙ sym e

pub unclean : {X : Type 0} (text : X → Text) (t : GrammarOf) (words : List X) → false ≡ list_all (λ s. is_clean (text s)) words → items_of t (map text words) ≡ None
unclean text t words e = let h : list_all is_clean (map text words) ≡ false = list_all-map is_clean text words ∙ sym e in rw h refl

pub refused : {X : Type 0} (text : X → Text) (t : GrammarOf) → has file t.options ≡ false → (words : List X) → true ≡ list_all (λ s. is_clean (text s)) words → (a : App) → a ≡ parser_of t → (e : Error)
    → (is_simple_and_free a ≡ true → HasKind (fault_of a (map text words)) e) → (kind_of e ≡ OutOfMemory → ⊥) → items_of t (map text words) ≡ None
refused text t n words c a same e h k =
    let texts = map text words in
    let h' : HasKind (fault_of (parser_of t) texts) e = subst (λ (x : App). HasKind (fault_of x texts) e) same (h (ap is_simple_and_free same ∙ is_simple_app t)) in
    let r : items_from t None texts ≡ None = no_items t n texts e (items_from t None texts) refl (clean text words c) h' k in
    rw (clean text words c) r

pub matched : {X : Type 0} (text : X → Text) (t : GrammarOf) → has file t.options ≡ false → (words : List X) → true ≡ list_all (λ s. is_clean (text s)) words → (a : App) → a ≡ parser_of t → (m : ArgMatches)
    → (is_simple_and_free a ≡ true → fault_of a (map text words) ≡ []) → HasMatchesOf a (map text words) m
    → (items : List Item) × (items_of t (map text words) ≡ Some items) × ((name : Text) → unwrap_or (option_map raw_values (matched_of (found_of m) name)) [] ≡ values name items)
matched text t n words c a same m f h =
    let texts = map text words in
    let free_app : is_simple_and_free a ≡ true = ap is_simple_and_free same ∙ is_simple_app t in
    let simple : is_simple a ≡ true = (and_parts (is_simple a) (is_free_app (built a)) free_app).0 in
    let none : fault_of (parser_of t) texts ≡ [] = ap (λ (x : App). fault_of x texts) (sym same) ∙ f free_app in
    let r = some_items t n texts (items_from t None texts) refl (clean text words c) none in
    let found : rows_of (found_of m) ≡ rows r.0 = (h simple).0 ∙ ap (λ (x : App). matches_of x texts) same ∙ r.2 in
    (r.0, rw (clean text words c) r.1, λ name. ap (λ o. unwrap_or o []) (raw_values-rows (found_of m) name ∙ ap (all_of name) found) ∙ values_at name r.0)
