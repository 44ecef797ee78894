-- The rules that building makes of the arguments, and how a parse finds them.
use Rattle.std.proofs.Common.{◌≡◌, ◌∙◌, sym, ap, refl, ℕ, Bool, true, false, not, ◌&&◌, ◌||◌, List, [], ◌∷◌, ◌++◌, map, Some, None, is_some, append-nil}
use Rattle.std.specs.Prelude.{if◌then◌else◌, cond, find}
use Rattle.std.specs.Str.{bytes_eq}
use Rattle.std.proofs.lemmas.Slice.Eq.{bytes_eq-Decides}
use Rattle.clap.specs.Walk.{Rule, arg_by_id, arg_by_long, has_long}
use Rattle.clap.specs.Simple.{App, Shape, built, filled, filled_from}
use Rattle.words.specs.Words.{GrammarOf, Text, file, has}
use Rattle.words.specs.Parser.{parser_of, file_rule, flag_rule, option_rule}

abbrev pub built_option : Text → Rule
built_option name = filled (option_rule name)

abbrev pub built_flag : Text → Rule
built_flag name = filled (flag_rule name)

abbrev pub built_file : Rule
built_file = record (filled file_rule) { index = Some 1 }

abbrev pub rules : GrammarOf → List Rule
rules t = built_file ∷ (map built_option t.options ++ map built_flag t.flags)

pub filled_flags : (i : ℕ) (xs : List Text) → filled_from i (map flag_rule xs) ≡ map built_flag xs
filled_flags i [] = refl
filled_flags i (x ∷ xs) = ap (λ l. built_flag x ∷ l) (filled_flags i xs)

pub filled_options : (i : ℕ) (xs ys : List Text) → filled_from i (map option_rule xs ++ map flag_rule ys) ≡ map built_option xs ++ map built_flag ys
filled_options i [] ys = filled_flags i ys
filled_options i (x ∷ xs) ys = ap (λ l. built_option x ∷ l) (filled_options i xs ys)

abbrev pub shape : GrammarOf → Shape
shape t = record (parser_of t).top {
  rules = rules t;
  is_built = true;
  disable_help_subcommand = true;
}

abbrev pub with_rules : List Rule → App
with_rules rs = record {
  top = record (parser_of (record { options = []; flags = [] })).top {
    rules = rs;
    is_built = true;
    disable_help_subcommand = true;
  };
  subs = [];
}

pub built_app : (t : GrammarOf) → built (parser_of t) ≡ with_rules (rules t)
built_app t = ap (λ l. with_rules (built_file ∷ l)) (filled_options 2 t.options t.flags)

-- ---- finding

pub same_text : (a b : Text) → bytes_eq a b ≡ true → a ≡ b
same_text a b h = (bytes_eq-Decides a b).0 h

pub text_self : (a : Text) → bytes_eq a a ≡ true
text_self a = (bytes_eq-Decides a a).1 refl

find_step : (f : Text → Rule) (p : Rule → Bool) (name x : Text) (b : Bool) → bytes_eq x name ≡ b → (xs : List Text) (ys : List Rule)
    → find p (map f xs ++ ys) ≡ (if has name xs then Some (f name) else find p ys)
    → cond b (Some (f x)) (find p (map f xs ++ ys)) ≡ (if b || has name xs then Some (f name) else find p ys)
find_step f p name x true e xs ys h = ap (λ n. Some (f n)) (same_text x name e)
find_step f p name x false e xs ys h = h

pub find_map : (f : Text → Rule) (p : Rule → Bool) (name : Text) → ((n : Text) → p (f n) ≡ bytes_eq n name) → (xs : List Text) (ys : List Rule) → find p (map f xs ++ ys) ≡ (if has name xs then Some (f name) else find p ys)
find_map f p name h [] ys = refl
find_map f p name h (x ∷ xs) ys = rw (h x) (find_step f p name x (bytes_eq x name) refl xs ys (find_map f p name h xs ys))

pub find_last : (f : Text → Rule) (p : Rule → Bool) (name : Text) → ((n : Text) → p (f n) ≡ bytes_eq n name) → (xs : List Text) → find p (map f xs) ≡ (if has name xs then Some (f name) else None)
find_last f p name h xs = ap (λ l. find p l) (sym (append-nil (map f xs))) ∙ find_map f p name h xs []

or_false : (b : Bool) → (b || false) ≡ b
or_false true = refl
or_false false = refl

-- the option or flag of this name
pub by_long : (t : GrammarOf) (name : Text) → arg_by_long (rules t) name ≡ (if has name t.options then Some (built_option name) else (if has name t.flags then Some (built_flag name) else None))
by_long t name =
    find_map built_option (λ a. not (is_some a.index) && has_long a name) name (λ n. or_false (bytes_eq n name)) t.options (map built_flag t.flags)
    ∙ ap (λ o. if has name t.options then Some (built_option name) else o) (find_last built_flag (λ a. not (is_some a.index) && has_long a name) name (λ n. or_false (bytes_eq n name)) t.flags)

-- an option that is not called FILE, by its id
pub by_id : (t : GrammarOf) (name : Text) → has name t.options ≡ true → bytes_eq file name ≡ false → arg_by_id (rules t) name ≡ Some (built_option name)
by_id t name h e =
    rw e (find_map built_option (λ a. bytes_eq a.id name) name (λ n. refl) t.options (map built_flag t.flags) ∙ ap (λ b. if b then Some (built_option name) else find (λ a. bytes_eq a.id name) (map built_flag t.flags)) h)
