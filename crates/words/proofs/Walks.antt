-- A parse of the words and what the words give, word by word.
use Rattle.std.proofs.Common.{◌≡◌, ◌∙◌, subst, sym, ap, refl, ℕ, ◌==◌, Bool, true, false, not, ◌||◌, List, [], ◌∷◌, ◌++◌, map, Option, Some, None, is_some, append_assoc, append-nil}
use Rattle.std.specs.Prelude.{if◌then◌else◌, codes, fold, option_and_then, option_map}
use Rattle.std.specs.Str.{bytes_eq}
use Rattle.std.specs.List.{list_all}
use Rattle.std.proofs.Math.Bool.{and-false}
use Rattle.std.proofs.lemmas.Bool.{and_parts}
use Rattle.clap.specs.Lexer.{long_of, long_of_rest, short_of, short_of_rest, strip_byte}
use Rattle.clap.specs.Walk.{Held, Row, Rule, Waiting, Walk, idle, option, positional, arg_by_id, arg_by_long, is_pending, nothing_held, option_word, pushed, settled, walk_from, walked}
use Rattle.clap.specs.Faults.{settle_fault, turn_fault, long_fault, walk_fault}
use Rattle.clap.specs.Kinds.{Kinds, or_else}
use Rattle.clap.specs.declared.error.kind.ErrorKind.{ErrorKind}
use Rattle.clap.specs.declared.error.kind.ErrorKind.TheVariants.{InvalidValue, TooManyValues, UnknownArgument}
use Rattle.words.specs.Words.{Item, GrammarOf, Text, behind_hyphens, named, file, has, is_clean, items_from, with_item, without_hyphen}
use Rattle.words.proofs.Rules.{built_file, built_flag, built_option, by_id, by_long, rules, same_text, shape, text_self}
use Rattle.words.proofs.Rows.{Ready, with_row, file_ready, held, held_with, no_value, nothing_ready, rows_more, value_ready}

-- ---- what a word looks like

if_same : {X : Type 0} (b : Bool) (x y u v : X) → x ≡ u → y ≡ v → (if b then x else y) ≡ (if b then u else v)
if_same true x y u v p q = p
if_same false x y u v p q = q

long_rest : (xs : Text) → named (45 ∷ xs) ≡ long_of (45 ∷ xs)
long_rest [] = refl
long_rest (y ∷ ys) = elim (y == 45) as (λ b. option_and_then behind_hyphens (if b then Some ys else None) ≡ option_and_then long_of_rest (if b then Some ys else None)) [
  | true ↦ elim ys as (λ l. behind_hyphens l ≡ long_of_rest l) [ [] ↦ refl | x ∷ xs ↦ refl ]
  | false ↦ refl
]

long_at : (b : Bool) (bs : Text) → option_and_then behind_hyphens (option_and_then without_hyphen (if b then Some bs else None)) ≡ option_and_then long_of_rest (option_and_then (strip_byte 45) (if b then Some bs else None))
long_at true bs = long_rest bs
long_at false bs = refl

same_long : (word : Text) → named word ≡ long_of word
same_long [] = refl
same_long (b ∷ bs) = long_at (b == 45) bs

short_next : (b : Bool) (x : ℕ) (xs : Text) → is_some (if b then Some xs else None) ≡ true → (if b then None else Some (x ∷ xs)) ≡ None
short_next true x xs h = refl
short_next false x xs h = cc

short_at : (b : Bool) (bs : Text) → (not b || is_some (without_hyphen bs)) ≡ true → option_and_then short_of_rest (if b then Some bs else None) ≡ None
short_at false bs h = refl
short_at true [] h = cc
short_at true (x ∷ xs) h = short_next (x == 45) x xs h

no_short : (word : Text) → is_clean word ≡ true → short_of word ≡ None
no_short [] h = cc
no_short (b ∷ bs) h = short_at (b == 45) bs h

-- ---- one word

abbrev pub at : Held → Waiting → Bool → Walk
at h q e = record { held = h; waiting = q; position = 1; is_trailing = e; stopped = None }

-- where the words so far have led: what they gave, the option that waits, and whether `--` was met
pub record Place : Type 0 where
  pub items : List Item
  pub waiting : Option Text
  pub ended : Bool

abbrev pub place : List Item → Option Text → Bool → Place
place items waiting e = record { items = items; waiting = waiting; ended = e }

-- what the words from here on give
abbrev pub rest : GrammarOf → Option Text → Bool → List Text → Option (List Item)
rest t waiting false words = items_from t waiting words
rest t None true words = Some (map (λ w. (file, w)) words)
rest t (Some name) true words = None

abbrev pub behind : List Item → Option (List Item) → Option (List Item)
behind items more = option_map (λ l. items ++ l) more

-- what all the words give
abbrev pub all_from : GrammarOf → Place → List Text → Option (List Item)
all_from t p words = behind p.items (rest t p.waiting p.ended words)

one_more : (items : List Item) (item : Item) (more : Option (List Item)) → behind items (with_item item more) ≡ behind (items ++ item ∷ []) more
one_more items item None = refl
one_more items item (Some l) = ap (λ x. Some x) (sym (append_assoc items (item ∷ []) l))

behind_nothing : (more : Option (List Item)) → behind [] more ≡ more
behind_nothing None = refl
behind_nothing (Some l) = refl

-- nothing waits for the next word but the names
abbrev pub free_of : Bool → Waiting
free_of true = idle
free_of false = positional

-- the walk stands where the words' items say
pub data Sim (t : GrammarOf) : Place → Walk → Type 0 where
  free : (items : List Item) (h : Held) (b e : Bool) → Ready t items h → Sim t (place items None e) (at h (free_of b) e)
  waits : (items : List Item) (id : Text) (e : Bool) → has id t.options ≡ true → bytes_eq file id ≡ false → Sim t (place items (Some id) e) (at (held_with items id []) (option id) e)

pub data OneStep (t : GrammarOf) (p : Place) (w : Walk) (word : Text) : Type 0 where
  stops : (k : ErrorKind) (ks : Kinds) → turn_fault (shape t) [] w word ≡ k ∷ ks → ((words : List Text) → all_from t p (word ∷ words) ≡ None) → OneStep t p w word
  goes : (p' : Place) (w' : Walk) → turn_fault (shape t) [] w word ≡ [] → walked (rules t) [] w word ≡ w' → ((words : List Text) → all_from t p (word ∷ words) ≡ all_from t p' words) → Sim t p' w' → OneStep t p w word

-- a name, after `--`
name_trails : (t : GrammarOf) (items : List Item) (h : Held) (q : Waiting) → Ready t items h → (word : Text) → OneStep t (place items None true) (at h q true) word
unfolding walked
name_trails t items h q r word = goes (place (items ++ (file, word) ∷ []) None true) (at (held_with items file (word ∷ [])) positional true)
    (ap (λ b. if b then [] else settle_fault (rules t) false h) (and-false (is_pending built_file h.pending)) ∙ r.fault)
    (ap (λ b. at (pushed file word (if b then h else settled (rules t) h)) positional true) (and-false (is_pending built_file h.pending)) ∙ ap (λ x. at (pushed file word x) positional true) r.settled)
    (λ words. one_more items (file, word) (rest t None true words))
    (free _ _ false true (file_ready t items word))

option_trails : (t : GrammarOf) (items : List Item) (id : Text) → has id t.options ≡ true → bytes_eq file id ≡ false → (word : Text) → OneStep t (place items (Some id) true) (at (held_with items id []) (option id) true) word
unfolding walked
option_trails t items id o e word = stops InvalidValue []
    (ap (λ b. if b then [] else settle_fault (rules t) false (held_with items id [])) (and-false (bytes_eq id file)) ∙ no_value t items id o e)
    (λ words. refl)

-- `--`
ends_free : (t : GrammarOf) (items : List Item) (h : Held) (b : Bool) → Ready t items h → (word : Text) → bytes_eq word (45 ∷ 45 ∷ []) ≡ true → OneStep t (place items None false) (at h (free_of b) false) word
unfolding walked
ends_free t items h true r word d = goes (place items None true) (at h idle true) (rw d refl) (rw d refl) (λ words. rw d refl) (free items h true true r)
ends_free t items h false r word d = goes (place items None true) (at h positional true) (rw d refl) (rw d refl) (λ words. rw d refl) (free items h false true r)

ends_waits : (t : GrammarOf) (items : List Item) (id : Text) → has id t.options ≡ true → bytes_eq file id ≡ false → (word : Text) → bytes_eq word (45 ∷ 45 ∷ []) ≡ true → OneStep t (place items (Some id) false) (at (held_with items id []) (option id) false) word
unfolding walked
ends_waits t items id o e word d = goes (place items (Some id) true) (at (held_with items id []) (option id) true) (rw d refl) (rw d refl) (λ words. rw d refl) (waits items id true o e)

-- a plain word is a name where nothing waits
plain_free : (t : GrammarOf) (items : List Item) (h : Held) (b : Bool) → Ready t items h → (word : Text) → bytes_eq word (45 ∷ 45 ∷ []) ≡ false → named word ≡ None → long_of word ≡ None → short_of word ≡ None → OneStep t (place items None false) (at h (free_of b) false) word
unfolding walked
plain_free t items h true r word d a l s = goes (place (items ++ (file, word) ∷ []) None false) (at (held_with items file (word ∷ [])) positional false)
    (rw (d, l, s) (ap (λ b. if b then [] else settle_fault (rules t) false h) (and-false (is_pending built_file h.pending)) ∙ r.fault))
    (rw (d, l, s) (ap (λ b. at (pushed file word (if b then h else settled (rules t) h)) positional false) (and-false (is_pending built_file h.pending)) ∙ ap (λ x. at (pushed file word x) positional false) r.settled))
    (λ words. rw (d, a) (one_more items (file, word) (items_from t None words)))
    (free _ _ false false (file_ready t items word))
plain_free t items h false r word d a l s = goes (place (items ++ (file, word) ∷ []) None false) (at (held_with items file (word ∷ [])) positional false)
    (rw (d, l, s) (ap (λ b. if b then [] else settle_fault (rules t) false h) (and-false (is_pending built_file h.pending)) ∙ r.fault))
    (rw (d, l, s) (ap (λ b. at (pushed file word (if b then h else settled (rules t) h)) positional false) (and-false (is_pending built_file h.pending)) ∙ ap (λ x. at (pushed file word x) positional false) r.settled))
    (λ words. rw (d, a) (one_more items (file, word) (items_from t None words)))
    (free _ _ false false (file_ready t items word))

-- and the value of the option that waits
after_value : (t : GrammarOf) (items : List Item) (id word : Text) → has id t.options ≡ true → bytes_eq file id ≡ false → option_word (arg_by_id (rules t) id) id word (held_with items id []) ≡ (held_with items id (word ∷ []), idle)
after_value t items id word o e = ap (λ (r : Option Rule). option_word r id word (held_with items id [])) (by_id t id o e) ∙ rw (text_self id) refl

plain_waits : (t : GrammarOf) (items : List Item) (id : Text) → has id t.options ≡ true → bytes_eq file id ≡ false → (word : Text) → bytes_eq word (45 ∷ 45 ∷ []) ≡ false → named word ≡ None → long_of word ≡ None → short_of word ≡ None → OneStep t (place items (Some id) false) (at (held_with items id []) (option id) false) word
unfolding walked
plain_waits t items id o e word d a l s = goes (place (items ++ (id, word) ∷ []) None false) (at (held_with items id (word ∷ [])) idle false)
    (rw (d, l, s) refl)
    (rw (d, l, s) (ap (λ (p : Held × Waiting). at p.0 p.1 false) (after_value t items id word o e)))
    (λ words. rw (d, a) (one_more items (id, word) (items_from t None words)))
    (free _ _ true false (value_ready t items id word o e))

-- ---- an option or a flag

not_file_at : (name : Text) (options : List Text) → has name options ≡ true → has file options ≡ false → (b : Bool) → bytes_eq file name ≡ b → bytes_eq file name ≡ false
not_file_at name options h n false e = e
not_file_at name options h n true e = let same : has file options ≡ has name options = ap (λ x. has x options) (same_text file name e) in cc

not_file : (name : Text) (options : List Text) → has name options ≡ true → has file options ≡ false → bytes_eq file name ≡ false
not_file name options h n = not_file_at name options h n (bytes_eq file name) refl

ready_skip : (t : GrammarOf) (items : List Item) (h : Held) → Ready t items h → h.skip ≡ 0
ready_skip t items h r = ap (λ (x : Held). x.skip) r.settled

-- a use with this value, where nothing waits
used_ready : (t : GrammarOf) (items : List Item) (h : Held) (name v : Text) → Ready t items h → record { rows = with_row (settled (rules t) h).rows (name, v); pending = None; skip = h.skip } ≡ held (items ++ (name, v) ∷ [])
used_ready t items h name v r = ap (λ (x : Held). record { rows = with_row x.rows (name, v); pending = None; skip = x.skip }) r.settled ∙ ap (λ (l : List Row). record { rows = l; pending = None; skip = 0 }) (sym (rows_more items (name, v)))

-- `--name=value` and `--name`, by what the name is
abbrev LongFree : (t : GrammarOf) → List Item → Held → Bool → Text → Type 0
LongFree t items h b word = OneStep t (place items None false) (at h (free_of b) false) word

option_free : (t : GrammarOf) (items : List Item) (h : Held) (b : Bool) → Ready t items h → has file t.options ≡ false → (word name : Text) (v : Option Text) → bytes_eq word (45 ∷ 45 ∷ []) ≡ false → named word ≡ Some (name, v) → long_of word ≡ Some (name, v)
    → has name t.options ≡ true → arg_by_long (rules t) name ≡ Some (built_option name) → LongFree t items h b word
unfolding walked
option_free t items h true r f word name (Some v) d a l o g = goes (place (items ++ (name, v) ∷ []) None false) (at (held (items ++ (name, v) ∷ [])) idle false)
    (rw (d, l, g, r.fault) refl)
    (rw (d, l, g) (ap (λ (x : Held). at x idle false) (used_ready t items h name v r)))
    (λ words. rw (d, a, o) (one_more items (name, v) (items_from t None words)))
    (free _ _ true false (nothing_ready t _))
option_free t items h false r f word name (Some v) d a l o g = goes (place (items ++ (name, v) ∷ []) None false) (at (held (items ++ (name, v) ∷ [])) idle false)
    (rw (d, l, g, r.fault) refl)
    (rw (d, l, g) (ap (λ (x : Held). at x idle false) (used_ready t items h name v r)))
    (λ words. rw (d, a, o) (one_more items (name, v) (items_from t None words)))
    (free _ _ true false (nothing_ready t _))
option_free t items h true r f word name None d a l o g = goes (place items (Some name) false) (at (held_with items name []) (option name) false)
    (rw (d, l, g, r.fault) refl)
    (rw (d, l, g) (ap (λ (x : Held). at (record x { pending = Some (name, []) }) (option name) false) r.settled))
    (λ words. rw (d, a, o) refl)
    (waits items name false o (not_file name t.options o f))
option_free t items h false r f word name None d a l o g = goes (place items (Some name) false) (at (held_with items name []) (option name) false)
    (rw (d, l, g, r.fault) refl)
    (rw (d, l, g) (ap (λ (x : Held). at (record x { pending = Some (name, []) }) (option name) false) r.settled))
    (λ words. rw (d, a, o) refl)
    (waits items name false o (not_file name t.options o f))

flag_free : (t : GrammarOf) (items : List Item) (h : Held) (b : Bool) → Ready t items h → (word name : Text) (v : Option Text) → bytes_eq word (45 ∷ 45 ∷ []) ≡ false → named word ≡ Some (name, v) → long_of word ≡ Some (name, v)
    → has name t.options ≡ false → has name t.flags ≡ true → arg_by_long (rules t) name ≡ Some (built_flag name) → LongFree t items h b word
unfolding walked
flag_free t items h true r word name (Some v) d a l o k g = stops TooManyValues [] (rw (d, l, g) refl) (λ words. rw (d, a, o, k) refl)
flag_free t items h false r word name (Some v) d a l o k g = stops TooManyValues [] (rw (d, l, g) refl) (λ words. rw (d, a, o, k) refl)
flag_free t items h true r word name None d a l o k g = goes (place (items ++ (name, codes "true") ∷ []) None false) (at (held (items ++ (name, codes "true") ∷ [])) idle false)
    (rw (d, l, g, r.fault) refl)
    (rw (d, l, g) (ap (λ (x : Held). at x idle false) (used_ready t items h name (codes "true") r)))
    (λ words. rw (d, a, o, k) (one_more items (name, codes "true") (items_from t None words)))
    (free _ _ true false (nothing_ready t _))
flag_free t items h false r word name None d a l o k g = goes (place (items ++ (name, codes "true") ∷ []) None false) (at (held (items ++ (name, codes "true") ∷ [])) idle false)
    (rw (d, l, g, r.fault) refl)
    (rw (d, l, g) (ap (λ (x : Held). at x idle false) (used_ready t items h name (codes "true") r)))
    (λ words. rw (d, a, o, k) (one_more items (name, codes "true") (items_from t None words)))
    (free _ _ true false (nothing_ready t _))

unknown_free : (t : GrammarOf) (items : List Item) (h : Held) (b : Bool) → (word name : Text) (v : Option Text) → bytes_eq word (45 ∷ 45 ∷ []) ≡ false → named word ≡ Some (name, v) → long_of word ≡ Some (name, v)
    → has name t.options ≡ false → has name t.flags ≡ false → arg_by_long (rules t) name ≡ None → LongFree t items h b word
unfolding walked
unknown_free t items h true word name v d a l o k g = stops UnknownArgument [] (rw (d, l, g) refl) (λ words. rw (d, a, o, k) refl)
unknown_free t items h false word name v d a l o k g = stops UnknownArgument [] (rw (d, l, g) refl) (λ words. rw (d, a, o, k) refl)

-- what a name can mean
data IsPlainRule : Option Rule → Type 0 where
  none_rule : IsPlainRule None
  option_rule : (name : Text) → IsPlainRule (Some (built_option name))
  flag_rule : (name : Text) → IsPlainRule (Some (built_flag name))

rule_by : (name : Text) (o f : Bool) → IsPlainRule (if o then Some (built_option name) else (if f then Some (built_flag name) else None))
rule_by name true f = option_rule name
rule_by name false true = flag_rule name
rule_by name false false = none_rule

long_rule : (t : GrammarOf) (name : Text) → IsPlainRule (arg_by_long (rules t) name)
long_rule t name = rw (by_long t name) (rule_by name (has name t.options) (has name t.flags))

first_of_two : (a b : Kinds) (k : ErrorKind) (ks : Kinds) → a ≡ k ∷ ks → or_else a b ≡ k ∷ ks
first_of_two a b k ks h = rw h refl

-- where an option waits for its value each word that begins with `--` is refused
long_waits_by : (t : GrammarOf) (items : List Item) (id : Text) → has id t.options ≡ true → bytes_eq file id ≡ false → (name : Text) (v : Option Text) (a : Option Rule)
    → IsPlainRule a → (k : ErrorKind) × (ks : Kinds) × (long_fault (rules t) false a v (held_with items id []) ≡ k ∷ ks)
long_waits_by t items id o e name v a none_rule = (UnknownArgument, [], refl)
long_waits_by t items id o e name (Some v) a (option_rule n) = (InvalidValue, [], rw (no_value t items id o e) refl)
long_waits_by t items id o e name None a (option_rule n) = (InvalidValue, [], no_value t items id o e)
long_waits_by t items id o e name (Some v) a (flag_rule n) = (TooManyValues, [], refl)
long_waits_by t items id o e name None a (flag_rule n) = (InvalidValue, [], rw (no_value t items id o e) refl)

long_waits : (t : GrammarOf) (items : List Item) (id : Text) → has id t.options ≡ true → bytes_eq file id ≡ false → (word name : Text) (v : Option Text) → bytes_eq word (45 ∷ 45 ∷ []) ≡ false → named word ≡ Some (name, v) → long_of word ≡ Some (name, v)
    → OneStep t (place items (Some id) false) (at (held_with items id []) (option id) false) word
unfolding walked
long_waits t items id o e word name v d a l =
    let found = long_waits_by t items id o e name v (arg_by_long (rules t) name) (long_rule t name) in
    stops found.0 found.1 (rw (d, l) (first_of_two _ _ found.0 found.1 found.2)) (λ words. rw (d, a) refl)

-- ---- any word

choose_free : (t : GrammarOf) (items : List Item) (h : Held) (b : Bool) → Ready t items h → has file t.options ≡ false → (word name : Text) (v : Option Text) → bytes_eq word (45 ∷ 45 ∷ []) ≡ false → named word ≡ Some (name, v) → long_of word ≡ Some (name, v)
    → (o f : Bool) → has name t.options ≡ o → has name t.flags ≡ f → LongFree t items h b word
choose_free t items h b r n word name v d a l true f eo ef = option_free t items h b r n word name v d a l eo (by_long t name ∙ rw eo refl)
choose_free t items h b r n word name v d a l false true eo ef = flag_free t items h b r word name v d a l eo ef (by_long t name ∙ rw (eo, ef) refl)
choose_free t items h b r n word name v d a l false false eo ef = unknown_free t items h b word name v d a l eo ef (by_long t name ∙ rw (eo, ef) refl)

step_free : (t : GrammarOf) (items : List Item) (h : Held) (b : Bool) → Ready t items h → has file t.options ≡ false → (word : Text) → is_clean word ≡ true → (d : Bool) → bytes_eq word (45 ∷ 45 ∷ []) ≡ d → (p : Option (Text × Option Text)) → named word ≡ p → LongFree t items h b word
step_free t items h b r n word c true ed p ep = ends_free t items h b r word ed
step_free t items h b r n word c false ed None ep = plain_free t items h b r word ed ep (sym (same_long word) ∙ ep) (no_short word c)
step_free t items h b r n word c false ed (Some p) ep = choose_free t items h b r n word p.0 p.1 ed ep (sym (same_long word) ∙ ep) (has p.0 t.options) (has p.0 t.flags) refl refl

step_waits : (t : GrammarOf) (items : List Item) (id : Text) → has id t.options ≡ true → bytes_eq file id ≡ false → (word : Text) → is_clean word ≡ true → (d : Bool) → bytes_eq word (45 ∷ 45 ∷ []) ≡ d → (p : Option (Text × Option Text)) → named word ≡ p → OneStep t (place items (Some id) false) (at (held_with items id []) (option id) false) word
step_waits t items id o e word c true ed p ep = ends_waits t items id o e word ed
step_waits t items id o e word c false ed None ep = plain_waits t items id o e word ed ep (sym (same_long word) ∙ ep) (no_short word c)
step_waits t items id o e word c false ed (Some p) ep = long_waits t items id o e word p.0 p.1 ed ep (sym (same_long word) ∙ ep)

one_step : (t : GrammarOf) → has file t.options ≡ false → (p : Place) (w : Walk) → Sim t p w → (word : Text) → is_clean word ≡ true → OneStep t p w word
one_step t n p w (free items h b true r) word c = name_trails t items h (free_of b) r word
one_step t n p w (free items h b false r) word c = step_free t items h b r n word c (bytes_eq word (45 ∷ 45 ∷ [])) refl (named word) refl
one_step t n p w (waits items id true o e) word c = option_trails t items id o e word
one_step t n p w (waits items id false o e) word c = step_waits t items id o e word c (bytes_eq word (45 ∷ 45 ∷ [])) refl (named word) refl

-- ---- all the words

-- what is left of the parse from here on
abbrev faults_from : GrammarOf → Walk → List Text → Kinds
faults_from t w words = or_else (walk_fault (shape t) [] w words) (settle_fault (rules t) false (fold (walked (rules t) []) w words).held)

abbrev pub Agrees : GrammarOf → Option (List Item) → Kinds → Held → Type 0
Agrees t None kinds h = (kinds ≡ []) → ⊥
Agrees t (Some items) kinds h = (kinds ≡ []) × (settled (rules t) h ≡ held items)

agrees_none : (t : GrammarOf) (p : Place) (w : Walk) (word : Text) (words : List Text) (k : ErrorKind) (ks : Kinds) → turn_fault (shape t) [] w word ≡ k ∷ ks → all_from t p (word ∷ words) ≡ None
    → Agrees t (all_from t p (word ∷ words)) (faults_from t w (word ∷ words)) (fold (walked (rules t) []) w (word ∷ words)).held
unfolding walk_fault
agrees_none t p w word words k ks f e =
    let P : Option (List Item) → Type 0 = λ o. Agrees t o (faults_from t w (word ∷ words)) (fold (walked (rules t) []) w (word ∷ words)).held in
    subst P (sym e) (rw f (λ bad. cc))

agrees_some : (t : GrammarOf) (p p' : Place) (w w' : Walk) (word : Text) (words : List Text) → turn_fault (shape t) [] w word ≡ [] → walked (rules t) [] w word ≡ w' → all_from t p (word ∷ words) ≡ all_from t p' words
    → Agrees t (all_from t p' words) (faults_from t w' words) (fold (walked (rules t) []) w' words).held
    → Agrees t (all_from t p (word ∷ words)) (faults_from t w (word ∷ words)) (fold (walked (rules t) []) w (word ∷ words)).held
unfolding walk_fault
agrees_some t p p' w w' word words f g e h =
    let P : Walk → Type 0 = λ x. Agrees t (all_from t p' words) (faults_from t x words) (fold (walked (rules t) []) x words).held in
    let Q : Option (List Item) → Type 0 = λ o. Agrees t o (faults_from t w (word ∷ words)) (fold (walked (rules t) []) w (word ∷ words)).held in
    subst Q (sym e) (rw f (subst P (sym g) h))

at_end : (t : GrammarOf) (p : Place) (w : Walk) → Sim t p w → Agrees t (all_from t p []) (faults_from t w []) w.held
unfolding walk_fault
at_end t p w (free items h b true r) = rw (append-nil items) (r.fault, r.settled)
at_end t p w (free items h b false r) = rw (append-nil items) (r.fault, r.settled)
at_end t p w (waits items id true o n) = rw (no_value t items id o n) (λ bad. cc)
at_end t p w (waits items id false o n) = rw (no_value t items id o n) (λ bad. cc)

agrees_at : (t : GrammarOf) → has file t.options ≡ false → (words : List Text) → list_all is_clean words ≡ true → (p : Place) (w : Walk) → Sim t p w → Agrees t (all_from t p words) (faults_from t w words) (fold (walked (rules t) []) w words).held
agrees_at t n [] c p w m = at_end t p w m
agrees_at t n (word ∷ words) c p w m = elim (one_step t n p w m word (and_parts (is_clean word) (list_all is_clean words) c).0) [
  | stops k ks f e ↦ agrees_none t p w word words k ks f (e words)
  | goes p' w' f g e m' ↦ agrees_some t p p' w w' word words f g (e words) (agrees_at t n words (and_parts (is_clean word) (list_all is_clean words) c).1 p' w' m')
]

-- from the start
pub agrees : (t : GrammarOf) → has file t.options ≡ false → (words : List Text) → list_all is_clean words ≡ true → Agrees t (items_from t None words) (faults_from t (walk_from nothing_held) words) (fold (walked (rules t) []) (walk_from nothing_held) words).held
agrees t n words c =
    let P : Option (List Item) → Type 0 = λ o. Agrees t o (faults_from t (walk_from nothing_held) words) (fold (walked (rules t) []) (walk_from nothing_held) words).held in
    subst P (behind_nothing (items_from t None words)) (agrees_at t n words c (place [] None false) (walk_from nothing_held) (free [] nothing_held true false (nothing_ready t [])))
