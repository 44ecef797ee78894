-- What a list of words gives, by the options and flags that a command has.
use Rattle.std.specs.Prelude.{◌==◌, ◌||◌, ℕ, Bool, false, not, List, [], ◌∷◌, map, filter, Option, Some, None, is_some, if◌then◌else◌, codes, option_and_then}
use Rattle.std.specs.Option.{option_map, option_map_or}
use Rattle.std.specs.List.{list_any, list_all, before_first, after_first}
use Rattle.std.specs.Str.{bytes_eq}

abbrev pub Text : Type 0
Text = List ℕ

-- what a command has: the names of its options, each of which takes a value, and those of its flags
pub record GrammarOf : Type 0 where
  pub options : List Text
  pub flags : List Text

abbrev pub has : Text → List Text → Bool
has name names = list_any (λ n. bytes_eq n name) names

-- the name under which positional words stand
abbrev pub file : Text
file = codes "FILE"

-- what is given, and its value: an option with its value, a flag with `true`, or FILE with a positional word
abbrev pub Item : Type 0
Item = Text × Text

-- ---- the form of a word

-- `--`, or `--name` or `--name=value`, or a plain word; `-` is 45, and `=` is 61
pub data Form : Type 0 where
  end : Form
  long : Text → Option Text → Form
  plain : Form

-- a text as a name and the value behind its first `=`
abbrev pub name_and_value : Text → Text × Option Text
name_and_value text = (
  before_first (λ x. x == 61) text,
  if list_any (λ x. x == 61) text then Some (after_first (λ x. x == 61) text) else None,
)

abbrev pub without_hyphen : Text → Option Text
without_hyphen [] = None
without_hyphen (b ∷ bs) = if b == 45 then Some bs else None

abbrev pub behind_hyphens : Text → Option (Text × Option Text)
behind_hyphens [] = None
behind_hyphens (b ∷ bs) = Some (name_and_value (b ∷ bs))

-- the name and the value of a word that begins with two hyphens
abbrev pub named : Text → Option (Text × Option Text)
named word = option_and_then behind_hyphens (option_and_then without_hyphen (without_hyphen word))

abbrev pub form_of : Text → Form
form_of word = if bytes_eq word (45 ∷ 45 ∷ []) then end else option_map_or (λ p. long p.0 p.1) (named word) plain

-- no word is empty or begins with one hyphen alone: such a word is no option, no value and no positional word
abbrev pub is_clean : Text → Bool
is_clean [] = false
is_clean (b ∷ bs) = not (b == 45) || is_some (without_hyphen bs)

-- a value or a positional word that is asked for is not empty and does not begin with `-`
abbrev pub is_name : Text → Bool
is_name [] = false
is_name (b ∷ bs) = not (b == 45)

-- ---- all the words

abbrev pub with_item : Item → Option (List Item) → Option (List Item)
with_item item rest = option_map (λ items. item ∷ items) rest

-- an option takes the value behind `=`, or waits for the next word
abbrev pub option_items : Text → Option Text → (Option Text → Option (List Item)) → Option (List Item)
option_items name (Some value) rest = with_item (name, value) (rest None)
option_items name None rest = rest (Some name)

-- a flag has no value behind `=`
abbrev pub flag_items : Text → Option Text → (Option Text → Option (List Item)) → Option (List Item)
flag_items name (Some value) rest = None
flag_items name None rest = with_item (name, codes "true") (rest None)

abbrev pub long_items : GrammarOf → Text → Option Text → (Option Text → Option (List Item)) → Option (List Item)
long_items g name value rest =
    if has name g.options then option_items name value rest
    else (if has name g.flags then flag_items name value rest else None)

-- a word where no option waits; behind `--` all words are positional
abbrev pub word_items : GrammarOf → Form → Text → List Text → (Option Text → Option (List Item)) → Option (List Item)
word_items g end word words rest = Some (map (λ w. (file, w)) words)
word_items g (long name value) word words rest = long_items g name value rest
word_items g plain word words rest = with_item (file, word) (rest None)

-- a word where an option waits for its value
abbrev pub value_items : Text → Form → Text → Option (List Item) → Option (List Item)
value_items option plain word rest = with_item (option, word) rest
value_items option _ word rest = None

-- what the words give in their order where this option, if there is one, waits for its value
abbrev pub items_from : GrammarOf → Option Text → List Text → Option (List Item)
items_from g None [] = Some []
items_from g (Some option) [] = None
items_from g None (word ∷ words) = word_items g (form_of word) word words (λ waiting. items_from g waiting words)
items_from g (Some option) (word ∷ words) = value_items option (form_of word) word (items_from g None words)

-- what the words give in their order, or none where the command doesn't take them
abbrev pub items_of : GrammarOf → List Text → Option (List Item)
items_of g words = if list_all is_clean words then items_from g None words else None

-- the values that are given under a name
abbrev pub values : Text → List Item → List Text
values name items = map (λ p. p.1) (filter (λ p. bytes_eq p.0 name) items)
