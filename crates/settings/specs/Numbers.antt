-- Options whose values are numbers, flags, and what is given at most once.
use Rattle.std.specs.Prelude.{◌&&◌, ◌==◌, ℕ, Bool, true, false, List, [], ◌∷◌, ◌++◌, length, map, not, Option, Some, None, if◌then◌else◌, codes, nat_le, option_and_then}
use Rattle.std.specs.List.{list_all, list_any, before_first, after_first}
use Rattle.std.specs.Str.{bytes_eq}
use Rattle.std.specs.Str.Parse.{digits_value}
use Rattle.slot_space.specs.Limits.{node_limit, slot_limit}
use Rattle.levels.specs.Trees.{Tree, processor_limit, tree_of, tree_within}
use Rattle.words.specs.Words.{Text, is_name}

-- the value, if there is one; None where there are two, or where it is no name
abbrev pub at_most_one : List Text → Option (Option Text)
at_most_one [] = Some None
at_most_one (v ∷ []) = if is_name v then Some (Some v) else None
at_most_one (v ∷ w ∷ vs) = None

-- ---- numbers

abbrev pub is_digit : ℕ → Bool
is_digit b = nat_le 48 b && nat_le b 57

-- one to twenty digits
abbrev pub is_number : Text → Bool
is_number text = nat_le 1 (length text) && (nat_le (length text) 20 && list_all is_digit text)

abbrev pub within : ℕ → ℕ → ℕ → Option ℕ
within low high n = if nat_le low n && nat_le n high then Some n else None

-- the number that a text writes in decimal, within these bounds
abbrev pub number_of : ℕ → ℕ → Text → Option ℕ
number_of low high text = if is_number text then within low high (digits_value 10 text) else None

-- ---- options

-- an option's name, the least and the greatest number that it takes, and the number that stands where it isn't given
pub record NumberOf : Type 0 where
  pub name : Text
  pub low : ℕ
  pub high : ℕ
  pub usual : ℕ

abbrev pub nodes : NumberOf
nodes = record { name = codes "nodes"; low = 1; high = node_limit; usual = 1 }

abbrev pub slots : NumberOf
slots = record { name = codes "slots"; low = 1; high = slot_limit; usual = 256 }

abbrev pub quantum : NumberOf
quantum = record { name = codes "quantum"; low = 1; high = 65536; usual = 1000 }

abbrev pub turns : NumberOf
turns = record { name = codes "turns"; low = 1; high = 1000000; usual = 100000 }

abbrev pub seed : NumberOf
seed = record { name = codes "seed"; low = 0; high = 18446744073709551615; usual = 0 }

-- the turns of `stress`, which has more where the option isn't given
abbrev pub long_turns : NumberOf
long_turns = record turns { usual = 1000000 }

-- all of them
abbrev pub number_options : List NumberOf
number_options = nodes ∷ slots ∷ quantum ∷ turns ∷ seed ∷ []

abbrev pub number_or_usual : NumberOf → Option Text → Option ℕ
number_or_usual o None = Some o.usual
number_or_usual o (Some text) = number_of o.low o.high text

-- the option's number, by the values that are given under each name
abbrev pub number_at : (Text → List Text) → NumberOf → Option ℕ
number_at given o = option_and_then (number_or_usual o) (at_most_one (given o.name))

-- the number of jobs of `stress`
abbrev pub jobs_of : Text → Option ℕ
jobs_of text = number_of 1 1000 text

-- ---- the option whose value is a tree of run lists

abbrev pub tree : Text
tree = codes "tree"

-- `x` is 120
abbrev pub is_between : ℕ → Bool
is_between b = b == 120

abbrev pub width_of : Text → Option ℕ
width_of text = number_of 1 processor_limit text

-- K processors right below the root
abbrev pub one_level : Text → Option Tree
one_level text = option_and_then (λ first. tree_within first None) (width_of text)

-- K groups of M processors
abbrev pub two_levels : (first second : Text) → Option Tree
two_levels first second = option_and_then (λ k. option_and_then (λ m. tree_within k (Some m)) (width_of second)) (width_of first)

-- the tree that a text writes: K, or K and M with an `x` between them
abbrev pub tree_in : Text → Option Tree
tree_in text = if list_any is_between text then two_levels (before_first is_between text) (after_first is_between text) else one_level text

abbrev pub tree_or_usual : Option Text → Option Tree
tree_or_usual None = Some (tree_of 1 None)
tree_or_usual (Some text) = tree_in text

-- the option's tree, by the values that are given under each name
abbrev pub tree_at : (Text → List Text) → Option Tree
tree_at given = option_and_then tree_or_usual (at_most_one (given tree))

-- ---- options whose values are names of files

abbrev pub trace : Text
trace = codes "trace"

abbrev pub schedule : Text
schedule = codes "schedule"

-- all of them
abbrev pub name_options : List Text
name_options = trace ∷ schedule ∷ []

-- not both are given with one name
abbrev pub are_apart : Option Text → Option Text → Bool
are_apart (Some a) (Some b) = not (bytes_eq a b)
are_apart _ _ = true

-- ---- flags

abbrev pub moves : Text
moves = codes "moves"

abbrev pub summary : Text
summary = codes "summary"

-- all of them
abbrev pub flags : List Text
flags = moves ∷ summary ∷ []

-- the names of all options and flags
abbrev pub all_names : List Text
all_names = map (λ o. o.name) number_options ++ (tree ∷ (name_options ++ flags))

-- whether there is a use of a flag; None where there are two
abbrev pub at_most_once : List Text → Option Bool
at_most_once [] = Some false
at_most_once (v ∷ []) = Some true
at_most_once (v ∷ w ∷ vs) = None

-- whether the flag is given, by the values that are given under each name
abbrev pub flag_at : (Text → List Text) → Text → Option Bool
flag_at given name = at_most_once (given name)
