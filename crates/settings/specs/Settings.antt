-- The settings that a command line asks for, as a function of all its words.
use Rattle.std.specs.Prelude.{◌≡◌, ◌≤◌, ◌||◌, ℕ, Bool, true, false, count_by, List, [], ◌∷◌, ◌++◌, map, Option, Some, None, if◌then◌else◌, codes}
use Rattle.std.specs.Option.{option_map}
use Rattle.std.specs.List.{list_all, list_any}
use Rattle.std.specs.Str.{bytes_eq}
use Rattle.levels.specs.Trees.{Tree}
use Rattle.words.specs.Uses.{is_use}
use Rattle.words.specs.Words.{Form, GrammarOf, Text, file, form_of, is_name, items_of, long, values}
use Rattle.settings.specs.Numbers.{NumberOf, are_apart, at_most_one, flag_at, flags, jobs_of, long_turns, moves, name_options, nodes, number_at, number_options, quantum, schedule, seed, slots, summary, trace, tree, tree_at, turns}
use Rattle.settings.specs.declared.verb.Verb.{Verb}
use Rattle.settings.specs.declared.verb.Verb.TheVariants as verb
use Rattle.settings.specs.declared.command.Command.{Command}
use Rattle.settings.specs.declared.command.Command.TheVariants as command

-- ---- the commands

abbrev pub verb_of : Text → Option Verb
verb_of word =
    if bytes_eq word (codes "asm") then Some verb.Asm
    else (if bytes_eq word (codes "run") then Some verb.Run
    else (if bytes_eq word (codes "sim") then Some verb.Sim
    else (if bytes_eq word (codes "replay") then Some verb.Replay
    else (if bytes_eq word (codes "stress") then Some verb.Stress else None))))

-- what a command takes beside its positional words
abbrev pub grammar_of : Verb → GrammarOf
grammar_of verb.Asm = record { options = []; flags = [] }
grammar_of verb.Run = record { options = nodes.name ∷ slots.name ∷ quantum.name ∷ turns.name ∷ tree ∷ name_options; flags = summary ∷ [] }
grammar_of verb.Sim = record { options = map (λ o. o.name) number_options ++ (tree ∷ name_options); flags = flags }
grammar_of verb.Replay = record { options = nodes.name ∷ slots.name ∷ tree ∷ trace ∷ []; flags = summary ∷ [] }
grammar_of verb.Stress = record { options = nodes.name ∷ slots.name ∷ quantum.name ∷ turns.name ∷ tree ∷ name_options; flags = [] }

-- a command and its positional words
abbrev pub command_with : Verb → List Text → Option Command
command_with verb.Asm (name ∷ []) = Some (command.Asm name)
command_with verb.Run (name ∷ []) = Some (command.Run name)
command_with verb.Sim (name ∷ []) = Some (command.Sim name)
command_with verb.Replay (name ∷ schedule ∷ []) = Some (command.Replay name schedule)
command_with verb.Stress (number ∷ []) = option_map command.Stress (jobs_of number)
command_with _ _ = None

abbrev pub command_of : Verb → List Text → Option Command
command_of verb names = if list_all is_name names then command_with verb names else None

-- ---- the settings

-- the turns that a command has
abbrev pub turns_of : Command → NumberOf
turns_of (command.Stress jobs) = long_turns
turns_of _ = turns

-- whether a command shows the summary without being asked
abbrev pub always_sums : Command → Bool
always_sums (command.Stress jobs) = true
always_sums _ = false

-- what is asked for, in numbers; the run lists of each node; whether moves are among what is drawn, and the summary is shown; and the names of the files to write
pub record Chosen : Type 0 where
  pub command : Command
  pub nodes : ℕ
  pub slots : ℕ
  pub tree : Tree
  pub quantum : ℕ
  pub turns : ℕ
  pub seed : ℕ
  pub moves : Bool
  pub summary : Bool
  pub trace : Option Text
  pub schedule : Option Text

abbrev pub some_then : {A B : Type 0} → Option A → (A → Option B) → Option B
some_then None next = None
some_then (Some x) next = next x

-- a command with its numbers, its tree, its flags and its names, by the values that are given under each name
abbrev pub chosen_with : Command → (Text → List Text) → Option Chosen
chosen_with command given =
    some_then (number_at given nodes) (λ nodes.
    some_then (number_at given slots) (λ slots.
    some_then (number_at given quantum) (λ quantum.
    some_then (number_at given (turns_of command)) (λ turns.
    some_then (number_at given seed) (λ seed.
    some_then (flag_at given moves) (λ moves.
    some_then (flag_at given summary) (λ summary.
    some_then (at_most_one (given trace)) (λ trace.
    some_then (at_most_one (given schedule)) (λ schedule.
    some_then (tree_at given) (λ tree.
    if are_apart trace schedule then Some (record {
      command = command;
      nodes = nodes;
      slots = slots;
      tree = tree;
      quantum = quantum;
      turns = turns;
      seed = seed;
      moves = moves;
      summary = always_sums command || summary;
      trace = trace;
      schedule = schedule;
    }) else None))))))))))

abbrev pub chosen_by : Verb → (Text → List Text) → Option Chosen
chosen_by verb given = some_then (command_of verb (given file)) (λ command. chosen_with command given)

-- the settings of a command by the words behind it
abbrev pub settings_by : Verb → List Text → Option Chosen
settings_by verb words = some_then (items_of (grammar_of verb) words) (λ items. chosen_by verb (λ name. values name items))

-- the settings of a command line, or none: the first word is the command
abbrev pub settings_of : List Text → Option Chosen
settings_of [] = None
settings_of (word ∷ words) = some_then (verb_of word) (λ verb. settings_by verb words)

-- words in which this option or flag stands twice are refused
abbrev pub IsOnceOnly : Text → Type 0
IsOnceOnly name = (words : List Text) → 2 ≤ count_by (is_use name) words → settings_of words ≡ None

-- whether a word of this form gives a value to this name behind its `=`
abbrev pub gives_in : Text → Form → Bool
gives_in name (long n (Some value)) = bytes_eq n name
gives_in name _ = false

-- whether a word is `--name=value`
abbrev pub gives_value : Text → Text → Bool
gives_value name word = gives_in name (form_of word)

-- words that give this flag a value are refused
abbrev pub IsWithoutValue : Text → Type 0
IsWithoutValue name = (words : List Text) → list_any (gives_value name) words ≡ true → settings_of words ≡ None
