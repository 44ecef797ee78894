-- What a line of a schedule says.
use Rattle.std.specs.Prelude.{◌==◌, ◌^◌, ℕ, List, [], ◌∷◌, Option, Some, None, if◌then◌else◌, codes, option_and_then}
use Rattle.std.specs.Option.{option_map}
use Rattle.std.specs.List.{before_first, after_first}
use Rattle.std.specs.Str.{bytes_eq}
use Rattle.std.specs.Str.Lines.{strip_carriage_return}
use Rattle.slot_space.specs.declared.names.Tid.{Tid}
use Rattle.run_trace.specs.declared.entry.Act.{Act}
use Rattle.run_trace.specs.declared.entry.Act.TheVariants as act
use Rattle.run_texts.specs.declared.act.Said.{Said}
use Rattle.run_texts.specs.declared.act.Said.TheVariants as said
use Rattle.run_texts.specs.Parts.{Text, number_in, words_of}

-- a node's number, of so many nodes
abbrev pub node_in : ℕ → Text → Option ℕ
node_in nodes text = number_in 0 nodes text

-- `HOME.SEQ`; a dot is 46
unfoldable pub tid_in : ℕ → Text → Option Tid
tid_in nodes text =
    option_and_then (λ home. option_map (λ seq. record { home = home; seq = seq }) (number_in 0 (2 ^ 32) (after_first (λ b. b == 46) text)))
    (node_in nodes (before_first (λ b. b == 46) text))

-- a processor, of so many, and a quantum
abbrev pub run_in : ℕ → List Text → Option Act
run_in processors (vp ∷ quantum ∷ []) = option_and_then (λ v. option_map (λ q. act.Run v q) (number_in 1 65537 quantum)) (number_in 0 processors vp)
run_in processors _ = None

abbrev pub take_in : ℕ → List Text → Option Act
take_in nodes (sender ∷ []) = option_map act.Take (node_in nodes sender)
take_in nodes _ = None

-- a thread, and another node
abbrev pub move_in : (nodes node : ℕ) → List Text → Option Act
move_in nodes node (t ∷ to ∷ []) = option_and_then (λ t. option_and_then (λ to. if to == node then None else Some (act.Move t to)) (node_in nodes to)) (tid_in nodes t)
move_in nodes node _ = None

-- an act of this name on this node
abbrev pub act_in : (nodes processors node : ℕ) → Text → List Text → Option Act
act_in nodes processors node name words =
    if bytes_eq name (codes "run") then run_in processors words
    else (if bytes_eq name (codes "take") then take_in nodes words
    else (if bytes_eq name (codes "move") then move_in nodes node words else None))

abbrev pub said_act : ℕ → Option Act → Said
said_act node None = said.Bad
said_act node (Some a) = said.Act node a

-- words that are an act: its name, its node, and what else it has
abbrev pub said_node : (nodes processors : ℕ) → Text → Option ℕ → List Text → Said
said_node nodes processors name None words = said.Bad
said_node nodes processors name (Some node) words = said_act node (act_in nodes processors node name words)

abbrev pub said_words : (nodes processors : ℕ) → List Text → Said
said_words nodes processors (name ∷ node ∷ words) = said_node nodes processors name (node_in nodes node) words
said_words nodes processors _ = said.Bad

-- a line of blanks says nothing, and no act stands behind a blank; a blank is 32
abbrev pub said_from : (nodes processors first : ℕ) → List Text → Said
said_from nodes processors first [] = said.Nothing
said_from nodes processors first (w ∷ ws) = if first == 32 then said.Bad else said_words nodes processors (w ∷ ws)

-- an empty line and a comment, which begins with a `#`, say nothing
abbrev pub said_plainly : (nodes processors : ℕ) → Text → Said
said_plainly nodes processors [] = said.Nothing
said_plainly nodes processors (b ∷ bs) = if b == 35 then said.Nothing else said_from nodes processors b (words_of (b ∷ bs))

-- what a line says, without the one carriage return at its end, where there are so many nodes, each with so many processors
abbrev pub said_in : (nodes processors : ℕ) → Text → Said
said_in nodes processors line = said_plainly nodes processors (strip_carriage_return line)
