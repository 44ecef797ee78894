-- A schedule as it is written.
use Rattle.std.specs.Prelude.{◌≢◌, ℕ, ◌+◌, ◌^◌, ◌<◌, ◌≤◌, List, [], ◌∷◌, codes, decimal, ⊤}
use Rattle.std.specs.List.{flat_map, AllByRecursion}
use Rattle.run_trace.specs.declared.entry.Act.{Act}
use Rattle.run_trace.specs.declared.entry.Act.TheVariants as act
use Rattle.run_trace.specs.declared.entry.Entry.{Entry}
use Rattle.trace_text.specs.Words.{tid_text}
use Rattle.trace_text.specs.Lines.{line_text}
use Rattle.run_texts.specs.declared.schedule.Scheduled.{Scheduled}
use Rattle.run_texts.specs.Parts.{Text}

-- the words of an act on this node; a node's beginning has none
unfoldable pub act_words : ℕ → Act → List Text
act_words node act.Boot = []
act_words node (act.Run vp quantum) = codes "run" ∷ decimal node ∷ decimal vp ∷ decimal quantum ∷ []
act_words node (act.Take sender) = codes "take" ∷ decimal node ∷ decimal sender ∷ []
act_words node (act.Move t to) = codes "move" ∷ decimal node ∷ tid_text t ∷ decimal to ∷ []

-- words are a line, and no words are nothing
abbrev pub line_or_nothing : List Text → Text
line_or_nothing [] = []
line_or_nothing (w ∷ ws) = line_text (w ∷ ws)

-- the acts of a trace, each on a line of its own, without the nodes' beginnings
abbrev pub schedule_text : List Entry → Text
schedule_text trace = flat_map (λ x. line_or_nothing (act_words x.node x.act)) trace

-- ---- what is read of it again

-- an act in front, but for a node's beginning, and then what the line behind it has
abbrev pub at_line : (line node : ℕ) → Act → (ℕ → List Scheduled) → List Scheduled
at_line line node act.Boot rest = rest line
at_line line node a rest = record { line = line; node = node; act = a } ∷ rest (line + 1)

-- the acts of a trace without the nodes' beginnings, in lines from this one on
abbrev pub numbered : ℕ → List Entry → List Scheduled
numbered line [] = []
numbered line (x ∷ xs) = at_line line x.node x.act (λ next. numbered next xs)

-- an act on this node is in range where there are so many nodes, each with so many processors
abbrev pub IsInRange : (nodes processors node : ℕ) → Act → Type 0
IsInRange nodes processors node act.Boot = ⊤
IsInRange nodes processors node (act.Run vp quantum) = (vp < processors) × (1 ≤ quantum) × (quantum ≤ 65536)
IsInRange nodes processors node (act.Take sender) = sender < nodes
IsInRange nodes processors node (act.Move t to) = (t.home < nodes) × (t.seq < 2 ^ 32) × (to < nodes) × (to ≢ node)

abbrev pub AreInRange : (nodes processors : ℕ) → List Entry → Type 0
AreInRange nodes processors trace = AllByRecursion (λ x. (x.node < nodes) × IsInRange nodes processors x.node x.act) trace
