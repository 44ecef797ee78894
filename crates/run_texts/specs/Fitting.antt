-- What holds of the acts of each schedule.
use Rattle.std.specs.Prelude.{◌≢◌, ◌<◌, ◌≤◌, ℕ, List, [], ◌∷◌, ⊤}
use Rattle.run_trace.specs.declared.entry.Act.{Act}
use Rattle.run_trace.specs.declared.entry.Act.TheVariants as act
use Rattle.run_texts.specs.declared.schedule.Scheduled.{Scheduled}

-- an act that a schedule can ask of this node, where there are so many nodes, each with so many processors
abbrev pub IsActOf : (nodes processors node : ℕ) → Act → Type 0
IsActOf nodes processors node act.Boot = ⊥
IsActOf nodes processors node (act.Run vp quantum) = (vp < processors) × (1 ≤ quantum) × (quantum ≤ 65536)
IsActOf nodes processors node (act.Take sender) = sender < nodes
IsActOf nodes processors node (act.Move t to) = (to < nodes) × (to ≢ node)

abbrev pub AreActsOf : (nodes processors : ℕ) → List Scheduled → Type 0
AreActsOf nodes processors [] = ⊤
AreActsOf nodes processors (s ∷ later) = (s.node < nodes) × IsActOf nodes processors s.node s.act × AreActsOf nodes processors later
