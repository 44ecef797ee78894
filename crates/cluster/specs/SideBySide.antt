-- What the parts of a round in code come to: on the nodes as a list.
use Rattle.std.specs.Prelude.{◌≡◌, ◌+◌, ◌<◌, ◌≤◌, ℕ, List, [], ◌∷◌, length, map, Bool, true, ◌&&◌, slice_index_or}
use Rattle.run_trace.specs.declared.packet.Packet.{Packet}
use Rattle.run_trace.specs.Program.{quantum_limit}
use Rattle.wires.specs.declared.ends.Ends.{Ends}
use Rattle.node_loop.specs.View.{NodeView, raised}
use Rattle.node_loop.specs.Rounds.{Rounds}
use Rattle.node_loop.specs.Turns.{entry_limit}
use Rattle.node_loop.specs.declared.node.RoundEnd.{RoundEnd}
use Rattle.cluster.specs.Between.{SettlesAll}
use Rattle.cluster.specs.Rounds.{acts_in_round}

-- what a round asks of a node
pub record MayRound (v : NodeView) : Type 0 where
  pub entries : length v.entries + acts_in_round ≤ entry_limit
  pub some_quantum : 0 < v.program.setup.quantum
  pub bounded_quantum : v.program.setup.quantum ≤ quantum_limit
  pub booted : v.state.booted ≡ true

-- the node has made a round, however it ended
pub record HasRun (v w : NodeView) : Type 0 where
  pub end : RoundEnd
  pub rounds : Rounds v acts_in_round w end

abbrev pub EachHasRun : List NodeView → List NodeView → Type 0
EachHasRun old new = (i : ℕ) (d : NodeView) → i < length old → HasRun (slice_index_or old i d) (slice_index_or new i d)

-- no node is lost
abbrev pub all_stand : List NodeView → Bool
all_stand [] = true
all_stand (v ∷ vs) = v.state.booted && all_stand vs

-- how many entries the nodes keep together
abbrev pub entries_together : List NodeView → ℕ
entries_together [] = 0
entries_together (v ∷ vs) = length v.entries + entries_together vs

-- the nodes were raised, each made a round, none was lost, and their links are settled
pub record HaveRounded (clock : ℕ) (rest : List (Ends Packet)) (old now : List NodeView) : Type 0 where
  pub ran : List NodeView
  pub count : length ran ≡ length old
  pub each : EachHasRun (map (raised clock) old) ran
  pub stand : all_stand ran ≡ true
  pub settled : SettlesAll rest ran now

-- the nodes were raised, each made a round, and some are lost
pub record HaveStopped (clock : ℕ) (old now : List NodeView) : Type 0 where
  pub count : length now ≡ length old
  pub each : EachHasRun (map (raised clock) old) now
