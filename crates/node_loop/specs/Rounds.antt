-- What a node has done in a round, whatever packets came.
use Rattle.std.specs.Prelude.{◌≡◌, ◌+◌, ◌<◌, ◌≤◌, ◌⊎◌, ⊤, ℕ, List, [], ◌∷◌, ◌++◌, length, Bool, true, false, is_some, None}
use Rattle.run_trace.specs.declared.entry.Act.TheVariants.{Run, Take}
use Rattle.run_trace.specs.Console.{printed}
use Rattle.run_trace.specs.Histories.{Turn, clock, turn_state}
use Rattle.run_trace.specs.Local.{Local}
use Rattle.run_trace.specs.Machine.{turn_event}
use Rattle.run_trace.specs.Program.{Program, nodes_of, processors_of}
use Rattle.wires.specs.Wires.{StaysWired}
use Rattle.node_loop.specs.declared.node.RoundEnd.{RoundEnd}
use Rattle.node_loop.specs.declared.node.RoundEnd.TheVariants.{Through, Lost}
use Rattle.node_loop.specs.Histories.{HasHistory, events_of_turns}
use Rattle.node_loop.specs.Passes.{Moment, AreRuns, AreTakes, HasTake, IsPass, IsRound, ready_after}
use Rattle.node_loop.specs.Turns.{IsActInRange, IsLost, can}
use Rattle.node_loop.specs.View.{NodeView}

-- the turns are of this node and of one round, which began with this clock
abbrev pub AreInRound : Program → (me began round : ℕ) → List Turn → Type 0
AreInRound p me began round [] = ⊤
AreInRound p me began round (t ∷ before) =
    ((t.event.node ≡ me) × (t.began ≡ began) × (t.event.round ≡ round) × IsActInRange p me t.event.act) × AreInRound p me began round before

-- since it was as told a node has done these turns, the newest of which stands first, all in one round
pub record HasDone (old : NodeView) (turns : List Turn) (new : NodeView) : Type 0 where
  pub history : HasHistory old turns new
  pub clock : new.clock ≡ clock old.clock turns
  pub later : old.clock ≤ new.clock
  pub round : new.round ≡ old.round
  pub one_round : AreInRound old.program old.me old.clock old.round turns
  pub console : new.console ≡ old.console ++ printed (events_of_turns turns)
  pub booted : new.state.booted ≡ true
  pub wired : StaysWired old.ends new.ends

-- which processors can run a thread
abbrev pub can_run : Program → (me : ℕ) → Local → ℕ → Bool
can_run p me s = λ vp. is_some (turn_event p me s (Run vp p.setup.quantum) None)

-- the acts of these turns, each with which processors can run a thread after it
abbrev pub moments_in : Program → (me : ℕ) → Local → List Turn → List Moment
moments_in p me base [] = []
moments_in p me base (t ∷ before) = record { act = t.event.act; ready = can_run p me (turn_state p me base (t ∷ before)) } ∷ moments_in p me base before

abbrev pub moments_of_node : NodeView → List Turn → List Moment
moments_of_node v turns = moments_in v.program v.me v.state turns

-- ## The parts of a round

-- whatever it has done since some moment, it has done so many turns more, and they are these acts
pub record DoesMore (acts : List Moment) (old new : NodeView) : Type 0 where
  pub further : (start : NodeView) (turns : List Turn) → HasDone start turns old
      → (more : List Turn) × HasDone start (more ++ turns) new × (moments_of_node start (more ++ turns) ≡ acts ++ moments_of_node start turns)
  pub entries : length new.entries ≡ length old.entries + length acts
  pub program : new.program ≡ old.program
  pub me : new.me ≡ old.me
  pub booted : new.state.booted ≡ true
  pub ready : ready_after (can_run old.program old.me old.state) acts ≡ can_run new.program new.me new.state

-- and then a turn found no memory
pub record FailsLater (old new : NodeView) : Type 0 where
  pub acts : List Moment
  pub last : NodeView
  pub more : DoesMore acts old last
  pub lost : IsLost last new

-- one of each sender of whom a packet is known, and of others as they show, or as many as there is room for
pub record DoesTakes (room count : ℕ) (old new : NodeView) : Type 0 where
  pub acts : List Moment
  pub does : DoesMore acts old new
  pub many : length acts ≡ count
  pub few : count ≤ room
  pub takes : AreTakes (nodes_of old.program) acts
  pub known : (sender : ℕ) → sender < nodes_of old.program → can old (Take sender) ≡ true → HasTake sender acts ⊎ (count ≡ room)

-- a run of each processor that has a pick, or of so many as there is room for
pub record DoesRuns (room count : ℕ) (old new : NodeView) : Type 0 where
  pub acts : List Moment
  pub does : DoesMore acts old new
  pub many : length acts ≡ count
  pub few : count ≤ room
  pub reach : ℕ  -- the processors below this number were asked
  pub within : reach ≤ processors_of old.program
  pub runs : AreRuns old.program.setup.quantum reach (can_run old.program old.me old.state) acts
  pub cut : (reach ≡ processors_of old.program) ⊎ (count ≡ room)

-- a pass: it is whole, or cut off after so many acts as there is room for
pub record DoesPass (room count : ℕ) (old new : NodeView) : Type 0 where
  pub acts : List Moment
  pub does : DoesMore acts old new
  pub many : length acts ≡ count
  pub few : count ≤ room
  pub reach : ℕ  -- the processors below this number were asked
  pub within : reach ≤ processors_of old.program
  pub pass : IsPass (nodes_of old.program) reach old.program.setup.quantum (can_run old.program old.me old.state) acts
  pub cut : (reach ≡ processors_of old.program) ⊎ (count ≡ room)
  pub known : (sender : ℕ) → sender < nodes_of old.program → can old (Take sender) ≡ true → HasTake sender acts ⊎ (count ≡ room)

pub record DoesPasses (events : ℕ) (old new : NodeView) : Type 0 where
  pub acts : List Moment
  pub does : DoesMore acts old new
  pub passes : IsRound (nodes_of old.program) (processors_of old.program) old.program.setup.quantum events (can_run old.program old.me old.state) (λ i. can old (Take i)) acts

-- ## A round

-- what it has done in passes, of at most so many events
pub record HasRounded (old : NodeView) (events : ℕ) (new : NodeView) : Type 0 where
  pub turns : List Turn
  pub done : HasDone old turns new
  pub passes : IsRound (nodes_of old.program) (processors_of old.program) old.program.setup.quantum events (can_run old.program old.me old.state) (λ i. can old (Take i)) (moments_of_node old turns)

-- it has done some turns, and then one found no memory: it is as if it hadn't begun
pub record HasStopped (old : NodeView) (events : ℕ) (new : NodeView) : Type 0 where
  pub turns : List Turn
  pub last : NodeView
  pub done : HasDone old turns last
  pub lost : IsLost last new
  pub gone : new.state.booted ≡ false

abbrev pub Rounds : NodeView → ℕ → NodeView → RoundEnd → Type 0
Rounds old events new Through = HasRounded old events new
Rounds old events new Lost = HasStopped old events new
