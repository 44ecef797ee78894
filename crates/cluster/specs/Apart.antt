-- Nodes that are driven apart from their cluster, and what comes of them where they are put together again.
use Rattle.std.specs.Prelude.{◌≡◌, ◌+◌, ◌<◌, ◌≤◌, ◌⊎◌, ◌%◌, ℕ, List, [], ◌∷◌, ◌++◌, length, reverse, true, Some, slice_get}
use Rattle.run_trace.specs.declared.entry.Entry.{Entry}
use Rattle.run_trace.specs.Cluster.{received, sent}
use Rattle.run_trace.specs.Console.{console_of, printed}
use Rattle.run_trace.specs.Histories as histories
use Rattle.run_trace.specs.Histories.{IsHistory, Turn, clock, own_entries, taken_from, turn_state}
use Rattle.run_trace.specs.Legality.{Legal, NoneAbove}
use Rattle.run_trace.specs.Program.{Program, nodes_of, quantum_limit}
use Rattle.run_trace.specs.Spots.{at_first}
use Rattle.run_trace.specs.Trace.{events_of}
use Rattle.trace_laws.specs.Gathers.{events_in}
use Rattle.wires.specs.Ends.{width, sent_to, received_from}
use Rattle.wires.specs.Wires.{AreWired, StaysWired, received_on, sent_on}
use Rattle.node_loop.specs.Rounds.{AreInRound}
use Rattle.node_loop.specs.Turns.{entry_limit}
use Rattle.node_loop.specs.View.{NodeView}
use Rattle.cluster.specs.Between.{AllOf, AreNumbered, wires_in}
use Rattle.cluster.specs.Gathering.{entries_in}
use Rattle.cluster.specs.Rounds.{clock_of}
use Rattle.cluster.specs.Standing.{NoneLater, StandsFor, clock_limit, net_after, turns_in}
use Rattle.cluster.specs.View.{ClusterView, ShellView, console_at, greatest_clock}

-- ## What can be put together

-- as many nodes as the setup has, in their order, each with the shell's setup and image; the ends pair with one another and with
-- the shell's
pub record Fits (shell : ShellView) (nodes : List NodeView) : Type 0 where
  pub count : length nodes ≡ nodes_of shell.program
  pub numbered : AreNumbered nodes
  pub programs : AllOf shell.program nodes
  pub wired : AreWired (wires_in nodes shell.rest)

-- a cluster can stand with the program, and nothing was sent or received by the ends of the wires' further nodes
pub record IsShell (shell : ShellView) : Type 0 where
  pub some_quantum : 0 < shell.program.setup.quantum
  pub bounded_quantum : shell.program.setup.quantum ≤ quantum_limit
  pub aligned : shell.program.image.main % 4 ≡ 0
  pub unused : (k i : ℕ) → (sent_on shell.rest k i ≡ []) × (received_on shell.rest i k ≡ [])

-- a node has become another of the same program and number, and its ends pair as they did: turns, looks and settling keep these
pub record StaysInPlace (old new : NodeView) : Type 0 where
  pub program : new.program ≡ old.program
  pub me : new.me ≡ old.me
  pub wired : StaysWired old.ends new.ends

-- what the nodes have become after any turns can be put into the shell
abbrev pub FitAfterTurns : ShellView → List NodeView → Type 0
FitAfterTurns shell nodes = (now : List NodeView) → length now ≡ length nodes
    → ((n : ℕ) (v w : NodeView) → slice_get nodes n ≡ Some v → slice_get now n ≡ Some w → StaysInPlace v w) → Fits shell now

-- ## What a node did after the old trace

-- the last stamp of node n, after the old trace and these turns
abbrev pub last_stamp_of : ℕ → (old : List Entry) → List Turn → ℕ
last_stamp_of n old turns = clock (clock_of n 0 old) turns

-- node n stands for its history, which is its part of the old trace and then these turns, the newest of which stands first. All
-- turns are of one round, which began with this clock. It keeps the entries that are no part of what came before, and its ends tell
-- what it has received and sent in them. Its clock is not below its last stamp, and not above both that and the round's clock
pub record HasGoneOn (p : Program) (before kept : List Entry) (began round n : ℕ) (turns : List Turn) (v : NodeView) : Type 0 where
  pub history : IsHistory p n (clock_of n 0 (kept ++ before)) ((net_after p (kept ++ before)).nodes n) turns
  pub one_round : AreInRound p n began round turns
  pub state : turn_state p n ((net_after p (kept ++ before)).nodes n) turns ≡ v.state
  pub booted : v.state.booted ≡ true
  pub entries : v.entries ≡ reverse (entries_in turns ++ own_entries n kept)
  pub few : length v.entries ≤ entry_limit
  pub received : (i : ℕ) → received_from v.ends i ≡ received i n (events_of p (net_after p before) kept) ++ taken_from i (events_in turns)
  pub sent : (j : ℕ) → j < width v.ends → sent_to v.ends j ≡ sent n j (events_of p (net_after p before) kept) ++ histories.sent_to j (events_in turns)
  pub in_round : v.round ≡ round
  pub not_below : last_stamp_of n (kept ++ before) turns ≤ v.clock
  pub not_above : (v.clock ≤ last_stamp_of n (kept ++ before) turns) ⊎ (v.clock ≤ began)

-- ## What all nodes did

-- the old trace is legal, and what came before the kept entries has left nothing on the links. Each node, and no other, has a
-- history and stands for it, whatever packets it took. All have gone on in one round, which is not below a round of the old trace
-- and began with one clock, which is not below its stamps; some node's clock is not below that. The console goes on by what node 0
-- prints
pub record HaveGoneOn (shell : ShellView) (nodes : List NodeView) (before kept : List Entry) (began round : ℕ) (turns : ℕ → List Turn) : Type 0 where
  pub legal : Legal shell.program (kept ++ before)
  pub still : (i j : ℕ) → (net_after shell.program before).links i j ≡ []
  pub each : (n : ℕ) (v : NodeView) → slice_get nodes n ≡ Some v → HasGoneOn shell.program before kept began round n (turns n) v
  pub none : (n : ℕ) → nodes_of shell.program ≤ n → turns n ≡ []
  pub rounds : NoneAbove round (kept ++ before)
  pub stamps : NoneLater began (kept ++ before)
  pub low : began < clock_limit (length kept)
  pub reached : began ≤ greatest_clock nodes
  pub console : console_of shell.program (at_first shell.program) before ++ console_at (slice_get nodes 0)
      ≡ console_of shell.program (at_first shell.program) (kept ++ before) ++ printed (events_in (turns 0))

-- in the order of stamps and nodes these entries are what all nodes did, and the cluster stands for the old trace with them: it is
-- legal
pub record StandsForMerge (new : ClusterView) (before kept : List Entry) (turns : ℕ → List Turn) : Type 0 where
  pub merge : List Entry
  pub parts : (n : ℕ) → own_entries n merge ≡ entries_in (turns n)
  pub stands : StandsFor new before (merge ++ kept)

-- ## How many acts the nodes' entries tell

abbrev pub turns_together : List NodeView → ℕ
turns_together [] = 0
turns_together (v ∷ vs) = turns_in v.entries + turns_together vs
