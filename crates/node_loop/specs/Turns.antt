-- A turn: one step of the node's machine on what the node had, the act, and the packet that it took.
use Rattle.std.specs.Prelude.{◌≡◌, ◌≢◌, ◌<◌, ◌≤◌, ℕ, suc, List, [], ◌∷◌, ◌++◌, Option, Some, None, Bool, false, nat_lt, length, max, ⊤}
use Rattle.run_trace.specs.declared.entry.Act.{Act}
use Rattle.run_trace.specs.declared.entry.Act.TheVariants.{Boot, Run, Take, Move}
use Rattle.run_trace.specs.declared.packet.Packet.{Packet}
use Rattle.run_trace.specs.declared.packet.Send.{Send}
use Rattle.run_trace.specs.Program.{Program, nodes_of, processors_of, quantum_limit}
use Rattle.run_trace.specs.Local.{EventSoFar}
use Rattle.run_trace.specs.Machine.{turn_event}
use Rattle.run_trace.specs.Cluster.{taken_of}
use Rattle.run_trace.specs.Histories.{IsShape, Turn, seen}
use Rattle.levels.specs.Choice.{has_ready}
use Rattle.run_trace.specs.Bubbles.{is_listed}
use Rattle.wires.specs.declared.ends.Ends.{Ends}
use Rattle.wires.specs.Ends.{node_of, width, sent_to, received_from, known_from}
use Rattle.wires.specs.Wires.{StaysWired}
use Rattle.node_loop.specs.View.{NodeView}
use Rattle.node_loop.specs.declared.node.Turned.{Turned}
use Rattle.node_loop.specs.declared.node.Turned.TheVariants.{Did, Idle}
use Rattle.run_trace.specs.Links.{packets_to}

-- ## What goes by the links

-- where a packet of the sender is known, it is the one that is taken
abbrev pub TakesKnown : Ends Packet → Act → Option Packet → Type 0
TakesKnown ends (Take from) took = (p : Packet) (ps : List Packet) → known_from ends from ≡ p ∷ ps → took ≡ Some p
TakesKnown ends Boot took = ⊤
TakesKnown ends (Run vp quantum) took = ⊤
TakesKnown ends (Move t to) took = ⊤

-- what is known of this sender is known still
abbrev pub StaysKnown : ℕ → Ends Packet → Ends Packet → Type 0
StaysKnown k old new = (p : Packet) (ps : List Packet) → known_from old k ≡ p ∷ ps → known_from new k ≡ p ∷ ps

-- the links have carried what was taken and what was sent, and nothing else
pub record Carries (act : Act) (took : Option Packet) (stamp : ℕ) (sends : List Send) (old new : Ends Packet) : Type 0 where
  pub node : node_of new ≡ node_of old
  pub wide : width new ≡ width old
  pub received : (k : ℕ) → received_from new k ≡ received_from old k ++ taken_of k act took
  pub sent : (k : ℕ) → k < width old → sent_to new k ≡ sent_to old k ++ packets_to k stamp sends
  pub known : (k : ℕ) → act ≢ Take k → StaysKnown k old new
  pub wired : StaysWired old new

-- the links have carried nothing; a look at a ring may have shown a packet
pub record CarriesNothing (old new : Ends Packet) : Type 0 where
  pub node : node_of new ≡ node_of old
  pub wide : width new ≡ width old
  pub received : (k : ℕ) → received_from new k ≡ received_from old k
  pub sent : (k : ℕ) → sent_to new k ≡ sent_to old k
  pub known : (k : ℕ) → StaysKnown k old new
  pub wired : StaysWired old new

-- ## A turn

-- the turn, with its entry: its stamp is one above the clock and the packet's stamp
abbrev pub turn_of : NodeView → Act → Option Packet → EventSoFar → Turn
turn_of v act took done = record {
  began = v.clock;
  event = record {
    stamp = suc (max v.clock (seen took));
    node = v.me;
    round = v.round;
    act = act;
    took = took;
    labels = done.labels;
    sends = done.sends;
    prints = done.prints;
  };
}

-- the node after it, with these ends
abbrev pub after_turn : NodeView → Act → Option Packet → EventSoFar → Ends Packet → NodeView
after_turn v act took done ends = record v {
  state = done.node;
  clock = suc (max v.clock (seen took));
  entries = v.entries ++ (record { stamp = suc (max v.clock (seen took)); node = v.me; round = v.round; act = act; labels = done.labels }) ∷ [];
  console = v.console ++ done.prints;
  ends = ends;
}

-- the act is done: one step of the machine, on the packet that it took
pub record Does (old : NodeView) (act : Act) (new : NodeView) : Type 0 where
  pub took : Option Packet
  pub done : EventSoFar
  pub shape : IsShape act took
  pub known : TakesKnown old.ends act took
  pub is : turn_event old.program old.me old.state act took ≡ Some done
  pub after : new ≡ after_turn old act took done new.ends
  pub links : Carries act took (suc (max old.clock (seen took))) done.sends old.ends new.ends

-- no packet of the sender is known; of another act, that the machine can't do it
abbrev pub IsImpossible : NodeView → Act → Type 0
IsImpossible v (Take from) = known_from v.ends from ≡ []
IsImpossible v act = turn_event v.program v.me v.state act None ≡ None

-- the act isn't possible, and nothing has changed
pub record Idles (old : NodeView) (act : Act) (new : NodeView) : Type 0 where
  pub impossible : IsImpossible old act
  pub same : new ≡ record old { ends = new.ends }
  pub links : CarriesNothing old.ends new.ends

abbrev pub Turns : NodeView → Act → NodeView → Turned → Type 0
Turns old act new Idle = Idles old act new
Turns old act new Did = Does old act new

-- the numbers of an act of node n are in range, and it isn't to begin
abbrev pub IsActInRange : Program → ℕ → Act → Type 0
IsActInRange p n Boot = ⊥
IsActInRange p n (Run vp quantum) = (vp < processors_of p) × (0 < quantum) × (quantum ≤ quantum_limit)
IsActInRange p n (Take from) = from < nodes_of p
IsActInRange p n (Move t to) = (to < nodes_of p) × (to ≢ n)

abbrev pub IsInRange : NodeView → Act → Type 0
IsInRange v act = IsActInRange v.program v.me act

-- the processor has a pick, a packet of the sender is known, or the thread is on the run list
abbrev pub can : NodeView → Act → Bool
can v Boot = false
can v (Run vp quantum) = has_ready v.state.forest.lists.tree vp v.state.forest.lists.rows
can v (Take from) = nat_lt 0 (length (known_from v.ends from))
can v (Move t to) = is_listed t v.state.forest

-- how many entries a node may keep
abbrev pub entry_limit : ℕ
entry_limit = 2000000

-- what want of memory leaves: the entries, the console, the clock and the round; no packet is sent
pub record IsLost (old new : NodeView) : Type 0 where
  pub program : new.program ≡ old.program
  pub me : new.me ≡ old.me
  pub clock : new.clock ≡ old.clock
  pub round : new.round ≡ old.round
  pub entries : new.entries ≡ old.entries
  pub console : new.console ≡ old.console
  pub node : node_of new.ends ≡ node_of old.ends
  pub wide : width new.ends ≡ width old.ends
  pub sent : (k : ℕ) → sent_to new.ends k ≡ sent_to old.ends k
  pub received : (k : ℕ) → (gone : List Packet) × (received_from new.ends k ≡ received_from old.ends k ++ gone)
  pub wired : StaysWired old.ends new.ends
