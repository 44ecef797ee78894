-- What a turn does with the node's ends, part by part.
use Rattle.std.specs.Prelude.{◌≡◌, ◌≢◌, ℕ, ◌+◌, ◌<◌, ◌≤◌, List, [], ◌∷◌, ◌++◌, length, Option, Some, None, ⊤}
use Rattle.run_trace.specs.declared.entry.Act.{Act}
use Rattle.run_trace.specs.declared.entry.Act.TheVariants.{Boot, Run, Take, Move}
use Rattle.run_trace.specs.declared.packet.Packet.{Packet}
use Rattle.run_trace.specs.declared.packet.Send.{Send}
use Rattle.run_trace.specs.Cluster.{taken_of}
use Rattle.wires.specs.declared.ends.Ends.{Ends}
use Rattle.wires.specs.Ends.{node_of, width, sent_to, received_from, known_from, spare_to}
use Rattle.wires.specs.Wires.{StaysWired}
use Rattle.node_state.specs.declared.output.EventOutput.{EventOutput}
use Rattle.node_loop.specs.View.{NodeView, with_ends}
use Rattle.node_loop.specs.Turns.{CarriesNothing, StaysKnown}
use Rattle.run_trace.specs.Links.{packets_to}

-- only a Take takes; it takes what is known first, and nothing only where nothing is known
abbrev pub TakesFirst : Ends Packet → Act → Option Packet → Type 0
TakesFirst ends (Take from) None = known_from ends from ≡ []
TakesFirst ends (Take from) (Some x) = (p : Packet) (ps : List Packet) → known_from ends from ≡ p ∷ ps → Some x ≡ Some p
TakesFirst ends Boot took = took ≡ None
TakesFirst ends (Run vp quantum) took = took ≡ None
TakesFirst ends (Move t to) took = took ≡ None

-- the links have carried what the act took, and nothing else
pub record Took (act : Act) (took : Option Packet) (old new : Ends Packet) : Type 0 where
  pub first : TakesFirst old act took
  pub node : node_of new ≡ node_of old
  pub wide : width new ≡ width old
  pub received : (k : ℕ) → received_from new k ≡ received_from old k ++ taken_of k act took
  pub sent : (k : ℕ) → sent_to new k ≡ sent_to old k
  pub known : (k : ℕ) → act ≢ Take k → StaysKnown k old new
  pub wired : StaysWired old new

-- the sender that an act names is among the ends
abbrev pub IsTakenWithin : ℕ → Act → Type 0
IsTakenWithin wide (Take from) = from < wide
IsTakenWithin wide Boot = ⊤
IsTakenWithin wide (Run vp quantum) = ⊤
IsTakenWithin wide (Move t to) = ⊤

-- the links have carried nothing, and no spare place is lost
pub record Reserved (old new : Ends Packet) : Type 0 where
  pub nothing : CarriesNothing old new
  pub spare : (k : ℕ) → spare_to old k ≤ spare_to new k

-- so many packets can go to each node that something is sent to, without more memory
abbrev pub HasRoom : ℕ → Ends Packet → List Send → Type 0
HasRoom n ends [] = ⊤
HasRoom n ends (x ∷ xs) = (x.to < width ends → n ≤ spare_to ends x.to) × HasRoom n ends xs

-- the links have carried the packets of an entry with this stamp, and nothing else; each took at most one spare place of each
pub record Sent (stamp : ℕ) (sends : List Send) (old new : Ends Packet) : Type 0 where
  pub node : node_of new ≡ node_of old
  pub wide : width new ≡ width old
  pub received : (k : ℕ) → received_from new k ≡ received_from old k
  pub sent : (k : ℕ) → k < width old → sent_to new k ≡ sent_to old k ++ packets_to k stamp sends
  pub spare : (k : ℕ) → spare_to old k ≤ spare_to new k + length sends
  pub known : (k : ℕ) → StaysKnown k old new
  pub wired : StaysWired old new

-- ## A node

-- nothing but its ends has changed, and they have carried nothing
pub record Rests (old new : NodeView) : Type 0 where
  pub same : new ≡ with_ends new.ends old
  pub links : CarriesNothing old.ends new.ends

-- the entry and its lines, with these ends
abbrev pub recorded : NodeView → ℕ → Act → EventOutput → Ends Packet → NodeView
recorded v stamp act done ends = record v {
  clock = stamp;
  entries = v.entries ++ (record { stamp = stamp; node = v.me; round = v.round; act = act; labels = done.labels }) ∷ [];
  console = v.console ++ done.prints;
  ends = ends;
}

-- the entry is written, and its packets are sent
pub record Records (stamp : ℕ) (act : Act) (done : EventOutput) (old new : NodeView) : Type 0 where
  pub after : new ≡ recorded old stamp act done new.ends
  pub links : Sent stamp done.sends old.ends new.ends
