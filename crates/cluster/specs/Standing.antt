-- What it means that a cluster stands for a trace, and what a step adds. The trace is in two parts, each newest entry first: what
-- came before, of which the nodes keep nothing but what it left, and the entries that they keep.
use Rattle.std.specs.Prelude.{◌≡◌, ◌+◌, ◌<◌, ◌≤◌, ◌%◌, ◌^◌, ⊤, ℕ, suc, List, [], ◌∷◌, ◌++◌, length, reverse, Option, Some, None, true, slice_get}
use Rattle.run_trace.specs.declared.entry.Act.{Act}
use Rattle.run_trace.specs.declared.entry.Act.TheVariants.{Boot, Run, Take, Move}
use Rattle.run_trace.specs.declared.entry.Entry.{Entry}
use Rattle.run_trace.specs.declared.packet.Packet.{Packet}
use Rattle.run_trace.specs.Cluster.{Net, fresh_net, sent, received}
use Rattle.run_trace.specs.Console.{console_of}
use Rattle.run_trace.specs.Histories.{IsInOrder, own_entries}
use Rattle.run_trace.specs.Legality.{Legal, NoneAbove}
use Rattle.run_trace.specs.Program.{Program, nodes_of, quantum_limit}
use Rattle.run_trace.specs.Spots.{at_first}
use Rattle.run_trace.specs.Trace.{events_of, net_after_trace}
use Rattle.wires.specs.declared.ends.Ends.{Ends}
use Rattle.wires.specs.declared.link.Link.{Link}
use Rattle.wires.specs.Link.{IsSettled}
use Rattle.wires.specs.Wires.{link_at, sent_on, received_on, AreWired}
use Rattle.node_loop.specs.View.{NodeView, next_round}
use Rattle.node_loop.specs.Turns.{entry_limit}
use Rattle.node_loop.specs.declared.node.Turned.{Turned}
use Rattle.node_loop.specs.declared.node.Turned.TheVariants.{Did, Idle}
use Rattle.cluster.specs.View.{ClusterView, wires_of, console_in, greatest_clock, round_in}

-- what a trace, newest entry first, leaves of the nodes and links
abbrev pub net_after : Program → List Entry → Net
net_after p trace = net_after_trace p (fresh_net p) trace

-- ## The links

-- on each link was sent what the kept entries send, and received what they take, from what the part before leaves
pub record HaveCarriedSince (p : Program) (before kept : List Entry) (wires : List (Ends Packet)) : Type 0 where
  pub sends : (i j : ℕ) → sent_on wires i j ≡ sent i j (events_of p (net_after p before) kept)
  pub takes : (i j : ℕ) → received_on wires i j ≡ received i j (events_of p (net_after p before) kept)

-- on each link was sent what the entries of the whole trace send, and received what they take
abbrev pub HaveCarried : Program → List Entry → List (Ends Packet) → Type 0
HaveCarried p trace wires = HaveCarriedSince p [] trace wires

-- what was received on a link, and then what is under way on it after the trace, is what was sent: the link with its outbox holds
-- exactly what is under way
abbrev pub HoldUnderWay : Program → List Entry → List (Ends Packet) → Type 0
HoldUnderWay p trace wires = (i j : ℕ) → received_on wires i j ++ (net_after p trace).links i j ≡ sent_on wires i j

-- all links between the first so many nodes are settled; nothing is sent on others
abbrev pub AreSettledBelow : ℕ → List (Ends Packet) → Type 0
AreSettledBelow n wires = (i j : ℕ) (x y : Link Packet) → i < n → j < n → link_at wires i j ≡ Some x → link_at wires j i ≡ Some y → IsSettled x y

-- ## Clocks and rounds

-- no stamp of these entries is above the clock
abbrev pub NoneLater : ℕ → List Entry → Type 0
NoneLater clock [] = ⊤
NoneLater clock (x ∷ xs) = (x.stamp ≤ clock) × NoneLater clock xs

-- the greatest clock is not below any stamp of the trace
abbrev pub CoversStamps : ClusterView → List Entry → Type 0
CoversStamps c trace = NoneLater (greatest_clock c.nodes) trace

-- all nodes are in one round
abbrev pub IsInOneRound : ClusterView → Type 0
IsInOneRound c = (n : ℕ) (v : NodeView) → slice_get c.nodes n ≡ Some v → v.round ≡ round_in c

-- that round is not below any round of the trace
abbrev pub CoversRounds : ClusterView → List Entry → Type 0
CoversRounds c trace = NoneAbove (round_in c) trace

-- each clock is below this
abbrev pub AreClocksBelow : ℕ → List NodeView → Type 0
AreClocksBelow limit nodes = (n : ℕ) (v : NodeView) → slice_get nodes n ≡ Some v → v.clock < limit

-- with so many kept entries each clock is below this: far below the stamps at which a packet is a stray
abbrev pub clock_limit : ℕ → ℕ
clock_limit kept = 2 ^ 61 + kept

-- ## The nodes

-- node n is what the trace leaves of it, and keeps no more entries than a node may
pub record IsNodeOf (c : ClusterView) (trace : List Entry) (n : ℕ) (v : NodeView) : Type 0 where
  pub program : v.program ≡ c.program
  pub me : v.me ≡ n
  pub state : (net_after c.program trace).nodes n ≡ v.state
  pub booted : v.state.booted ≡ true
  pub few : length v.entries ≤ entry_limit

abbrev pub entries_at : Option NodeView → List Entry
entries_at None = []
entries_at (Some v) = v.entries

-- the nodes' entries are together these
pub record HasTrace (c : ClusterView) (kept : List Entry) : Type 0 where
  pub order : IsInOrder kept
  pub entries : (n : ℕ) → own_entries n kept ≡ reverse (entries_at (slice_get c.nodes n))
  pub wired : AreWired (wires_of c)

abbrev pub turn_in : Act → ℕ
turn_in Boot = 0
turn_in (Run vp quantum) = 1
turn_in (Take from) = 1
turn_in (Move t to) = 1

-- how many entries are no beginnings
abbrev pub turns_in : List Entry → ℕ
turns_in [] = 0
turns_in (x ∷ xs) = turn_in x.act + turns_in xs

-- ## The cluster

-- the trace is legal; the nodes, the links and the console are what it leaves
pub record AgreesWith (c : ClusterView) (before kept : List Entry) : Type 0 where
  pub legal : Legal c.program (kept ++ before)
  pub trace : HasTrace c kept
  pub count : length c.nodes ≡ nodes_of c.program
  pub turns : c.turns ≡ turns_in kept
  pub node : (n : ℕ) (v : NodeView) → slice_get c.nodes n ≡ Some v → IsNodeOf c (kept ++ before) n v
  pub one_round : IsInOneRound c
  pub rounds : CoversRounds c (kept ++ before)
  pub stamps : CoversStamps c (kept ++ before)
  pub clocks : AreClocksBelow (clock_limit (length kept)) c.nodes
  pub carried : HaveCarriedSince c.program before kept (wires_of c)
  pub under_way : HoldUnderWay c.program (kept ++ before) (wires_of c)
  pub console : console_of c.program (at_first c.program) (kept ++ before) ≡ console_of c.program (at_first c.program) before ++ console_in c
  pub some_quantum : 0 < c.program.setup.quantum
  pub bounded_quantum : c.program.setup.quantum ≤ quantum_limit
  pub aligned : c.program.image.main % 4 ≡ 0

-- and the nodes' links are settled
pub record StandsFor (c : ClusterView) (before kept : List Entry) : Type 0 where
  pub agrees : AgreesWith c before kept
  pub settled : AreSettledBelow (nodes_of c.program) (wires_of c)

-- it stands for a trace
abbrev pub IsStanding : ClusterView → Type 0
IsStanding c = (before kept : List Entry) × StandsFor c before kept

-- node n may keep one entry more
abbrev pub HasRoom : ClusterView → ℕ → Type 0
HasRoom c n = (v : NodeView) → slice_get c.nodes n ≡ Some v → length v.entries < entry_limit

-- ## A step

-- an act of a node of this cluster: one stamp above the greatest clock, in the next round
pub record ComesNext (old : ClusterView) (n : ℕ) (asked : Act) (x : Entry) : Type 0 where
  pub node : x.node ≡ n
  pub act : x.act ≡ asked
  pub stamp : x.stamp ≡ suc (greatest_clock old.nodes)
  pub round : x.round ≡ next_round (round_in old)

-- an entry more, with which the cluster stands again; each clock is raised to the greatest, and that of the entry is its stamp
pub record Adds (old : ClusterView) (before kept : List Entry) (n : ℕ) (act : Act) (new : ClusterView) : Type 0 where
  pub program : new.program ≡ old.program
  pub turns : new.turns ≡ suc old.turns
  pub wide : length (wires_of new) ≡ length (wires_of old)
  pub entry : Entry
  pub stands : StandsFor new before (entry ∷ kept)
  pub next : ComesNext old n act entry
  pub raised : (m : ℕ) (v : NodeView) → slice_get new.nodes m ≡ Some v → greatest_clock old.nodes ≤ v.clock
  pub clock : greatest_clock new.nodes ≡ entry.stamp
  pub round : round_in new ≡ entry.round
  pub shown : List ℕ
  pub console : console_in new ≡ console_in old ++ shown

abbrev pub Steps : ClusterView → (before kept : List Entry) → ℕ → Act → ClusterView → Turned → Type 0
Steps old before kept n act new Idle = new ≡ old
Steps old before kept n act new Did = Adds old before kept n act new

-- what is left after want of memory: the program and the entries
pub record Loses (old new : ClusterView) (kept : List Entry) : Type 0 where
  pub program : new.program ≡ old.program
  pub trace : HasTrace new kept
