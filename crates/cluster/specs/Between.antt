-- What the parts of the code come to: on the nodes as a list.
use Rattle.std.specs.Prelude.{◌≡◌, ◌<◌, ◌≢◌, ℕ, List, [], ◌∷◌, ◌++◌, length, map, filter, flat_map, Some, Bool, true, false, not, ◌==◌, ◌||◌, nat_lt, min, drop, set, if◌then◌else◌, slice_get}
use Rattle.slot_space.specs.Sets.{run}
use Rattle.slot_space.specs.declared.names.Tid.{Tid}
use Rattle.run_trace.specs.declared.entry.Act.{Act}
use Rattle.run_trace.specs.declared.entry.Act.TheVariants.{Boot, Run, Take, Move}
use Rattle.run_trace.specs.declared.entry.Entry.{Entry}
use Rattle.run_trace.specs.declared.packet.Packet.{Packet}
use Rattle.node_state.specs.Listed.{listed}
use Rattle.run_trace.specs.Legality.{boot_entries}
use Rattle.run_trace.specs.Program.{Program, nodes_of, processors_of}
use Rattle.wires.specs.declared.ends.Ends.{Ends}
use Rattle.wires.specs.declared.link.Link.{Link}
use Rattle.wires.specs.Link.{IsSettled}
use Rattle.wires.specs.Wires.{link_at, AreWired, CarriedNoMore}
use Rattle.node_loop.specs.View.{NodeView, raised, unbooted, with_ends}
use Rattle.node_loop.specs.Turns.{Does, IsInRange, IsLost, Turns, can, entry_limit}
use Rattle.node_loop.specs.declared.node.Turned.{Turned}
use Rattle.cluster.specs.Standing.{StandsFor}
use Rattle.cluster.specs.View.{ends_of, greatest_clock, round_in, view_of}
use Rattle.cluster.specs.declared.deciding.State.{State}
use Rattle.cluster.specs.declared.deciding.State.TheVariants.{Going, Done, Stalled}

-- the ends of the nodes and of the wires' further nodes
abbrev pub wires_in : List NodeView → List (Ends Packet) → List (Ends Packet)
wires_in nodes rest = map ends_of nodes ++ rest

-- each node is one of this program
abbrev pub AllOf : Program → List NodeView → Type 0
AllOf p nodes = (n : ℕ) (v : NodeView) → slice_get nodes n ≡ Some v → v.program ≡ p

-- each node has the number of its place
abbrev pub AreNumbered : List NodeView → Type 0
AreNumbered nodes = (n : ℕ) (v : NodeView) → slice_get nodes n ≡ Some v → v.me ≡ n

-- ## What is decided

abbrev pub any_of : (NodeView → Bool) → List NodeView → Bool
any_of test [] = false
any_of test (v ∷ vs) = test v || any_of test vs

abbrev pub has_halted : NodeView → Bool
has_halted v = v.state.halted

abbrev pub has_thread : NodeView → Bool
has_thread v = nat_lt 0 (length v.state.threads)

abbrev pub has_row : NodeView → Bool
has_row v = nat_lt 0 (length v.state.forest.lists.rows)

-- a packet is known of one of these senders
abbrev pub knows_of : NodeView → List ℕ → Bool
knows_of v [] = false
knows_of v (i ∷ senders) = can v (Take i) || knows_of v senders

abbrev pub knows_packet : NodeView → Bool
knows_packet v = knows_of v (run 0 (nodes_of v.program))

-- whether a thread has called halt, whether a packet is under way, whether a thread is on a node and whether one can run
abbrev pub decided : (halted packet thread ready : Bool) → State
decided halted packet thread ready =
    if halted then Done else if packet then Going else if thread then (if ready then Going else Stalled) else Done

-- ## The acts of a node

-- those that the node can do, of the acts with these numbers
abbrev pub acts_from : NodeView → (ℕ → Act) → List ℕ → List (ℕ × Act)
acts_from v act numbers = map (λ k. (v.me, act k)) (filter (λ k. can v (act k)) numbers)

abbrev pub run_on : NodeView → ℕ → Act
run_on v vp = Run vp v.program.setup.quantum

abbrev pub runs_by : NodeView → List (ℕ × Act)
runs_by v = acts_from v (run_on v) (run 0 (processors_of v.program))

abbrev pub takes_from : NodeView → List ℕ → List (ℕ × Act)
takes_from v senders = acts_from v Take senders

-- moves of a thread of node n to each other one of these nodes
abbrev pub moves_among : ℕ → Tid → List ℕ → List (ℕ × Act)
moves_among n t tos = map (λ to. (n, Move t to)) (filter (λ to. not (to == n)) tos)

abbrev pub moves_by : NodeView → List (ℕ × Act)
moves_by v = flat_map (λ t. moves_among v.me t (run 0 (nodes_of v.program))) (listed v.state)

abbrev pub acts_by : Bool → NodeView → List (ℕ × Act)
acts_by moves v = runs_by v ++ (takes_from v (run 0 (nodes_of v.program)) ++ (if moves then moves_by v else []))

-- ## Links

-- nothing but the nodes' ends has changed
pub record KeepNodes (old new : List NodeView) : Type 0 where
  pub count : length new ≡ length old
  pub each : (n : ℕ) (v w : NodeView) → slice_get old n ≡ Some v → slice_get new n ≡ Some w → w ≡ with_ends w.ends v

-- the links of node n with all nodes are settled, and no other link has changed
pub record SettlesOf (n : ℕ) (rest : List (Ends Packet)) (old new : List NodeView) : Type 0 where
  pub nodes : KeepNodes old new
  pub wired : AreWired (wires_in new rest)
  pub same : CarriedNoMore (wires_in old rest) (wires_in new rest)
  pub settled : (q : ℕ) (x y : Link Packet) → q < length old → link_at (wires_in new rest) n q ≡ Some x
      → link_at (wires_in new rest) q n ≡ Some y → IsSettled x y × IsSettled y x
  pub others : (p q : ℕ) → p ≢ n → q ≢ n → link_at (wires_in new rest) p q ≡ link_at (wires_in old rest) p q

-- the links of all nodes are settled
pub record SettlesAll (rest : List (Ends Packet)) (old new : List NodeView) : Type 0 where
  pub nodes : KeepNodes old new
  pub wired : AreWired (wires_in new rest)
  pub same : CarriedNoMore (wires_in old rest) (wires_in new rest)
  pub settled : (p q : ℕ) (x y : Link Packet) → p < length old → q < length old → link_at (wires_in new rest) p q ≡ Some x
      → link_at (wires_in new rest) q p ≡ Some y → IsSettled x y

-- ## A step

-- the node has begun, may keep one entry more, and the numbers of the act are in range
pub record IsReady (v : NodeView) (act : Act) : Type 0 where
  pub entries : length v.entries < entry_limit
  pub booted : v.state.booted ≡ true
  pub range : IsInRange v act

-- the nodes are raised, and the one at this place has become another
abbrev pub raised_but : (clock at : ℕ) → NodeView → List NodeView → List NodeView
raised_but clock at new nodes = set (map (raised clock) nodes) at new

-- a turn of the node at this place, after which its links are settled
pub record HasActed (clock at : ℕ) (act : Act) (rest : List (Ends Packet)) (old now : List NodeView) (turned : Turned) : Type 0 where
  pub node : NodeView
  pub was : slice_get old at ≡ Some node
  pub new : NodeView
  pub turns : Turns (raised clock node) act new turned
  pub booted : new.state.booted ≡ true
  pub settled : SettlesOf at rest (raised_but clock at new old) now

-- the node at this place is lost
pub record HasFailed (clock at : ℕ) (old now : List NodeView) : Type 0 where
  pub node : NodeView
  pub was : slice_get old at ≡ Some node
  pub new : NodeView
  pub lost : IsLost (raised clock node) new
  pub is : now ≡ raised_but clock at new old

-- ## The beginning

-- node n has begun with these ends
pub record HasBegun (p : Program) (n : ℕ) (ends : Ends Packet) (v : NodeView) : Type 0 where
  pub does : Does (unbooted p n ends) Boot v
  pub booted : v.state.booted ≡ true

-- the first nodes have begun with their ends of the wires, and the rest is left
pub record HaveBegun (p : Program) (count : ℕ) (wires : List (Ends Packet)) (nodes : List NodeView) (rest : List (Ends Packet)) : Type 0 where
  pub begun : (n : ℕ) (ends : Ends Packet) (v : NodeView) → slice_get wires n ≡ Some ends → slice_get nodes n ≡ Some v → HasBegun p n ends v
  pub many : length nodes ≡ min count (length wires)
  pub left : rest ≡ drop count wires

-- and their links are settled
pub record AreReady (p : Program) (count : ℕ) (wires : List (Ends Packet)) (nodes : List NodeView) (rest : List (Ends Packet)) : Type 0 where
  pub first : List NodeView
  pub begun : HaveBegun p count wires first rest
  pub settled : SettlesAll rest first nodes

-- the nodes on these wires stand for the beginnings alone, with clock 1 in round 0
pub record HaveBooted (p : Program) (given : List (Ends Packet)) (nodes : List NodeView) (rest : List (Ends Packet)) : Type 0 where
  pub programs : AllOf p nodes
  pub stands : StandsFor (view_of p 0 nodes rest) [] (boot_entries p (nodes_of p))
  pub clock : greatest_clock nodes ≡ 1
  pub round : round_in (view_of p 0 nodes rest) ≡ 0
  pub wide : length (wires_in nodes rest) ≡ length given

-- ## The end

abbrev pub entries_of : NodeView → List Entry
entries_of v = v.entries
