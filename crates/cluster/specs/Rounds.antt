-- A round of all nodes, which run side by side: what its entries are, after the trace before it. All lists have the newest entry first.
use Rattle.std.specs.Prelude.{◌≡◌, ◌<◌, ◌≤◌, ◌+◌, ⊤, ℕ, suc, max, List, [], ◌∷◌, ◌++◌, length, ◌==◌, if◌then◌else◌, Some, slice_get}
use Rattle.run_trace.specs.declared.entry.Entry.{Entry}
use Rattle.run_trace.specs.Cluster.{next_packet}
use Rattle.run_trace.specs.Histories.{seen}
use Rattle.run_trace.specs.Program.{Program, nodes_of, processors_of}
use Rattle.node_loop.specs.Passes.{Moment, IsRound}
use Rattle.node_loop.specs.View.{NodeView, next_round}
use Rattle.cluster.specs.Acts.{has_pick, holds}
use Rattle.cluster.specs.Outcomes.{GoesOn}
use Rattle.cluster.specs.Standing.{HasTrace, StandsFor, net_after}
use Rattle.cluster.specs.View.{ClusterView, console_in, greatest_clock, round_in, wires_of}

-- how many entries a node may make in one round
abbrev pub acts_in_round : ℕ
acts_in_round = 64

-- with so many kept entries a node may begin another round
abbrev pub round_limit : ℕ
round_limit = 1999900

-- ## What each node did

-- what node n did in these entries, which come after the old trace, each with which of its processors have a pick after it
abbrev pub moments_of : Program → ℕ → (old new : List Entry) → List Moment
moments_of p n old [] = []
moments_of p n old (x ∷ xs) = if x.node == n
    then (record { act = x.act; ready = λ vp. has_pick p (net_after p (x ∷ (xs ++ old))) n vp }) ∷ moments_of p n old xs
    else moments_of p n old xs

-- what the node did falls into passes: each link that held a packet at the round's start has a take in the first
abbrev pub GoesInPasses : Program → ℕ → (old new : List Entry) → Type 0
GoesInPasses p n old new =
    IsRound (nodes_of p) (processors_of p) p.setup.quantum acts_in_round (λ vp. has_pick p (net_after p old) n vp) (λ i. holds ((net_after p old).links i n)) (moments_of p n old new)

-- ## Stamps

-- the clock of node n, which is this before these entries
abbrev pub clock_of : ℕ → (clock : ℕ) → List Entry → ℕ
clock_of n clock [] = clock
clock_of n clock (x ∷ xs) = if x.node == n then x.stamp else clock_of n clock xs

-- each entry is of this round, and its stamp is one above its node's clock and the stamp of the packet that it takes; this is the
-- clock with which the round began at all nodes
abbrev pub AreStamped : Program → (clock round : ℕ) → (old new : List Entry) → Type 0
AreStamped p clock round old [] = ⊤
AreStamped p clock round old (x ∷ xs) =
    (x.round ≡ round) × (x.stamp ≡ suc (max (clock_of x.node clock xs) (seen (next_packet (net_after p (xs ++ old)) x.node x.act)))) × AreStamped p clock round old xs

-- ## The round

-- these entries are a round of all nodes after the old trace
pub record AreOfOneRound (p : Program) (clock round : ℕ) (old new : List Entry) : Type 0 where
  pub passes : (n : ℕ) → n < nodes_of p → GoesInPasses p n old new
  pub stamped : AreStamped p clock round old new

-- the greatest of this clock and all stamps
abbrev pub last_stamp : ℕ → List Entry → ℕ
last_stamp clock [] = clock
last_stamp clock (x ∷ xs) = max x.stamp (last_stamp clock xs)

-- the cluster stands with the entries of one more round; where an act was possible there is one
pub record AddsRound (old : ClusterView) (before kept : List Entry) (new : ClusterView) : Type 0 where
  pub program : new.program ≡ old.program
  pub wide : length (wires_of new) ≡ length (wires_of old)
  pub entries : List Entry
  pub stands : StandsFor new before (entries ++ kept)
  pub turns : new.turns ≡ old.turns + length entries
  pub is_round : AreOfOneRound old.program (greatest_clock old.nodes) (next_round (round_in old)) (kept ++ before) entries
  pub goes_on : GoesOn old.program (kept ++ before) → 0 < length entries
  pub clock : greatest_clock new.nodes ≡ last_stamp (greatest_clock old.nodes) entries
  pub round : round_in new ≡ next_round (round_in old)
  pub shown : List ℕ
  pub console : console_in new ≡ console_in old ++ shown

-- what is left after want of memory: the program and the entries, with those of the nodes that went on
pub record LosesRound (old new : ClusterView) (kept : List Entry) : Type 0 where
  pub program : new.program ≡ old.program
  pub entries : List Entry
  pub trace : HasTrace new (entries ++ kept)

-- each node may begin another round
abbrev pub HasRoomForRound : ClusterView → Type 0
HasRoomForRound c = (n : ℕ) (v : NodeView) → slice_get c.nodes n ≡ Some v → length v.entries ≤ round_limit
