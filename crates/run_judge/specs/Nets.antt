-- A cluster in code, as the definition's.
use Rattle.std.specs.Prelude.{◌≡◌, ℕ, List, Option, Some, None, slice_index_or, slice_set, if◌then◌else◌, ◌==◌}
use Rattle.run_trace.specs.declared.entry.Act.{Act}
use Rattle.run_trace.specs.declared.packet.Packet.{Packet}
use Rattle.run_trace.specs.Program.{Program}
use Rattle.run_trace.specs.Local.{Local, fresh}
use Rattle.run_trace.specs.Machine.{local_event}
use Rattle.run_trace.specs.Cluster.{Net}
use Rattle.node_state.specs.declared.output.EventOutput.{EventOutput}
use Rattle.node_state.specs.Events.{event_of}
use Rattle.run_judge.specs.declared.flights.Flight.{Flight}
use Rattle.run_judge.specs.Links.{link_of}
use Rattle.run_trace.specs.Links.{left_after}

-- each node's state, and what each link holds
abbrev pub net_in : Program → List Local → List Flight → Net
net_in p nodes flights = record { nodes = λ n. slice_index_or nodes n (fresh p n); links = λ i j. link_of flights i j }

-- the event of one node, and no other node's
abbrev pub NodeDoes : Program → ℕ → Act → Option Packet → List Local → List Local → Option EventOutput → Type 0
NodeDoes p me act took old new None = local_event p me (slice_index_or old me (fresh p me)) act took ≡ None
NodeDoes p me act took old new (Some done) = (node : Local)
    × (local_event p me (slice_index_or old me (fresh p me)) act took ≡ Some (event_of node done))
    × (new ≡ slice_set old me node)

-- what an act of node j leaves on the links
abbrev pub LeftBy : ℕ → Act → List Flight → List Flight → Type 0
LeftBy j act old new = (a b : ℕ) → link_of new a b ≡ (if j == b then left_after a act (link_of old a b) else link_of old a b)
