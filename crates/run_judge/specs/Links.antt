-- The links, as what is under way between the nodes.
use Rattle.std.specs.Prelude.{ℕ, List, [], ◌∷◌, Option, None, Bool, ◌==◌, ◌&&◌, if◌then◌else◌, map}
use Rattle.run_trace.specs.declared.entry.Act.{Act}
use Rattle.run_trace.specs.declared.entry.Act.TheVariants.{Boot, Run, Take, Move}
use Rattle.run_trace.specs.declared.packet.Packet.{Packet}
use Rattle.run_trace.specs.declared.packet.Send.{Send}
use Rattle.run_trace.specs.Links.{first_of}
use Rattle.run_judge.specs.declared.flights.Flight.{Flight}

-- it goes from node i to node j
abbrev pub is_on : ℕ → ℕ → Flight → Bool
is_on i j f = (f.from == i) && (f.to == j)

-- the packets on the link from node i to node j, oldest first
abbrev pub link_of : List Flight → ℕ → ℕ → List Packet
link_of [] i j = []
link_of (f ∷ fs) i j = if is_on i j f then f.packet ∷ link_of fs i j else link_of fs i j

-- what an act of node j takes off the links
abbrev pub next_on : List Flight → ℕ → Act → Option Packet
next_on fs j Boot = None
next_on fs j (Run vp quantum) = None
next_on fs j (Move t to) = None
next_on fs j (Take i) = first_of (link_of fs i j)

-- what a node sends in an event with this stamp
abbrev pub flights_of : ℕ → ℕ → List Send → List Flight
flights_of from stamp sends = map (λ (s : Send). record { from = from; to = s.to; packet = record { stamp = stamp; body = s.body } }) sends
