-- What the labels of a trace tell, whole: the spots, what is under way between two nodes, and which nodes have begun.
use Rattle.std.specs.Prelude.{ℕ, List, Bool}
use Rattle.run_trace.specs.declared.label.Label.{Label}
use Rattle.run_trace.specs.declared.packet.Packet.{Packet}
use Rattle.run_trace.specs.Program.{Program}
use Rattle.run_trace.specs.Talks.{Talk}
use Rattle.run_trace.specs.Spots.{Spots, after_label}

pub record World : Type 0 where
  pub spots : Spots
  pub links : ℕ → ℕ → List Packet  -- from one node to another, oldest first
  pub begun : ℕ → Bool
  pub talks : ℕ → Talk  -- what each node keeps of the negotiation of slots

-- in the midst of an entry, after one more label on node n; links and talks become at its end what they become
abbrev pub world_after : Program → ℕ → Label → World → World
world_after p n l w = record w { spots = after_label p n l w.spots }
