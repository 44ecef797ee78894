-- All nodes as their callers see them.
use Rattle.std.specs.Prelude.{ℕ, ◌-◌, ◌^◌, max, List, [], ◌∷◌, ◌++◌, map, Option, Some, None, slice_get}
use Rattle.run_trace.specs.declared.packet.Packet.{Packet}
use Rattle.run_trace.specs.Program.{Program}
use Rattle.wires.specs.declared.ends.Ends.{Ends}
use Rattle.node_loop.specs.View.{NodeView}

pub record ClusterView : Type 0 where
  pub program : Program
  pub turns : ℕ  -- how many of the kept entries are no beginnings
  pub nodes : List NodeView  -- node 0, node 1 and so on
  pub rest : List (Ends Packet)  -- the ends of the wires' further nodes

abbrev pub view_of : Program → (turns : ℕ) → List NodeView → List (Ends Packet) → ClusterView
view_of p turns nodes rest = record { program = p; turns = turns; nodes = nodes; rest = rest }

-- a cluster without its nodes
pub record ShellView : Type 0 where
  pub program : Program
  pub rest : List (Ends Packet)  -- the ends of the wires' further nodes

abbrev pub shell_of : ClusterView → ShellView
shell_of c = record { program = c.program; rest = c.rest }

abbrev pub ends_of : NodeView → Ends Packet
ends_of v = v.ends

-- the ends of all nodes of the wires, in their order
abbrev pub wires_of : ClusterView → List (Ends Packet)
wires_of c = map ends_of c.nodes ++ c.rest

abbrev pub console_at : Option NodeView → List ℕ
console_at None = []
console_at (Some v) = v.console

-- the lines that were shown: those of node 0
abbrev pub console_in : ClusterView → List ℕ
console_in c = console_at (slice_get c.nodes 0)

-- the greatest of the nodes' clocks
abbrev pub greatest_clock : List NodeView → ℕ
greatest_clock [] = 0
greatest_clock (v ∷ vs) = max v.clock (greatest_clock vs)

-- the greatest clock to which a node is raised; above it come the stamps of strays
abbrev pub last_clock : ℕ
last_clock = 2 ^ 62 - 1

abbrev pub round_at : Option NodeView → ℕ
round_at None = 0
round_at (Some v) = v.round

-- the round of the nodes: that of node 0
abbrev pub round_in : ClusterView → ℕ
round_in c = round_at (slice_get c.nodes 0)
