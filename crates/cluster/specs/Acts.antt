-- Which acts are possible, in their order: node by node a run of each processor that has a pick, then a take of each link
-- that holds a packet, then, where moves are asked for, a move of each ready thread to each other node.
use Rattle.std.specs.Prelude.{ℕ, List, [], ◌++◌, ◌&&◌, map, filter, flat_map, Bool, false, not, is_some, nat_lt, ◌==◌, if◌then◌else◌}
use Rattle.slot_space.specs.Sets.{run}
use Rattle.slot_space.specs.declared.names.Tid.{Tid}
use Rattle.run_trace.specs.declared.entry.Act.{Act}
use Rattle.run_trace.specs.declared.entry.Act.TheVariants.{Boot, Run, Take, Move}
use Rattle.run_trace.specs.declared.packet.Packet.{Packet}
use Rattle.run_trace.specs.Program.{Program, nodes_of, processors_of, tree_of}
use Rattle.run_trace.specs.Local.{Local}
use Rattle.levels.specs.Choice.{has_ready}
use Rattle.run_trace.specs.Bubbles.{is_listed}
use Rattle.node_state.specs.Listed.{listed}
use Rattle.run_trace.specs.Cluster.{Net}
use Rattle.run_trace.specs.Links.{first_of}

-- the processor is one of the node's, and has a pick
abbrev pub has_pick : Program → Net → (n vp : ℕ) → Bool
has_pick p net n vp = nat_lt vp (processors_of p) && has_ready (net.nodes n).forest.lists.tree vp (net.nodes n).forest.lists.rows

abbrev pub holds : List Packet → Bool
holds packets = is_some (first_of packets)

abbrev pub runs_of : Program → Net → ℕ → List (ℕ × Act)
runs_of p net n = map (λ vp. (n, Run vp p.setup.quantum)) (filter (λ vp. has_pick p net n vp) (run 0 (processors_of p)))

abbrev pub takes_of : Program → Net → ℕ → List (ℕ × Act)
takes_of p net n = map (λ i. (n, Take i)) (filter (λ i. holds (net.links i n)) (run 0 (nodes_of p)))

abbrev pub moves_to : Program → ℕ → Tid → List (ℕ × Act)
moves_to p n t = map (λ to. (n, Move t to)) (filter (λ to. not (to == n)) (run 0 (nodes_of p)))

abbrev pub moves_of : Bool → Program → Net → ℕ → List (ℕ × Act)
moves_of moves p net n = if moves then flat_map (λ t. moves_to p n t) (listed (net.nodes n)) else []

abbrev pub acts_of : Bool → Program → Net → ℕ → List (ℕ × Act)
acts_of moves p net n = runs_of p net n ++ (takes_of p net n ++ moves_of moves p net n)

abbrev pub possible_acts : Bool → Program → Net → List (ℕ × Act)
possible_acts moves p net = flat_map (λ n. acts_of moves p net n) (run 0 (nodes_of p))

-- an act of node n, whose numbers are in range, can be done
abbrev pub is_possible : Program → Net → ℕ → Act → Bool
is_possible p net n Boot = false
is_possible p net n (Run vp quantum) = has_pick p net n vp
is_possible p net n (Take i) = holds (net.links i n)
is_possible p net n (Move t to) = is_listed t (net.nodes n).forest
