-- How the acts of a node are counted.
use Rattle.std.specs.Prelude.{◌≡◌, ℕ, ◌^◌, ◌-◌, List, [], ◌++◌, flat_map, Bool, suc, min, nat_lt, if◌then◌else◌}
use Rattle.slot_space.specs.Sets.{run}
use Rattle.run_trace.specs.declared.entry.Act.{Act}
use Rattle.run_trace.specs.Program.{nodes_of}
use Rattle.node_loop.specs.View.{NodeView}
use Rattle.cluster.specs.Between.{takes_from, moves_by}

abbrev pub listed_moves : Bool → NodeView → List (ℕ × Act)
listed_moves moves v = if moves then moves_by v else []

abbrev pub later_acts : Bool → NodeView → List (ℕ × Act)
later_acts moves v = takes_from v (run 0 (nodes_of v.program)) ++ listed_moves moves v

-- the number at this place among all but one
abbrev pub other_at : (own place : ℕ) → ℕ
other_at own place = if nat_lt place own then place else suc place

-- the number, or the greatest of its type where it is greater
abbrev pub IsCapped : ℕ → ℕ → Type 0
IsCapped count number = count ≡ min number (2 ^ 64 - 1)
