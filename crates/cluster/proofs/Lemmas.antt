-- Lemmas of a cluster. Other crates cite these alone.
use Rattle.std.proofs.Common.{List, Some, suc, ℕ, ◌+◌, ◌-◌, ◌<◌, ◌≤◌, ◌^◌, ◌≡◌, length}
use Rattle.std.specs.Prelude.{slice_get}
use Rattle.cluster.specs.Standing.{AgreesWith, HasRoom, HasTrace, turns_in}
use Rattle.cluster.specs.View.{ClusterView, greatest_clock}
use Rattle.node_loop.specs.Turns.{entry_limit}
use Rattle.node_loop.specs.View.{NodeView, next_round}
use Rattle.run_trace.specs.declared.entry.Entry.{Entry}
use Rattle.run_trace.specs.Legality.{boot_entries}
use Rattle.run_trace.specs.Program.{Program}
use Rattle.cluster.proofs.Booting
use Rattle.cluster.proofs.Clocks

-- ## Clocks, rounds and room

-- where the clocks are low each node has room for one entry more
pub has_room : (c : ClusterView) (before kept : List Entry) (s : AgreesWith c before kept) → greatest_clock c.nodes + 1 < entry_limit → (n : ℕ) → HasRoom c n
has_room = Clocks.has_room

-- a node keeps no more entries than all nodes together
pub keeps_within : (c : ClusterView) (kept : List Entry) → HasTrace c kept → (n : ℕ) (v : NodeView) → slice_get c.nodes n ≡ Some v → length v.entries ≤ length kept
keeps_within = Clocks.keeps_within

-- the round after one that is not the last is the next number
pub next_is : (round : ℕ) → round < 2 ^ 64 - 1 → next_round round ≡ suc round
next_is = Clocks.next_is

-- ## The beginnings

-- there is one for each node
pub boot_count : (p : Program) (k : ℕ) → length (boot_entries p k) ≡ k
boot_count = Booting.boot_count

-- none of them is a turn
pub no_turns : (p : Program) (k : ℕ) → turns_in (boot_entries p k) ≡ 0
no_turns = Booting.no_turns
