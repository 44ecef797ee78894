-- Where the slots stand in the guest's memory, and with which node each starts.
use Rattle.std.specs.Prelude.{ℕ, ◌+◌, ◌*◌, ◌%◌, ◌<◌, ◌≤◌, List, ◌==◌}
use Rattle.std.specs.List.{filter}
use Rattle.slot_space.specs.Limits.{slots_start, slot_size}
use Rattle.slot_space.specs.Sets.{run}

-- the first address of slot s: slots stand one after another
abbrev pub slot_base : ℕ → ℕ
slot_base s = slots_start + slot_size * s

-- the address is in slot s
abbrev pub HoldsAddress : ℕ → ℕ → Type 0
HoldsAddress s address = (slot_base s ≤ address) × (address < slot_base s + slot_size)

-- the slots that start with this node: s is with node s mod nodes
unfoldable pub starting_slots : ℕ → ℕ → ℕ → List ℕ
starting_slots nodes slots node = filter (λ s. s % nodes == node) (run 0 slots)
