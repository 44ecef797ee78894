-- The limits of the guest's memory and of a run, each with the one name that definitions cite.
use Rattle.std.specs.Prelude.{ℕ, ◌+◌, ◌*◌}

-- the first address of slot 0
abbrev pub slots_start : ℕ
slots_start = 0x1_0000_0000

-- the bytes of a slot
abbrev pub slot_size : ℕ
slot_size = 65536

-- the most slots that there are
abbrev pub slot_limit : ℕ
slot_limit = 4096

-- the bytes of the most slots
abbrev pub slots_len : ℕ
slots_len = slot_size * slot_limit

-- the address after the last of the most slots
abbrev pub slots_end : ℕ
slots_end = slots_start + slots_len

-- the most nodes that there are
abbrev pub node_limit : ℕ
node_limit = 8
