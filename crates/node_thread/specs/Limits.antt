-- What a thread may have at most, each with the one name that contracts cite.
use Rattle.std.specs.Prelude.{ℕ, ◌*◌, ◌-◌, ◌^◌}
use Rattle.slot_space.specs.Limits.{slot_size, slot_limit}

-- the most bytes of a line that a thread prints
abbrev pub print_limit : ℕ
print_limit = 256

-- the most bytes of a block: those of all slots that there may be
abbrev pub block_limit : ℕ
block_limit = slot_size * slot_limit

-- the most spare blocks that are counted
abbrev pub spare_limit : ℕ
spare_limit = 2 ^ 32 - 1
