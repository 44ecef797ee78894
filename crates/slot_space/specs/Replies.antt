-- The numbers that a guest sees.
use Rattle.std.specs.Prelude.{ℕ, ◌+◌, ◌-◌, ◌*◌, ◌^◌}
use Rattle.slot_space.specs.declared.names.Reply.{Reply}
use Rattle.slot_space.specs.declared.names.Reply.TheVariants.{Value, BadArgument, NoSuch, NotHere, Full, Taken, NoService, TooLong}
use Rattle.slot_space.specs.declared.names.Tid.{Tid}

-- minus n as a word of 64 bits
abbrev pub negative : ℕ → ℕ
negative n = 2 ^ 64 - n

-- a reply as a0 has it: the value, or the two's complement of -1 to -7
abbrev pub reply_code : Reply → ℕ
reply_code (Value v) = v
reply_code BadArgument = negative 1
reply_code NoSuch = negative 2
reply_code NotHere = negative 3
reply_code Full = negative 4
reply_code Taken = negative 5
reply_code NoService = negative 6
reply_code TooLong = negative 7

-- a thread's name as one number: its home in the upper half, the count of births before it in the lower
abbrev pub tid_value : Tid → ℕ
tid_value t = t.home * 2 ^ 32 + t.seq
