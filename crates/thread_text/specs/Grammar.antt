-- The fields of a thread's text. Each definition below has the fields from one on, so the first fields stand last.
use Rattle.std.specs.Prelude.{ℕ, zero, suc, ◌+◌, ◌*◌, ◌%◌, Bool, true, not, ◌&&◌, List, [], ◌∷◌, ◌++◌, length, Result, Ok, Err, nat_lt, nat_le, ◌==◌, if◌then◌else◌}
use Rattle.slot_space.specs.Limits.{slot_size, slot_limit, node_limit}
use Rattle.slot_space.specs.Sets.{has_run}
use Rattle.iso_blocks.specs.Bytes.{in_slots}
use Rattle.thread_text.specs.Fields.{Fields, Blocks, Field, Reading, read}

-- ## What a field's number may be

abbrev pub any : ℕ → Bool
any n = true

-- the four bytes PM2T
abbrev pub magic : ℕ
magic = 0x54324d50

-- of a thread that serves no call, all numbers of the call are 0
abbrev pub is_call_node : ℕ → ℕ → Bool
is_call_node duty n = if duty == 0 then n == 0 else nat_lt n node_limit

abbrev pub is_call_number : ℕ → ℕ → Bool
is_call_number duty n = if duty == 0 then n == 0 else true

-- a heap slot is past those before it, and isn't the stack slot
abbrev pub is_heap_slot : (low stack : ℕ) → ℕ → Bool
is_heap_slot low stack s = nat_lt s slot_limit && nat_le low s && not (s == stack)

-- a block starts at a multiple of 16 in the heap slots, at or after the end of the block before
abbrev pub is_start : (slots : List ℕ) (low : ℕ) → ℕ → Bool
is_start slots low address = address % 16 == 0 && in_slots slots address && nat_le low address

-- its size is a multiple of 16, at least 16, and all its bytes lie in the heap slots
abbrev pub is_size : (slots : List ℕ) (address : ℕ) → ℕ → Bool
is_size slots address size = size % 16 == 0 && nat_le 16 size && has_run (in_slots slots) address size

-- ## The fields, from the last on

-- `count` live blocks, each its address and its size; then the bytes of the heap slots and of the stack slot
unfoldable pub block_fields : (count low : ℕ) → List ℕ → Fields
block_fields zero low slots = Blocks (length slots + 1)
block_fields (suc count) low slots = Field 8 (is_start slots low) (λ address. Field 8 (is_size slots address) (λ size. block_fields count (address + size) slots))

-- the number of live blocks, and the blocks
unfoldable pub live_fields : List ℕ → Fields
live_fields slots = Field 4 any (λ live. block_fields live 0 slots)

-- `count` heap slots, each past those before it
unfoldable pub slot_fields : (count low stack : ℕ) → List ℕ → Fields
slot_fields zero low stack slots = live_fields slots
slot_fields (suc count) low stack slots = Field 2 (is_heap_slot low stack) (λ s. slot_fields count (s + 1) stack (slots ++ s ∷ []))

-- the pc, the stack slot, and the number of heap slots
unfoldable pub place_fields : Fields
place_fields = Field 8 (λ pc. pc % 4 == 0) (λ pc. Field 2 (λ stack. nat_lt stack slot_limit) (λ stack. Field 2 (λ h. nat_lt h slot_limit) (λ h. slot_fields h 0 stack [])))

-- `count` registers
unfoldable pub register_fields : ℕ → Fields
register_fields zero = place_fields
register_fields (suc count) = Field 8 any (λ x. register_fields count)

-- the duty, and of the call its caller's home and count of births, its number and its node; then registers 1 to 31
unfoldable pub duty_fields : Fields
duty_fields = Field 1 (λ duty. nat_le duty 3) (λ duty. Field 1 (is_call_node duty) (λ home. Field 4 (is_call_number duty) (λ seq.
    Field 4 (is_call_number duty) (λ count. Field 1 (is_call_node duty) (λ at. register_fields 31)))))

-- the four bytes, the thread's home and count of births, its priority, and how many remote calls it asked
unfoldable pub thread_fields : Fields
thread_fields = Field 4 (λ n. n == magic) (λ n. Field 1 (λ home. nat_lt home node_limit) (λ home. Field 4 any (λ seq.
    Field 1 (λ priority. nat_le priority 7) (λ priority. Field 4 any (λ calls. duty_fields)))))

-- ## The whole text

-- behind the fields stand the blocks of the slots, and nothing after them
abbrev pub ends : List ℕ → Result Reading ℕ → Result Reading ℕ
ends bytes (Err offset) = Err offset
ends bytes (Ok reading) =
    if nat_lt (length bytes) (reading.at + slot_size * reading.blocks) then Err (length bytes)
    else (if nat_lt (reading.at + slot_size * reading.blocks) (length bytes) then Err (reading.at + slot_size * reading.blocks) else Ok reading)

-- what a text has, or the place at which it is refused
abbrev pub read_text : List ℕ → Result Reading ℕ
read_text bytes = ends bytes (read thread_fields bytes 0)

-- ## A head: the fields alone, beside which blocks of the slots' bytes stand

-- nothing stands behind the fields, and there are as many blocks as they say; else the head is refused at the fields' end
abbrev pub ends_head : List ℕ → (blocks : ℕ) → Result Reading ℕ → Result Reading ℕ
ends_head bytes blocks (Err offset) = Err offset
ends_head bytes blocks (Ok reading) =
    if nat_lt reading.at (length bytes) then Err reading.at
    else (if blocks == reading.blocks then Ok reading else Err reading.at)

-- what a head with so many blocks has, or the place at which it is refused
abbrev pub read_head : List ℕ → (blocks : ℕ) → Result Reading ℕ
read_head bytes blocks = ends_head bytes blocks (read thread_fields bytes 0)
