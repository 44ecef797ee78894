-- The instructions that load a number or an address, and how far a branch and a jump reach.
use Rattle.std.specs.Prelude.{ℕ, ◌+◌, ◌-◌, ◌/◌, ◌%◌, ◌^◌, zero, suc, ℤ, pos, negsuc, ◌||◌, ◌&&◌, ◌==◌, Bool, List, [], ◌∷◌, ◌++◌, nat_lt, nat_le, Option, Some, None, if◌then◌else◌}
use Rattle.std.specs.List.{flat_map}
use Rattle.std.specs.Int.{to_le_bytes, w32}
use Rattle.rv_inst.specs.declared.inst.Inst.{Inst}
use Rattle.rv_inst.specs.declared.inst.Inst.TheVariants.{Lui, Auipc, Imm, Shift}
use Rattle.rv_inst.specs.declared.inst.ImmOp.TheVariants.{Addi, Addiw}
use Rattle.rv_inst.specs.declared.inst.ShiftOp.TheVariants.{Slli}
use Rattle.rv_inst.specs.Format.{low_twelve}
use Rattle.rv_inst.specs.Table.{word_of}

-- a number's 64 bits are those of one from -2^k to 2^k - 1
abbrev pub fits_signed : (k n : ℕ) → Bool
fits_signed k n = nat_lt n (2 ^ k) || nat_le (2 ^ 64 - 2 ^ k) n

-- the twenty bits from bit 12 on of a number less its low part
abbrev pub high : ℕ → ℕ
high n = (n + 2 ^ 11) / 2 ^ 12 % 2 ^ 20

-- the upper 52 bits of a number less its low part, sign-extended: that number shifted right by 12
abbrev pub sign_extended_52 : ℕ → ℕ
sign_extended_52 m = if nat_lt m (2 ^ 51) then m else m + (2 ^ 64 - 2 ^ 52)

abbrev pub shifted : ℕ → ℕ
shifted n = sign_extended_52 ((n + 2 ^ 11) / 2 ^ 12 % 2 ^ 52)

-- a number of 32 signed bits into a register
abbrev pub load_short : (rd n : ℕ) → List Inst
load_short rd n =
    if fits_signed 11 n then Imm Addi rd 0 (low_twelve n) ∷ []
    else Lui rd (high n) ∷ Imm Addiw rd rd (low_twelve n) ∷ []

-- the instructions that load a number into a register, with at most that many shifts
abbrev pub load_within : (shifts rd n : ℕ) → List Inst
load_within zero rd n = load_short rd n
load_within (suc shifts) rd n =
    if fits_signed 31 n then load_short rd n
    else load_within shifts rd (shifted n) ++ Shift Slli rd rd 12 ∷ Imm Addi rd rd (low_twelve n) ∷ []

-- a number of 64 bits into a register: what three shifts leave of it has 28 bits
unfoldable pub load_number : (rd n : ℕ) → List Inst
load_number rd n = load_within 3 rd n

-- the address of a label into a register, by its distance from the first of the two instructions
abbrev pub distance : (address target : ℕ) → ℕ
distance address target = (target + (2 ^ 64 - address)) % 2 ^ 64

abbrev pub load_address : (rd address target : ℕ) → List Inst
load_address rd address target =
    Auipc rd (high (distance address target)) ∷ Imm Addi rd rd (low_twelve (distance address target)) ∷ []

-- the offset from an address to a target, where it is even, at least -reach, and below reach
abbrev pub offset_to : (reach address target : ℕ) → Option ℤ
offset_to reach address target =
    if nat_le address target
    then (if nat_lt (target - address) reach && ((target - address) % 2 == 0) then Some (pos (target - address)) else None)
    else (if nat_le (address - target) reach && ((address - target) % 2 == 0) then Some (negsuc (address - target - 1)) else None)

-- how far a branch and a jump reach
abbrev pub branch_reach : ℕ
branch_reach = 2 ^ 12

abbrev pub jump_reach : ℕ
jump_reach = 2 ^ 20

-- the bytes of an instruction
unfoldable pub inst_bytes : Inst → List ℕ
inst_bytes inst = to_le_bytes w32 (word_of inst)

-- the bytes of instructions
abbrev pub code : List Inst → List ℕ
code insts = flat_map inst_bytes insts
