-- The table of statements: a row for each form of each name.
use Rattle.std.specs.Prelude.{ℕ, ◌^◌, ◌-◌, true, false, List, [], ◌∷◌, ◌++◌, map, codes}
use Rattle.rv_inst.specs.declared.inst.BranchOp.TheVariants as branch_op
use Rattle.rv_inst.specs.declared.inst.ImmOp.TheVariants as imm_op
use Rattle.rv_inst.specs.declared.inst.RegOp.TheVariants as reg_op
use Rattle.rv_inst.specs.Table.{lui_row, auipc_row, jal_row, jalr_row, fence_row, ecall_row, ebreak_row, branch_row, load_row, store_row, imm_row, shift_row, reg_row, shift_end, branch_ops, load_ops, store_ops, imm_ops, shift_ops, reg_ops}
use Rattle.asm_text.specs.declared.statements.Width.TheVariants as width
use Rattle.asm_text.specs.declared.statements.Make.{Make}
use Rattle.asm_text.specs.declared.statements.Make.TheVariants as make
use Rattle.asm_text.specs.declared.slots.Slot.{Slot}
use Rattle.asm_text.specs.declared.slots.Slot.TheVariants as slot
use Rattle.asm_text.specs.declared.rows.Row.{Row}

-- a form of a statement: its name, what its operands are, and what is made of them
pub record RowOf : Type 0 where
  pub name : List ℕ
  pub slots : List Slot
  pub make : Make

abbrev pub row : List ℕ → List Slot → Make → RowOf
row name slots make = record { name = name; slots = slots; make = make }

abbrev pub row_of : Row → RowOf
row_of r = row r.name.now r.slots.now r.make

-- ---- operands

abbrev pub comma : Slot
comma = slot.Mark 44

abbrev pub left : Slot
left = slot.Mark 40

abbrev pub right : Slot
right = slot.Mark 41

-- a number of twelve bits in two's complement
abbrev pub twelve_bits : Slot
twelve_bits = slot.Number 2048 2047

abbrev pub no_operands : List Slot
no_operands = []

abbrev pub three_registers : List Slot
three_registers = slot.Rd ∷ comma ∷ slot.Rs1 ∷ comma ∷ slot.Rs2 ∷ []

abbrev pub immediate : List Slot
immediate = slot.Rd ∷ comma ∷ slot.Rs1 ∷ comma ∷ twelve_bits ∷ []

-- an amount below the end
abbrev pub amount : ℕ → List Slot
amount end = slot.Rd ∷ comma ∷ slot.Rs1 ∷ comma ∷ slot.Number 0 (end - 1) ∷ []

abbrev pub upper : List Slot
upper = slot.Rd ∷ comma ∷ slot.Number 0 0xfffff ∷ []

abbrev pub from_memory : List Slot
from_memory = slot.Rd ∷ comma ∷ twelve_bits ∷ left ∷ slot.Rs1 ∷ right ∷ []

abbrev pub to_memory : List Slot
to_memory = slot.Rs2 ∷ comma ∷ twelve_bits ∷ left ∷ slot.Rs1 ∷ right ∷ []

abbrev pub compare : List Slot
compare = slot.Rs1 ∷ comma ∷ slot.Rs2 ∷ comma ∷ slot.Label ∷ []

abbrev pub link : List Slot
link = slot.Rd ∷ comma ∷ slot.Label ∷ []

abbrev pub target : List Slot
target = slot.Label ∷ []

abbrev pub source : List Slot
source = slot.Rs1 ∷ []

abbrev pub to_from : List Slot
to_from = slot.Rd ∷ comma ∷ slot.Rs1 ∷ []

abbrev pub to_from_second : List Slot
to_from_second = slot.Rd ∷ comma ∷ slot.Rs2 ∷ []

abbrev pub with_zero : List Slot
with_zero = slot.Rs1 ∷ comma ∷ slot.Label ∷ []

abbrev pub zero_with : List Slot
zero_with = slot.Rs2 ∷ comma ∷ slot.Label ∷ []

abbrev pub compare_back : List Slot
compare_back = slot.Rs2 ∷ comma ∷ slot.Rs1 ∷ comma ∷ slot.Label ∷ []

abbrev pub constant : List Slot
constant = slot.Rd ∷ comma ∷ slot.Number (2 ^ 63) (2 ^ 64 - 1) ∷ []

abbrev pub byte_values : List Slot
byte_values = slot.Values 128 255 false ∷ []

abbrev pub word_values : List Slot
word_values = slot.Values (2 ^ 31) (2 ^ 32 - 1) false ∷ []

abbrev pub dword_values : List Slot
dword_values = slot.Values (2 ^ 63) (2 ^ 64 - 1) true ∷ []

abbrev pub text : List Slot
text = slot.Text ∷ []

abbrev pub power : List Slot
power = slot.Number 0 12 ∷ []

abbrev pub service : List Slot
service = slot.Number 0 255 ∷ comma ∷ slot.Label ∷ []

-- ---- the rows

-- RV64IM, each by its own name
unfoldable pub instructions : List RowOf
instructions =
    map (λ op. row (reg_row op).name three_registers (make.Op op)) reg_ops
    ++ map (λ op. row (imm_row op).name immediate (make.Imm op)) imm_ops
    ++ map (λ op. row (shift_row op).name (amount (shift_end op)) (make.Shift op)) shift_ops
    ++ row lui_row.name upper make.Lui
    ∷ row auipc_row.name upper make.Auipc
    ∷ map (λ op. row (load_row op).name from_memory (make.Load op)) load_ops
    ++ map (λ op. row (store_row op).name to_memory (make.Store op)) store_ops
    ++ map (λ op. row (branch_row op).name compare (make.Branch op)) branch_ops
    ++ row jal_row.name link make.Jal
    ∷ row jal_row.name target make.Call
    ∷ row jalr_row.name from_memory make.Jalr
    ∷ row jalr_row.name source make.CallBy
    ∷ row fence_row.name no_operands make.Fence
    ∷ row ecall_row.name no_operands make.Ecall
    ∷ row ebreak_row.name no_operands make.Ebreak
    ∷ []

-- pseudo instructions
unfoldable pub pseudo_instructions : List RowOf
pseudo_instructions =
    row (codes "nop") no_operands (make.Imm imm_op.Addi)
    ∷ row (codes "mv") to_from (make.Imm imm_op.Addi)
    ∷ row (codes "not") to_from (make.ImmBy imm_op.Xori 0xfff)
    ∷ row (codes "neg") to_from_second (make.Op reg_op.Sub)
    ∷ row (codes "negw") to_from_second (make.Op reg_op.Subw)
    ∷ row (codes "sext.w") to_from (make.Imm imm_op.Addiw)
    ∷ row (codes "seqz") to_from (make.ImmBy imm_op.Sltiu 1)
    ∷ row (codes "snez") to_from_second (make.Op reg_op.Sltu)
    ∷ row (codes "sltz") to_from (make.Op reg_op.Slt)
    ∷ row (codes "sgtz") to_from_second (make.Op reg_op.Slt)
    ∷ row (codes "beqz") with_zero (make.Branch branch_op.Beq)
    ∷ row (codes "bnez") with_zero (make.Branch branch_op.Bne)
    ∷ row (codes "bgez") with_zero (make.Branch branch_op.Bge)
    ∷ row (codes "bltz") with_zero (make.Branch branch_op.Blt)
    ∷ row (codes "blez") zero_with (make.Branch branch_op.Bge)
    ∷ row (codes "bgtz") zero_with (make.Branch branch_op.Blt)
    ∷ row (codes "bgt") compare_back (make.Branch branch_op.Blt)
    ∷ row (codes "ble") compare_back (make.Branch branch_op.Bge)
    ∷ row (codes "bgtu") compare_back (make.Branch branch_op.Bltu)
    ∷ row (codes "bleu") compare_back (make.Branch branch_op.Bgeu)
    ∷ row (codes "j") target make.Jal
    ∷ row (codes "call") target make.Call
    ∷ row (codes "jr") source make.Jalr
    ∷ row (codes "ret") no_operands make.Return
    ∷ row (codes "la") link make.LoadAddress
    ∷ row (codes "li") constant make.LoadNumber
    ∷ []

-- directives
unfoldable pub directives : List RowOf
directives =
    row (codes ".byte") byte_values (make.Values width.Byte)
    ∷ row (codes ".word") word_values (make.Values width.Word)
    ∷ row (codes ".dword") dword_values (make.Values width.Dword)
    ∷ row (codes ".ascii") text make.Bytes
    ∷ row (codes ".align") power make.Align
    ∷ row (codes ".service") service make.Service
    ∷ row (codes ".text") no_operands make.Nothing
    ∷ row (codes ".globl") target make.Nothing
    ∷ []
