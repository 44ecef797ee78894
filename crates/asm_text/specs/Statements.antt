-- A statement: what its row makes of what stands in its slots.
use Rattle.std.specs.Prelude.{ℕ, ◌+◌, ◌^◌, ◌%◌, ◌<◌, ◌≤◌, List, [], ◌∷◌, length, map}
use Rattle.std.specs.Option.{option_map_or}
use Rattle.rv_inst.specs.declared.inst.Inst.{Inst}
use Rattle.rv_inst.specs.declared.inst.Inst.TheVariants.{Lui, Auipc, Jalr, Load, Store, Imm, Shift, Op, Fence, Ecall, Ebreak}
use Rattle.rv_inst.specs.declared.inst.BranchOp.{BranchOp}
use Rattle.rv_inst.specs.Format.{low_twelve}
use Rattle.rv_inst.specs.Table.{Fits, shift_end}
use Rattle.asm_text.specs.declared.statements.Width.{Width}
use Rattle.asm_text.specs.declared.statements.Value.{Value}
use Rattle.asm_text.specs.declared.statements.Value.TheVariants as value
use Rattle.asm_text.specs.declared.statements.Statement.{Statement}
use Rattle.asm_text.specs.declared.statements.Statement.TheVariants as statement
use Rattle.asm_text.specs.declared.statements.Make.{Make}
use Rattle.asm_text.specs.declared.statements.Make.TheVariants as make
use Rattle.asm_text.specs.declared.statements.Fields.{Fields}
use Rattle.asm_text.specs.declared.statements.Filled.{Filled}
use Rattle.asm_words.specs.Tokens.{token_of, TokenOf, word}
use Rattle.asm_words.specs.Words.{number_of, bits_of}

-- ---- statements, without where they lie in memory

-- a value: a number's low 64 bits, or the address of a label
pub data ValueOf : Type 0 where
  bits : ℕ → ValueOf
  address : List ℕ → ValueOf

abbrev pub value_seen : Value → ValueOf
value_seen (value.Number n) = bits n
value_seen (value.Label w) = address w.now

-- An instruction, a branch or a jump to a label, a load of a number or of a label's address; or a directive: values of a
-- width, bytes, an alignment, a service, or nothing.
pub data StatementOf : Type 0 where
  plain : Inst → StatementOf
  branch : (op : BranchOp) (rs1 rs2 : ℕ) (label : List ℕ) → StatementOf
  jump : (rd : ℕ) (label : List ℕ) → StatementOf
  load_number : (rd n : ℕ) → StatementOf
  load_address : (rd : ℕ) (label : List ℕ) → StatementOf
  values : Width → List ValueOf → StatementOf
  bytes : List ℕ → StatementOf
  align : ℕ → StatementOf
  service : (n : ℕ) (label : List ℕ) → StatementOf
  nothing : StatementOf

abbrev pub statement_seen : Statement → StatementOf
statement_seen (statement.Plain inst) = plain inst
statement_seen (statement.Branch op rs1 rs2 label) = branch op rs1 rs2 label.now
statement_seen (statement.Jump rd label) = jump rd label.now
statement_seen (statement.LoadNumber rd number) = load_number rd number
statement_seen (statement.LoadAddress rd label) = load_address rd label.now
statement_seen (statement.Values width vs) = values width (map value_seen vs.items)
statement_seen (statement.Bytes bs) = bytes bs.items
statement_seen (statement.Align k) = align k
statement_seen (statement.Service number label) = service number label.now
statement_seen statement.Nothing = nothing

-- An instruction fits its word, an alignment is below 16, and data is no longer than n.
abbrev pub IsSound : ℕ → StatementOf → Type 0
IsSound n (plain inst) = Fits inst
IsSound n (values w vs) = length vs ≤ n
IsSound n (bytes bs) = length bs ≤ n
IsSound n (align k) = k < 16
IsSound n _ = Unit {0}

-- ---- what stands in the slots of a row

pub record FieldsOf : Type 0 where
  pub rd : ℕ
  pub rs1 : ℕ
  pub rs2 : ℕ
  pub number : ℕ
  pub label : List ℕ
  pub text : List ℕ
  pub values : List TokenOf

abbrev pub fields_seen : Fields → FieldsOf
fields_seen f = record { rd = f.rd; rs1 = f.rs1; rs2 = f.rs2; number = f.number; label = f.label.now; text = f.text.now; values = map token_of f.values.now }

-- how much data stands there: bytes of a text and tokens of values
abbrev pub bulk : FieldsOf → ℕ
bulk f = length f.text + length f.values

-- nothing stands in the slots
abbrev pub no_fields : FieldsOf
no_fields = record { rd = 0; rs1 = 0; rs2 = 0; number = 0; label = []; text = []; values = [] }

pub record FilledOf : Type 0 where
  pub make : Make
  pub fields : FieldsOf

abbrev pub filled_seen : Filled → FilledOf
filled_seen s = record { make = s.make; fields = fields_seen s.fields }

-- ---- what is made of them

-- a register's number has five bits
abbrev pub reg : ℕ → ℕ
reg n = n % 32

-- a word that is a number stands for it, every other one for a label's address
abbrev pub value_of : List ℕ → ValueOf
value_of w = option_map_or (λ n. bits (bits_of n)) (number_of w) (address w)

-- the values of the words among the tokens
abbrev pub values_of : List TokenOf → List ValueOf
values_of [] = []
values_of (word w ∷ ts) = value_of w ∷ values_of ts
values_of (t ∷ ts) = values_of ts

abbrev pub made : Make → FieldsOf → StatementOf
made make.Lui f = plain (Lui (reg f.rd) (f.number % 2 ^ 20))
made make.Auipc f = plain (Auipc (reg f.rd) (f.number % 2 ^ 20))
made make.Jal f = jump (reg f.rd) f.label
made make.Call f = jump 1 f.label
made make.Jalr f = plain (Jalr (reg f.rd) (reg f.rs1) (low_twelve f.number))
made make.CallBy f = plain (Jalr 1 (reg f.rs1) (low_twelve 0))
made make.Return f = plain (Jalr 0 1 (low_twelve 0))
made (make.Branch op) f = branch op (reg f.rs1) (reg f.rs2) f.label
made (make.Load op) f = plain (Load op (reg f.rd) (reg f.rs1) (low_twelve f.number))
made (make.Store op) f = plain (Store op (reg f.rs1) (reg f.rs2) (low_twelve f.number))
made (make.Imm op) f = plain (Imm op (reg f.rd) (reg f.rs1) (low_twelve f.number))
made (make.ImmBy op number) f = plain (Imm op (reg f.rd) (reg f.rs1) (low_twelve number))
made (make.Shift op) f = plain (Shift op (reg f.rd) (reg f.rs1) (f.number % shift_end op))
made (make.Op op) f = plain (Op op (reg f.rd) (reg f.rs1) (reg f.rs2))
made make.Fence f = plain (Fence 0 0 0x0ff)
made make.Ecall f = plain Ecall
made make.Ebreak f = plain Ebreak
made make.LoadNumber f = load_number (reg f.rd) f.number
made make.LoadAddress f = load_address (reg f.rd) f.label
made (make.Values width) f = values width (values_of f.values)
made make.Bytes f = bytes f.text
made make.Align f = align (f.number % 16)
made make.Service f = service (f.number % 256) f.label
made make.Nothing f = nothing
