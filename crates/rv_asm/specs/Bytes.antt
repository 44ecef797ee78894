-- The bytes of the lines, once each label has its place.
use Rattle.std.specs.Prelude.{ℕ, ◌+◌, ◌%◌, ◌^◌, ℤ, List, [], ◌∷◌, ◌++◌, Option, Result, replicate}
use Rattle.std.specs.Option.{option_map_or}
use Rattle.std.specs.List.{flat_map}
use Rattle.std.specs.Int.{to_le_bytes, w32, w64}
use Rattle.rv_inst.specs.declared.inst.Inst.{Inst}
use Rattle.rv_inst.specs.declared.inst.Inst.TheVariants.{Branch, Jal}
use Rattle.asm_text.specs.declared.slots.What.{What}
use Rattle.asm_text.specs.declared.statements.Width.{Width}
use Rattle.asm_text.specs.declared.statements.Width.TheVariants.{Byte, Word, Dword}
use Rattle.asm_text.specs.Statements.{ValueOf, bits, address, StatementOf, plain, branch, jump, load_number, load_address, values, bytes, align, service, nothing}
use Rattle.asm_text.specs.Lines.{LineOf}
use Rattle.asm_targets.specs.declared.labels.Mark.{Mark}
use Rattle.rv_asm.specs.Layout.{line_size, padding, statement_in}
use Rattle.rv_asm.specs.Faults.{Labels}
use Rattle.asm_targets.specs.Expansions as expansions
use Rattle.asm_targets.specs.Expansions.{code, offset_to, branch_reach, jump_reach}

-- the address of a label that stands
abbrev pub address_of : Labels → List ℕ → ℕ
address_of labels name = option_map_or (λ m. m.address) (labels name) 0

-- the low bytes of a number
abbrev pub bytes_of_width : Width → ℕ → List ℕ
bytes_of_width Byte n = n % 2 ^ 8 ∷ []
bytes_of_width Word n = to_le_bytes w32 (n % 2 ^ 32)
bytes_of_width Dword n = to_le_bytes w64 n

-- the number that a value is
abbrev pub number_of_value : Labels → ValueOf → ℕ
number_of_value labels (bits n) = n
number_of_value labels (address label) = address_of labels label

-- a branch and a jump to a label; none where it isn't in reach, since that is a fault
abbrev pub offset_bytes : (reach at : ℕ) → (ℤ → Inst) → Option Mark → List ℕ
offset_bytes reach at inst mark =
    option_map_or (λ m. option_map_or (λ offset. code (inst offset ∷ [])) (offset_to reach at m.address) []) mark []

-- the bytes of a statement at an address
abbrev pub statement_bytes : Labels → ℕ → StatementOf → List ℕ
statement_bytes labels at (plain inst) = code (inst ∷ [])
statement_bytes labels at (branch op rs1 rs2 label) = offset_bytes branch_reach at (Branch op rs1 rs2) (labels label)
statement_bytes labels at (jump rd label) = offset_bytes jump_reach at (Jal rd) (labels label)
statement_bytes labels at (load_number rd n) = code (expansions.load_number rd n)
statement_bytes labels at (load_address rd label) = code (expansions.load_address rd at (address_of labels label))
statement_bytes labels at (values width vs) = flat_map (λ v. bytes_of_width width (number_of_value labels v)) vs
statement_bytes labels at (bytes bs) = bs
statement_bytes labels at (align k) = replicate (padding k at) 0
statement_bytes labels at (service n label) = []
statement_bytes labels at nothing = []

-- the bytes of a line at an address
abbrev pub line_bytes : Labels → ℕ → Result LineOf What → List ℕ
line_bytes labels at line = option_map_or (statement_bytes labels at) (statement_in line) []

-- the bytes of the lines, of which the first stands at this address
abbrev pub all_bytes : Labels → ℕ → List (Result LineOf What) → List ℕ
all_bytes labels at [] = []
all_bytes labels at (line ∷ lines) = line_bytes labels at line ++ all_bytes labels (at + line_size at line) lines
