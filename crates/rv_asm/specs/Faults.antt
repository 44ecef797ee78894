-- The faults of a source, and which of them counts.
use Rattle.std.specs.Prelude.{ℕ, ◌+◌, ◌%◌, Bool, false, ◌||◌, not, ◌==◌, List, [], ◌∷◌, Option, Some, None, Result, Ok, Err, is_none, if◌then◌else◌}
use Rattle.std.specs.Option.{option_map_or, option_or}
use Rattle.std.specs.List.{list_any}
use Rattle.asm_text.specs.declared.slots.What.{What}
use Rattle.asm_text.specs.declared.slots.What.TheVariants.{Place}
use Rattle.asm_text.specs.Statements.{ValueOf, bits, address, StatementOf, branch, jump, load_address, values, bytes, align, service, nothing}
use Rattle.asm_text.specs.Lines.{LineOf}
use Rattle.asm_targets.specs.declared.labels.Mark.{Mark}
use Rattle.rv_asm.specs.declared.error.AsmError.{AsmError}
use Rattle.rv_asm.specs.declared.error.AsmError.TheVariants.{BadLine, Twice, Unknown, FarTarget}
use Rattle.asm_targets.specs.Labels.{ServiceOf}
use Rattle.rv_asm.specs.Layout.{line_size}
use Rattle.asm_targets.specs.Expansions.{offset_to, branch_reach, jump_reach}

-- where each label and each service is given first
abbrev pub Labels : Type 0
Labels = List ℕ → Option Mark

abbrev pub Services : Type 0
Services = ℕ → Option ServiceOf

-- the label stands, and at no multiple of 4
abbrev pub is_odd_place : Option Mark → Bool
is_odd_place mark = option_map_or (λ m. not (m.address % 4 == 0)) mark false

-- an instruction at no multiple of 4, or a service whose label is at none
abbrev pub is_misplaced : Labels → ℕ → StatementOf → Bool
is_misplaced labels at (values width vs) = false
is_misplaced labels at (bytes bs) = false
is_misplaced labels at (align k) = false
is_misplaced labels at (service n label) = is_odd_place (labels label)
is_misplaced labels at nothing = false
is_misplaced labels at _ = not (at % 4 == 0)

-- the label is given on a line before line i
abbrev pub label_is_given : Labels → ℕ → Option (List ℕ) → Bool
label_is_given labels i label = option_map_or (λ name. option_map_or (λ m. not (m.line == i)) (labels name) false) label false

-- the statement gives a service that is given on a line before line i
abbrev pub service_is_given : Services → ℕ → StatementOf → Bool
service_is_given services i (service n label) = option_map_or (λ s. not (s.line == i)) (services n) false
service_is_given services i _ = false

-- the value is the address of a label that no line gives
abbrev pub is_unknown_value : Labels → ValueOf → Bool
is_unknown_value labels (bits n) = false
is_unknown_value labels (address label) = is_none (labels label)

-- the statement names a label that no line gives
abbrev pub is_unknown : Labels → StatementOf → Bool
is_unknown labels (branch op rs1 rs2 label) = is_none (labels label)
is_unknown labels (jump rd label) = is_none (labels label)
is_unknown labels (load_address rd label) = is_none (labels label)
is_unknown labels (values width vs) = list_any (is_unknown_value labels) vs
is_unknown labels (service n label) = is_none (labels label)
is_unknown labels _ = false

-- a label that stands is out of reach
abbrev pub is_beyond : (reach at : ℕ) → Option Mark → Bool
is_beyond reach at mark = option_map_or (λ m. is_none (offset_to reach at m.address)) mark false

-- a branch or a jump to a label that is out of its reach
abbrev pub is_far : Labels → ℕ → StatementOf → Bool
is_far labels at (branch op rs1 rs2 label) = is_beyond branch_reach at (labels label)
is_far labels at (jump rd label) = is_beyond jump_reach at (labels label)
is_far labels at _ = false

-- the fault of line i, whose statement stands at this address: the first of these
abbrev pub statement_fault : Labels → Services → (i at : ℕ) → Option (List ℕ) → StatementOf → Option AsmError
statement_fault labels services i at label statement =
    if is_misplaced labels at statement then Some (BadLine i Place)
    else if label_is_given labels i label || service_is_given services i statement then Some (Twice i)
    else if is_unknown labels statement then Some (Unknown i)
    else if is_far labels at statement then Some (FarTarget i)
    else None

-- a line without a statement can only give a label again
abbrev pub label_fault : Labels → ℕ → Option (List ℕ) → Option AsmError
label_fault labels i label = if label_is_given labels i label then Some (Twice i) else None

-- the fault of line i at this address
abbrev pub line_fault : Labels → Services → (i at : ℕ) → Result LineOf What → Option AsmError
line_fault labels services i at (Err what) = Some (BadLine i what)
line_fault labels services i at (Ok line) =
    option_map_or (statement_fault labels services i at line.label) line.statement (label_fault labels i line.label)

-- the fault of the lowest line that has one
abbrev pub first_fault : Labels → Services → (i at : ℕ) → List (Result LineOf What) → Option AsmError
first_fault labels services i at [] = None
first_fault labels services i at (line ∷ lines) =
    option_or (line_fault labels services i at line) (first_fault labels services (i + 1) (at + line_size at line) lines)
