-- Where each line stands, and what it gives a place to.
use Rattle.std.specs.Prelude.{ℕ, ◌+◌, ◌-◌, ◌*◌, ◌%◌, ◌^◌, ◌≤◌, Bool, false, ◌==◌, List, [], ◌∷◌, length, All, Option, Some, None, Result, Ok, Err, if◌then◌else◌}
use Rattle.std.specs.Option.{option_map_or, option_or}
use Rattle.std.specs.Str.{bytes_eq}
use Rattle.rv_inst.specs.Image.{image_limit, image_start}
use Rattle.asm_text.specs.declared.slots.What.{What}
use Rattle.asm_text.specs.declared.reading.Line.{Line}
use Rattle.asm_text.specs.declared.statements.Width.{Width}
use Rattle.asm_text.specs.declared.statements.Width.TheVariants.{Byte, Word, Dword}
use Rattle.asm_text.specs.Slots.{seen}
use Rattle.asm_text.specs.Statements.{StatementOf, plain, branch, jump, load_number, load_address, values, bytes, align, service, nothing}
use Rattle.asm_text.specs.Lines.{LineOf, line_seen, HasSound}
use Rattle.asm_targets.specs.declared.labels.Mark.{Mark}
use Rattle.asm_targets.specs.Labels.{ServiceOf}
use Rattle.asm_targets.specs.Expansions as expansions

-- where the first line stands: behind the stub
abbrev pub base : ℕ
base = image_start + 8

-- the most bytes of a source and of an image
abbrev pub limit : ℕ
limit = image_limit

-- few enough lines, each with data that a source has room for
pub record IsReadable (readings : List (Result Line What)) : Type 0 where
  pub few : length readings ≤ 2 ^ 21
  pub sound : All (λ reading. HasSound limit (seen line_seen reading)) readings

-- ---- sizes

-- how many bytes a value has
abbrev pub width_len : Width → ℕ
width_len Byte = 1
width_len Word = 4
width_len Dword = 8

-- how many zeros stand from an address up to the next multiple of 2^k
abbrev pub padding : (k address : ℕ) → ℕ
padding k address = (2 ^ k - address % 2 ^ k) % 2 ^ k

-- how many bytes a statement has at an address
abbrev pub size_at : ℕ → StatementOf → ℕ
size_at address (plain inst) = 4
size_at address (branch op rs1 rs2 label) = 4
size_at address (jump rd label) = 4
size_at address (load_number rd n) = 4 * length (expansions.load_number rd n)
size_at address (load_address rd label) = 8
size_at address (values width vs) = width_len width * length vs
size_at address (bytes bs) = length bs
size_at address (align k) = padding k address
size_at address (service n label) = 0
size_at address nothing = 0

-- a line with a fault of its own stands as an empty line
abbrev pub statement_in : Result LineOf What → Option StatementOf
statement_in (Ok line) = line.statement
statement_in (Err what) = None

abbrev pub label_in : Result LineOf What → Option (List ℕ)
label_in (Ok line) = line.label
label_in (Err what) = None

-- how many bytes a line has at an address
abbrev pub line_size : ℕ → Result LineOf What → ℕ
line_size address line = option_map_or (size_at address) (statement_in line) 0

-- the address behind the lines, of which the first stands at this address
abbrev pub end_of : ℕ → List (Result LineOf What) → ℕ
end_of address [] = address
end_of address (line ∷ lines) = end_of (address + line_size address line) lines

-- ---- labels and services

-- the line gives this label
abbrev pub gives_label : Result LineOf What → List ℕ → Bool
gives_label line name = option_map_or (λ label. bytes_eq label name) (label_in line) false

-- where a label is given first; the lines are numbered from i on, and the first stands at this address
abbrev pub label_among : (i address : ℕ) → List (Result LineOf What) → List ℕ → Option Mark
label_among i address [] name = None
label_among i address (line ∷ lines) name =
    if gives_label line name then Some (record { line = i; address = address })
    else label_among (i + 1) (address + line_size address line) lines name

-- the service that a statement gives, by its number
abbrev pub service_by : Option StatementOf → (n i : ℕ) → Option ServiceOf
service_by (Some (service number label)) n i = if number == n then Some (record { line = i; label = label }) else None
service_by _ n i = None

-- where a service is given first
abbrev pub service_among : (i : ℕ) → List (Result LineOf What) → ℕ → Option ServiceOf
service_among i [] n = None
service_among i (line ∷ lines) n = option_or (service_by (statement_in line) n i) (service_among (i + 1) lines n)
