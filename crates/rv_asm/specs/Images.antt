-- The image of a source, or why it has none.
use Rattle.std.specs.Prelude.{◌≡◌, ℕ, ◌-◌, ◌%◌, ◌==◌, List, [], ◌∷◌, ◌++◌, length, nat_lt, Option, Some, None, Result, Ok, Err, replicate, codes, if◌then◌else◌}
use Rattle.std.specs.Option.{option_map, option_map_or}
use Rattle.std.specs.List.{filter_map, range_with_len}
use Rattle.rv_inst.specs.declared.image.Image.{Image}
use Rattle.asm_text.specs.declared.slots.What.{What}
use Rattle.asm_text.specs.Lines.{LineOf, said}
use Rattle.asm_targets.specs.declared.labels.Mark.{Mark}
use Rattle.rv_asm.specs.declared.error.AsmError.{AsmError}
use Rattle.rv_asm.specs.declared.error.AsmError.TheVariants.{NoMain, TooLong, NoMemory}
use Rattle.rv_asm.specs.Layout.{base, limit, label_among, service_among}
use Rattle.rv_asm.specs.Faults.{Labels, Services, first_fault}
use Rattle.rv_asm.specs.Bytes.{address_of, all_bytes}

-- `addi a7, x0, 1` and `ecall`
abbrev pub stub : List ℕ
stub = 0x93 ∷ 0x08 ∷ 0x10 ∷ 0x00 ∷ 0x73 ∷ 0x00 ∷ 0x00 ∷ 0x00 ∷ []

-- with zeros up to a multiple of 4
abbrev pub filled : List ℕ → List ℕ
filled bytes = bytes ++ replicate ((4 - length bytes % 4) % 4) 0

-- the service of a number, if it is given, and where its label stands
abbrev pub service_row : Labels → Services → ℕ → Option (ℕ × ℕ)
service_row labels services n = option_map (λ s. (n, address_of labels s.label)) (services n)

-- the services of numbers below some count, ascending
unfoldable pub services_below : ℕ → Labels → Services → List (ℕ × ℕ)
services_below count labels services = filter_map (service_row labels services) (range_with_len 0 count)

-- all services
abbrev pub services_of : Labels → Services → List (ℕ × ℕ)
services_of labels services = services_below 256 labels services

-- the main thread starts at a label that stands at a multiple of 4
abbrev pub main_at : Option Mark → Option ℕ
main_at None = None
main_at (Some mark) = if mark.address % 4 == 0 then Some mark.address else None

-- the bytes of the image, but for the zeros at its end
abbrev pub image_bytes : Labels → List (Result LineOf What) → List ℕ
image_bytes labels lines = stub ++ all_bytes labels base lines

-- the image that starts at main, unless it is too long
abbrev pub image_from : Labels → Services → List (Result LineOf What) → ℕ → Result Image AsmError
image_from labels services lines main =
    if nat_lt limit (length (image_bytes labels lines)) then Err TooLong
    else Ok (record { bytes = filled (image_bytes labels lines); main = main; services = services_of labels services })

-- a fault of a line, then none to start at, then too many bytes
abbrev pub faultless_image : Labels → Services → List (Result LineOf What) → Result Image AsmError
faultless_image labels services lines =
    option_map_or (image_from labels services lines) (main_at (labels (codes "main"))) (Err NoMain)

-- the image of lines with these labels and services
unfoldable pub image_with : Labels → Services → List (Result LineOf What) → Result Image AsmError
image_with labels services lines =
    option_map_or (λ fault. Err fault) (first_fault labels services 1 base lines) (faultless_image labels services lines)

-- the image of lines
abbrev pub image_of_lines : List (Result LineOf What) → Result Image AsmError
image_of_lines lines = image_with (label_among 1 base lines) (service_among 1 lines) lines

-- the image of a source, or the fault that counts
abbrev pub image_of : List ℕ → Result Image AsmError
image_of source = if nat_lt limit (length source) then Err TooLong else image_of_lines (said source)

-- an answer is this, unless there was no memory
abbrev pub Assembles : Result Image AsmError → Result Image AsmError → Type 0
Assembles (Err NoMemory) image = Unit {0}
Assembles answer image = answer ≡ image
