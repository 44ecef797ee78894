-- The listing of an image.
use Rattle.std.specs.Prelude.{ℕ, ◌+◌, ◌*◌, ◌/◌, ◌%◌, ◌^◌, ◌<◌, All, List, [], ◌∷◌, ◌++◌, length, nat_lt, if◌then◌else◌, codes, decimal}
use Rattle.std.specs.Option.{option_map_or}
use Rattle.std.specs.List.{flat_map, range_with_len}
use Rattle.rv_inst.specs.declared.image.Image.{Image}
use Rattle.rv_inst.specs.Image.{image_start, image_word}
use Rattle.rv_inst.specs.Fields.{inst_of}
use Rattle.rv_inst.specs.Table.{inst_name}

-- a lower-case hexadecimal digit
abbrev pub hexadecimal_digit : ℕ → ℕ
hexadecimal_digit digit = if nat_lt digit 10 then 48 + digit else 87 + digit

-- the digit of n that counts units
abbrev pub digit_at : (n unit : ℕ) → ℕ
digit_at n unit = hexadecimal_digit (n / unit % 16)

-- the eight hexadecimal digits of a number below 2^32
unfoldable pub eight_digits : ℕ → List ℕ
eight_digits n =
    digit_at n (2 ^ 28) ∷ digit_at n (2 ^ 24) ∷ digit_at n (2 ^ 20) ∷ digit_at n (2 ^ 16)
    ∷ digit_at n (2 ^ 12) ∷ digit_at n (2 ^ 8) ∷ digit_at n (2 ^ 4) ∷ digit_at n 1 ∷ []

-- where the main thread starts
abbrev pub main_line : ℕ → List ℕ
main_line address = codes "main " ++ eight_digits address ++ codes "\n"

-- a service's number and where it starts
abbrev pub service_line : ℕ × ℕ → List ℕ
service_line service = codes "service " ++ decimal service.0 ++ codes " " ++ eight_digits service.1 ++ codes "\n"

-- the name of the instruction that a word is, a minus where it is none
abbrev pub word_name : ℕ → List ℕ
word_name word = option_map_or inst_name (inst_of word) (codes "-")

-- a word with its address and its name
abbrev pub word_line : (address word : ℕ) → List ℕ
word_line address word =
    eight_digits address ++ codes " " ++ eight_digits word ++ codes " " ++ word_name word ++ codes "\n"

-- the line of the word that some bytes of an image have at an index, counted in words
abbrev pub line_at : List ℕ → ℕ → List ℕ
line_at bytes index =
    option_map_or (word_line (image_start + 4 * index)) (image_word bytes (image_start + 4 * index)) []

-- the lines of the words of an image
abbrev pub word_lines : List ℕ → List ℕ
word_lines bytes = flat_map (line_at bytes) (range_with_len 0 (length bytes / 4))

-- where it starts, its services, its words
abbrev pub listing : Image → List ℕ
listing image = main_line image.main ++ flat_map service_line image.services ++ word_lines image.bytes

-- the main thread and the services start below 2^32
abbrev pub HasShortAddresses : Image → Type 0
HasShortAddresses image = (image.main < 2 ^ 32) × All (λ service. service.1 < 2 ^ 32) image.services
