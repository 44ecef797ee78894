-- What a word is: a name, a number or a register.
use Rattle.std.specs.Prelude.{ℕ, ◌^◌, ◌-◌, Bool, true, false, ◌||◌, ◌&&◌, List, [], ◌∷◌, length, drop, if◌then◌else◌, ◌==◌, nat_le, nat_lt, Option, Some, None, find, slice_index, not, codes, unwrap_or}
use Rattle.std.specs.Option.{option_map, option_map_or}
use Rattle.std.specs.List.{list_all}
use Rattle.std.specs.Str.{bytes_eq}
use Rattle.std.specs.Str.Parse.{digits_value}
use Rattle.std.specs.Char.{is_ascii_alphanumeric, is_ascii_digit, digit_value}
use Rattle.asm_words.specs.declared.words.Number.{Number}
use Rattle.asm_words.specs.declared.words.RegisterName.{RegisterName}

-- a letter, a digit, `_` or `.`
abbrev pub is_name_byte : ℕ → Bool
is_name_byte b = (is_ascii_alphanumeric b || (b == 95)) || (b == 46)

-- 1 to 64 letters, digits, `_` or `.`, the first no digit
abbrev pub is_name : List ℕ → Bool
is_name w = ((not (length w == 0) && nat_le (length w) 64) && not (is_ascii_digit (slice_index w 0))) && list_all is_name_byte w

-- the number, where it is below 2^64
abbrev pub capped : ℕ → Option ℕ
capped n = if nat_lt n (2 ^ 64) then Some n else None

-- the digits' number, where it is below 2^64
abbrev pub capped_value : ℕ → List ℕ → Option ℕ
capped_value radix digits = capped (digits_value radix digits)

-- one digit or more, each below the radix
abbrev pub are_digits : ℕ → List ℕ → Bool
are_digits radix digits = not (length digits == 0) && list_all (λ b. nat_lt (digit_value b) radix) digits

-- the number of these digits
abbrev pub digits_number : Bool → ℕ → List ℕ → Option Number
digits_number negative radix digits = if are_digits radix digits then Some (record { negative = negative; magnitude = capped_value radix digits }) else None

-- decimal digits, or `0x` and hexadecimal digits
abbrev pub unsigned_number : Bool → List ℕ → Option Number
unsigned_number negative w =
    if (nat_le 2 (length w) && (slice_index w 0 == 48)) && (slice_index w 1 == 120) then digits_number negative 16 (drop 2 w)
    else digits_number negative 10 w

-- a minus sign or none, and digits
abbrev pub number_of : List ℕ → Option Number
number_of w = if not (length w == 0) && (slice_index w 0 == 45) then unsigned_number true (drop 1 w) else unsigned_number false w

-- the number is at least -below and at most above
abbrev pub in_range : ℕ → ℕ → Number → Bool
in_range below above n = option_map_or (λ m. nat_le m (if n.negative then below else above)) n.magnitude false

-- the number's low 64 bits, a negative one's in two's complement
abbrev pub bits_of : Number → ℕ
bits_of n = let m = unwrap_or n.magnitude 0 in if n.negative && nat_lt 0 m then 2 ^ 64 - m else m

abbrev pub name_and_number : RegisterName → List ℕ × ℕ
name_and_number r = (r.name.now, r.number)

abbrev pub register_among : List (List ℕ × ℕ) → List ℕ → Option ℕ
register_among table w = option_map (λ r. r.1) (find (λ r. bytes_eq r.0 w) table)

-- the registers' names by their use, then by their numbers
abbrev pub registers : List (List ℕ × ℕ)
registers =
    (codes "zero", 0) ∷ (codes "ra", 1) ∷ (codes "sp", 2) ∷ (codes "gp", 3) ∷ (codes "tp", 4)
    ∷ (codes "t0", 5) ∷ (codes "t1", 6) ∷ (codes "t2", 7) ∷ (codes "s0", 8) ∷ (codes "s1", 9)
    ∷ (codes "a0", 10) ∷ (codes "a1", 11) ∷ (codes "a2", 12) ∷ (codes "a3", 13)
    ∷ (codes "a4", 14) ∷ (codes "a5", 15) ∷ (codes "a6", 16) ∷ (codes "a7", 17)
    ∷ (codes "s2", 18) ∷ (codes "s3", 19) ∷ (codes "s4", 20) ∷ (codes "s5", 21) ∷ (codes "s6", 22)
    ∷ (codes "s7", 23) ∷ (codes "s8", 24) ∷ (codes "s9", 25) ∷ (codes "s10", 26) ∷ (codes "s11", 27)
    ∷ (codes "t3", 28) ∷ (codes "t4", 29) ∷ (codes "t5", 30) ∷ (codes "t6", 31)
    ∷ (codes "x0", 0) ∷ (codes "x1", 1) ∷ (codes "x2", 2) ∷ (codes "x3", 3) ∷ (codes "x4", 4)
    ∷ (codes "x5", 5) ∷ (codes "x6", 6) ∷ (codes "x7", 7) ∷ (codes "x8", 8) ∷ (codes "x9", 9)
    ∷ (codes "x10", 10) ∷ (codes "x11", 11) ∷ (codes "x12", 12) ∷ (codes "x13", 13)
    ∷ (codes "x14", 14) ∷ (codes "x15", 15) ∷ (codes "x16", 16) ∷ (codes "x17", 17)
    ∷ (codes "x18", 18) ∷ (codes "x19", 19) ∷ (codes "x20", 20) ∷ (codes "x21", 21)
    ∷ (codes "x22", 22) ∷ (codes "x23", 23) ∷ (codes "x24", 24) ∷ (codes "x25", 25)
    ∷ (codes "x26", 26) ∷ (codes "x27", 27) ∷ (codes "x28", 28) ∷ (codes "x29", 29)
    ∷ (codes "x30", 30) ∷ (codes "x31", 31) ∷ []
