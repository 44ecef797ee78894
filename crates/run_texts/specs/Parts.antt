-- Lines, words and numbers.
use Rattle.std.specs.Prelude.{◌==◌, ◌&&◌, ℕ, Bool, true, false, List, [], ◌∷◌, length, filter, Option, Some, None, if◌then◌else◌, nat_le, nat_lt}
use Rattle.std.specs.List.{list_all}
use Rattle.std.specs.Str.Parse.{digits_value}

abbrev pub Text : Type 0
Text = List ℕ

-- a byte at the front of the first part
abbrev pub onto : ℕ → List Text → List Text
onto b [] = (b ∷ []) ∷ []
onto b (p ∷ ps) = (b ∷ p) ∷ ps

-- the parts that end with this byte, the last one perhaps without it
abbrev pub parts_of : ℕ → Text → List Text
parts_of end [] = []
parts_of end (b ∷ bs) = if b == end then [] ∷ parts_of end bs else onto b (parts_of end bs)

-- each line ends with a newline, the last one perhaps without
abbrev pub lines_of : Text → List Text
lines_of text = parts_of 10 text

abbrev pub is_filled : Text → Bool
is_filled [] = false
is_filled (b ∷ bs) = true

-- the words of a line, which blanks part
abbrev pub words_of : Text → List Text
words_of line = filter is_filled (parts_of 32 line)

abbrev pub is_digit : ℕ → Bool
is_digit b = nat_le 48 b && nat_le b 57

-- one to ten digits
abbrev pub is_number : Text → Bool
is_number text = is_filled text && (nat_le (length text) 10 && list_all is_digit text)

abbrev pub within : ℕ → ℕ → ℕ → Option ℕ
within low below n = if nat_le low n && nat_lt n below then Some n else None

-- the number that one to ten digits write, where it is at least `low` and less than `below`
unfoldable pub number_in : ℕ → ℕ → Text → Option ℕ
number_in low below text = if is_number text then within low below (digits_value 10 text) else None
