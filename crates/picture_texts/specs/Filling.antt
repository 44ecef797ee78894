-- Texts with numbers in them.
use Rattle.std.specs.Prelude.{ℕ, ◌-◌, List, [], ◌∷◌, Option, Some, None, slice_get, decimal, nat_lt, if◌then◌else◌}
use Rattle.std.specs.List.{flat_map}

abbrev pub Text : Type 0
Text = List ℕ

abbrev pub number_or : ℕ → Option ℕ → Text
number_or letter None = letter ∷ []
number_or letter (Some n) = decimal n

-- A stands for the first number, B for the second, and so on; a letter without a number stands for itself
abbrev pub filled_letter : List ℕ → ℕ → Text
filled_letter numbers letter = if nat_lt letter 65 then letter ∷ [] else number_or letter (slice_get numbers (letter - 65))

unfoldable pub filled : List ℕ → Text → Text
filled numbers form = flat_map (filled_letter numbers) form
