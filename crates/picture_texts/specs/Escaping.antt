-- Text that a user gave, as SVG has it: it ends and begins no element.
use Rattle.std.specs.Prelude.{ℕ, Bool, ◌||◌, [], ◌∷◌, codes, ◌==◌, nat_lt, if◌then◌else◌}
use Rattle.std.specs.List.{flat_map}
use Rattle.picture_texts.specs.Filling.{Text}

-- control characters have no form in XML
abbrev pub escaped_byte : ℕ → Text
escaped_byte b =
    if nat_lt b 32 then 63 ∷ []
    else (if b == 38 then codes "&amp;"
    else (if b == 60 then codes "&lt;"
    else (if b == 62 then codes "&gt;" else b ∷ [])))

abbrev pub escaped : Text → Text
escaped text = flat_map escaped_byte text

-- a control character, or one that begins or ends an element
abbrev pub is_markup : ℕ → Bool
is_markup b = nat_lt b 32 || (b == 60 || b == 62)
