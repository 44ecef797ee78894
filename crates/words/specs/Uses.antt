-- Which words use an option or a flag.
use Rattle.std.specs.Prelude.{Bool, false}
use Rattle.std.specs.Str.{bytes_eq}
use Rattle.words.specs.Words.{Form, Text, form_of, long}

abbrev pub names_in : Text → Form → Bool
names_in name (long n value) = bytes_eq n name
names_in name _ = false

-- whether a word is `--name` or `--name=value`
abbrev pub is_use : Text → Text → Bool
is_use name word = names_in name (form_of word)
