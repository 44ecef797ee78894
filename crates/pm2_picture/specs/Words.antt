-- What the words of the command line ask for.
use Rattle.std.specs.Prelude.{ℕ, ◌+◌, ◌-◌, ◌*◌, ◌^◌, Bool, ◌&&◌, List, [], ◌∷◌, drop, length, Option, Some, None, codes, nat_lt, nat_le, if◌then◌else◌}
use Rattle.std.specs.Str.{bytes_eq}
use Rattle.pictures.specs.declared.window.Window.{Window}
use Rattle.pm2_picture.specs.declared.asked.Form.{Form}
use Rattle.pm2_picture.specs.declared.asked.Form.TheVariants.{Svg, Paje}
use Rattle.pm2_picture.specs.declared.asked.Asked.{Asked}

abbrev pub Text : Type 0
Text = List ℕ

abbrev pub is_digit : ℕ → Bool
is_digit b = nat_le 48 b && nat_le b 57

-- with a digit more, where the number stays below 2^64
abbrev pub number_from : ℕ → Text → Option ℕ
number_from n [] = Some n
number_from n (d ∷ ds) =
    if is_digit d then (if nat_lt (2 ^ 64 - 1) (n * 10 + (d - 48)) then None else number_from (n * 10 + (d - 48)) ds) else None

abbrev pub number_in : Text → Option ℕ
number_in [] = None
number_in (d ∷ ds) = number_from 0 (d ∷ ds)

-- the last bytes of a text
abbrev pub tail : ℕ → Text → Text
tail n text = drop (length text - n) text

-- by the ending of a name
abbrev pub form_of : Text → Option Form
form_of name =
    if bytes_eq (tail 4 name) (codes ".svg") then Some Svg else (if bytes_eq (tail 5 name) (codes ".paje") then Some Paje else None)

abbrev pub from_if : Option ℕ → Window → Option Window
from_if None w = None
from_if (Some s) w = Some (record w { from = s })

abbrev pub to_if : Option ℕ → Window → Option Window
to_if None w = None
to_if (Some s) w = Some (record w { to = s })

-- an option and its value; the last one of a name counts
abbrev pub option : Text → Text → Window → Option Window
option name value w =
    if bytes_eq name (codes "--from") then from_if (number_in value) w
    else (if bytes_eq name (codes "--to") then to_if (number_in value) w else None)

abbrev pub all : Window
all = record { from = 0; to = 2 ^ 64 - 1 }

abbrev pub and_option : Text → Text → Option Window → Option Window
and_option name value None = None
and_option name value (Some w) = option name value w

-- two options at most
abbrev pub window_of : List Text → Option Window
window_of [] = Some all
window_of (a ∷ x ∷ []) = option a x all
window_of (a ∷ x ∷ b ∷ y ∷ []) = and_option b y (option a x all)
window_of _ = None

abbrev pub asked_by : Option Form → Option Window → Option Asked
asked_by (Some form) (Some window) = Some (record { form = form; window = window })
asked_by _ _ = None

-- a picture of this file's name, with these options behind the two names
abbrev pub asked : Text → List Text → Option Asked
asked out options = asked_by (form_of out) (window_of options)
