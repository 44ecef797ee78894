-- A text of fields, each the number that its bytes spell, the lowest byte first. Which number a field may have, and which
-- field comes next, can depend on the numbers before it.
use Rattle.std.specs.Prelude.{◌≡◌, ℕ, ◌+◌, ◌^◌, ◌<◌, Bool, true, List, [], ◌∷◌, ◌++◌, length, drop, Result, Ok, Err, nat_lt, if◌then◌else◌}
use Rattle.byteorder.specs.Endian.{little_bytes, little_number}

-- a field of `width` bytes, with the numbers that it may have and what follows each; or the end of the fields, behind which `count` blocks of bytes stand
pub data Fields : Type 0 where
  Blocks : (count : ℕ) → Fields
  Field : (width : ℕ) → (rule : ℕ → Bool) → (next : ℕ → Fields) → Fields

-- the bytes of these numbers, one field after another
unfoldable pub spelled : Fields → List ℕ → List ℕ
spelled (Blocks count) ns = []
spelled (Field width rule next) [] = []
spelled (Field width rule next) (n ∷ ns) = little_bytes width n ++ spelled (next n) ns

-- there is a number for each field, and it obeys the field's rule
unfoldable pub Obey : Fields → List ℕ → Type 0
Obey (Blocks count) [] = Unit {0}
Obey (Blocks count) (n ∷ ns) = ⊥
Obey (Field width rule next) [] = ⊥
Obey (Field width rule next) (n ∷ ns) = (rule n ≡ true) × Obey (next n) ns

-- each number fits the bytes of its field
unfoldable pub Fit : Fields → List ℕ → Type 0
Fit (Blocks count) ns = Unit {0}
Fit (Field width rule next) [] = Unit {0}
Fit (Field width rule next) (n ∷ ns) = (n < 256 ^ width) × Fit (next n) ns

-- how many blocks stand behind the fields of these numbers
unfoldable pub blocks_behind : Fields → List ℕ → ℕ
blocks_behind (Blocks count) ns = count
blocks_behind (Field width rule next) [] = 0
blocks_behind (Field width rule next) (n ∷ ns) = blocks_behind (next n) ns

-- the numbers that were read, the place behind the last of them, and how many blocks stand there
pub record Reading : Type 0 where
  pub numbers : List ℕ
  pub at : ℕ
  pub blocks : ℕ

-- a number, and what is read behind it
abbrev pub behind : ℕ → Result Reading ℕ → Result Reading ℕ
behind n (Ok reading) = Ok (record reading { numbers = n ∷ reading.numbers })
behind n (Err offset) = Err offset

-- the number in the bytes from a place on, or the bytes' length where they end before it does
abbrev pub number_at : List ℕ → (at width : ℕ) → Result ℕ ℕ
number_at bytes at width = if nat_lt (length bytes) (at + width) then Err (length bytes) else Ok (little_number width (drop at bytes))

-- What is read from a place on, or where it is refused: at the bytes' length where they end inside a field, at the first
-- place of a field that breaks its rule. Fields are looked at in order.
unfoldable pub read : Fields → List ℕ → ℕ → Result Reading ℕ
read (Blocks count) bytes at = Ok (record { numbers = []; at = at; blocks = count })
read (Field width rule next) bytes at =
    if nat_lt (length bytes) (at + width) then Err (length bytes)
    else (if rule (little_number width (drop at bytes))
    then behind (little_number width (drop at bytes)) (read (next (little_number width (drop at bytes))) bytes (at + width))
    else Err at)
