-- What a reader of some fields does for the reading of all.
use Rattle.std.specs.Prelude.{◌≡◌, ℕ, zero, suc, ◌+◌, ◌*◌, List, [], ◌∷◌, ◌++◌, drop, Result, Ok, Err}
use Rattle.byteorder.specs.Endian.{little_number}
use Rattle.thread_text.specs.Fields.{Reading, behind}

-- numbers, and what is read behind them
abbrev pub behind_all : List ℕ → Result Reading ℕ → Result Reading ℕ
behind_all [] left = left
behind_all (n ∷ ns) left = behind n (behind_all ns left)

-- what a reader gives, seen as numbers, and behind it what is left, is the whole reading; what it refuses is refused
abbrev pub GoesOn : {X : Type 0} → (X → List ℕ) → Result X ℕ → Result Reading ℕ → (X → Result Reading ℕ) → Type 0
GoesOn numbers (Ok x) whole left = whole ≡ behind_all (numbers x) (left x)
GoesOn numbers (Err offset) whole left = whole ≡ Err offset

-- the address and the size that stand at a place of the bytes
abbrev pub block_at : List ℕ → ℕ → ℕ × ℕ
block_at bytes at = (little_number 8 (drop at bytes), little_number 8 (drop (at + 8) bytes))

-- `count` blocks, from a place of the bytes on
unfoldable pub blocks_at : List ℕ → (at count : ℕ) → List (ℕ × ℕ)
blocks_at bytes at zero = []
blocks_at bytes at (suc count) = blocks_at bytes at count ++ block_at bytes (at + 16 * count) ∷ []
