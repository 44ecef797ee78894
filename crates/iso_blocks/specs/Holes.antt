-- Holes: runs of free bytes, each from its first byte to before its end.
use Rattle.std.specs.Prelude.{◌≡◌, ℕ, ◌+◌, ◌%◌, ◌<◌, ◌≤◌, Bool, true, false, ◌||◌, List, [], ◌∷◌, ◌++◌, nat_le, nat_lt, ◌==◌, if◌then◌else◌}
use Rattle.iso_blocks.specs.Bytes.{lies_in}

-- byte x lies in one of the holes
abbrev pub in_holes : List (ℕ × ℕ) → ℕ → Bool
in_holes [] x = false
in_holes (h ∷ holes) x = lies_in h.0 h.1 x || in_holes holes x

-- the holes start at multiples of 16, the first at or after `from`, and each later one behind a byte that isn't free
abbrev pub StandApart : ℕ → List (ℕ × ℕ) → Type 0
StandApart from [] = Unit {0}
StandApart from (h ∷ holes) = (from ≤ h.0) × (h.0 < h.1) × (h.0 % 16 ≡ 0) × StandApart (h.1 + 1) holes

-- the bytes from `from` to before `end` all lie in holes
abbrev pub AreFree : List (ℕ × ℕ) → ℕ → ℕ → Type 0
AreFree holes from end = (x : ℕ) → from ≤ x → x < end → in_holes holes x ≡ true

-- the bytes from `from` to before `end` all lie in no hole
abbrev pub AreTaken : List (ℕ × ℕ) → ℕ → ℕ → Type 0
AreTaken holes from end = (x : ℕ) → from ≤ x → x < end → in_holes holes x ≡ false

-- one hole, or none where it would have no byte
abbrev pub hole : ℕ → ℕ → List (ℕ × ℕ)
hole from end = if nat_lt from end then (from, end) ∷ [] else []

-- the holes without the bytes from `from` to before `end`, which one of them has
abbrev pub cut : ℕ → ℕ → List (ℕ × ℕ) → List (ℕ × ℕ)
cut from end [] = []
cut from end (h ∷ holes) = if nat_le h.1 from then h ∷ cut from end holes else hole h.0 from ++ (hole end h.1 ++ holes)

-- a hole before others, merged with the first of them where they touch
abbrev pub merged : ℕ → ℕ → List (ℕ × ℕ) → List (ℕ × ℕ)
merged from end [] = (from, end) ∷ []
merged from end (h ∷ holes) = if end == h.0 then (from, h.1) ∷ holes else (from, end) ∷ h ∷ holes

-- the holes with the bytes from `from` to before `end`, which none of them has, merged on both sides
abbrev pub join : ℕ → ℕ → List (ℕ × ℕ) → List (ℕ × ℕ)
join from end [] = (from, end) ∷ []
join from end (h ∷ holes) = if nat_lt h.1 from then h ∷ join from end holes else (if h.1 == from then merged h.0 end holes else merged from end (h ∷ holes))
