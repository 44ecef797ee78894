-- Which bytes of the guest's memory lie in slots and in blocks. A block is its address and its size.
use Rattle.std.specs.Prelude.{ℕ, ◌+◌, Bool, false, ◌&&◌, ◌||◌, List, [], ◌∷◌, nat_le, nat_lt}
use Rattle.slot_space.specs.Limits.{slot_size}
use Rattle.slot_space.specs.Addresses.{slot_base}

-- byte x is one of the bytes from `from` to before `end`
abbrev pub lies_in : ℕ → ℕ → ℕ → Bool
lies_in from end x = nat_le from x && nat_lt x end

-- byte x lies in one of the slots
abbrev pub in_slots : List ℕ → ℕ → Bool
in_slots [] x = false
in_slots (s ∷ slots) x = lies_in (slot_base s) (slot_base s + slot_size) x || in_slots slots x

-- byte x lies in one of the blocks
abbrev pub in_blocks : List (ℕ × ℕ) → ℕ → Bool
in_blocks [] x = false
in_blocks (b ∷ blocks) x = lies_in b.0 (b.0 + b.1) x || in_blocks blocks x

-- one of the blocks has a byte in slot s
abbrev pub is_met : List (ℕ × ℕ) → ℕ → Bool
is_met [] s = false
is_met (b ∷ blocks) s = (nat_lt b.0 (slot_base s + slot_size) && nat_lt (slot_base s) (b.0 + b.1)) || is_met blocks s
