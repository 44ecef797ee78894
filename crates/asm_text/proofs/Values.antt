-- The last slot takes all tokens that are left.
use Rattle.std.proofs.Common.{◌≡◌, ℕ, Bool, List, [], ◌∷◌, length, refl, arith}
use Rattle.asm_text.specs.declared.slots.Slot.{Slot}
use Rattle.asm_text.specs.declared.slots.Slot.TheVariants as slot
use Rattle.asm_words.specs.Tokens.{TokenOf}
use Rattle.asm_text.specs.Statements.{FieldsOf}
use Rattle.asm_text.specs.Slots.{read_slots, read_values}

pub values_last : (others : List Slot) (below above : ℕ) (labels : Bool) (ts : List TokenOf) (f : FieldsOf) → length others ≡ 0 → read_slots (slot.Values below above labels ∷ others) ts f ≡ read_values below above labels ts f
values_last [] below above labels [] f h = refl
values_last [] below above labels (t ∷ ts) f h = refl
values_last (s ∷ others) below above labels ts f h = absurd (omega arith)
