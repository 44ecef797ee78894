-- What a block holds once its bytes were lent for writing.
use Rattle.std.specs.Prelude.{ℕ, List, ◌++◌, length, take, drop}
use Rattle.std.specs.Borrow.{Lends, MutBor, Fml, u8, Array}
use Rattle.raw_slots.specs.contracts.slot_mem.SlotMem.{the_row}

-- xs with ws written over it
abbrev pub written : List ℕ → List ℕ → List ℕ
written xs ws = take (length xs) (ws ++ drop (length ws) xs)

-- s ends with what was written through r
abbrev pub LendsBytes : MutBor (List ℕ) → MutBor (List ℕ) → Fml
LendsBytes s r = Lends the_row (Array u8 0) s r (written s.now)
