-- What a sound heap and a lowest fit say: no two live blocks meet, and there is one lowest place.
use Rattle.std.proofs.Common.{refl, sym, ◌∙◌, ◌≡◌, ℕ, ◌+◌, ◌%◌, ◌<◌, ◌≤◌, true, List, [], ◌∷◌, length, get_or, arith, ⊎_elim, zero, suc, not, Some}
use Rattle.std.specs.List.{AllPairs}
use Rattle.std.proofs.lemmas.Bool.{true≢false, cases_Bool, and_parts, not-true}
use Rattle.slot_space.specs.Limits.{slot_limit}
use Rattle.slot_space.specs.Sets.{union, minus, run, IsSlotSet}
use Rattle.slot_space.specs.Addresses.{HoldsAddress}
use Rattle.slot_space.specs.WordsBack.{has-filter}
use Rattle.slot_space.proofs.Lemmas.{has-union, has-minus, ascending-union, ascending-run, ascending-minus, below-union, below-run, below-minus}
use Rattle.iso_blocks.specs.Bytes.{in_slots, in_blocks, is_met}
use Rattle.iso_blocks.specs.Heap.{Heap, StandFrom, IsSound, without, placed, with_slots, emptied, freed, Fits, IsLowestFit}
use Rattle.iso_blocks.proofs.LiveBlocks.{StandFrom-with_block, StandFrom-without, StandFrom-slots, in_blocks-in_slots}
use Rattle.iso_blocks.proofs.SlotBytes.{in_slots-has, in_slots-some, is_met-false}

-- live blocks never meet: each ends at or before the start of each later one
pub never_meet : (low : ℕ) (slots : List ℕ) (live : List (ℕ × ℕ)) → StandFrom low slots live → AllPairs (λ (b c : ℕ × ℕ). b.0 + b.1 ≤ c.0) live
never_meet low slots [] s i j d less l = absurd (omega arith)
never_meet low slots (b ∷ live) s zero zero d less l = absurd (omega arith)
never_meet low slots (b ∷ live) s zero (suc j) d less l = behind (b.0 + b.1) slots live j d s.2 (omega arith)
  where
    behind : (low : ℕ) (slots : List ℕ) (live : List (ℕ × ℕ)) (j : ℕ) (d : ℕ × ℕ) → StandFrom low slots live → j < length live → low ≤ (get_or live j d).0
    behind low slots [] j d s l = absurd (omega arith)
    behind low slots (b ∷ live) zero d s l = s.1
    behind low slots (b ∷ live) (suc j) d s l = let r = behind (b.0 + b.1) slots live j d s.2 (omega arith) in omega (arith, r, s.1)
never_meet low slots (b ∷ live) s (suc i) zero d less l = absurd (omega arith)
never_meet low slots (b ∷ live) s (suc i) (suc j) d less l = never_meet (b.0 + b.1) slots live s.2 i j d (omega arith) (omega arith)

-- there is one lowest place
pub lowest_once : (h : Heap) (size a b : ℕ) → IsLowestFit h size (Some a) → IsLowestFit h size (Some b) → a ≡ b
lowest_once h size a b p q = let r = p.1 b q.0 in let s = q.1 a p.0 in omega (arith, r, s)
