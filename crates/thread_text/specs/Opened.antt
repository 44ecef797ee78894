-- What the fields of a text have, as the code keeps it.
use Rattle.std.specs.Prelude.{◌≡◌, ℕ, ◌+◌, ◌*◌, ◌<◌, false, List, [], ◌∷◌, ◌++◌, length, drop, slice_index}
use Rattle.slot_space.specs.Limits.{slot_limit}
use Rattle.slot_space.specs.Sets.{has, IsSlotSet}
use Rattle.iso_blocks.specs.Heap.{StandFrom}
use Rattle.thread_text.specs.Fields.{Reading}
use Rattle.thread_text.specs.Grammar.{magic}
use Rattle.thread_text.specs.Reading.{blocks_at}
use Rattle.thread_text.specs.Numbers.{duty_numbers, block_numbers}
use Rattle.thread_text.specs.declared.opening.Who.{Who}
use Rattle.thread_text.specs.declared.opening.Place.{Place}
use Rattle.thread_text.specs.declared.opening.Opened.{Opened}

abbrev pub who_numbers : Who → List ℕ
who_numbers w = magic ∷ w.tid.home ∷ w.tid.seq ∷ w.priority ∷ w.calls ∷ []

abbrev pub place_numbers : Place → List ℕ
place_numbers p = p.pc ∷ p.stack ∷ p.heap ∷ []

-- where the live blocks stand
abbrev pub live_at : Opened → ℕ
live_at o = 289 + 2 * o.place.heap

-- where the slots' bytes stand
abbrev pub slots_at : Opened → ℕ
slots_at o = live_at o + 16 * o.live

abbrev pub live_of : List ℕ → Opened → List (ℕ × ℕ)
live_of bytes o = blocks_at bytes (live_at o) o.live

-- all numbers, of which those of the live blocks are still in the bytes
abbrev pub opened_numbers : List ℕ → Opened → List ℕ
opened_numbers bytes o = who_numbers o.who ++ (duty_numbers o.duty ++ (drop 1 o.regs ++ (place_numbers o.place ++ (o.slots ++ (o.live ∷ block_numbers (live_of bytes o))))))

abbrev pub reading_of : List ℕ → Opened → Reading
reading_of bytes o = record { numbers = opened_numbers bytes o; at = slots_at o; blocks = length o.slots + 1 }

-- what the rules of the fields say of their values
pub record IsOpen (bytes : List ℕ) (o : Opened) : Type 0 where
  pub regs : length o.regs ≡ 32
  pub zero : slice_index o.regs 0 ≡ 0
  pub stack : o.place.stack < slot_limit
  pub heap : IsSlotSet o.slots
  pub apart : has o.place.stack o.slots ≡ false
  pub counted : length o.slots ≡ o.place.heap
  pub sound : StandFrom 0 o.slots (live_of bytes o)
