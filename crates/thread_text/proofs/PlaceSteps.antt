-- The fields of a place, one after another, as a reader takes them.
use Rattle.std.proofs.Common.{◌≡◌, ℕ, ◌%◌, Bool, true, ltb, eqb, List, [], ◌∷◌, Result, Ok, refl}
use Rattle.slot_space.specs.Limits.{slot_limit}
use Rattle.thread_text.specs.Fields.{Fields, Field, Reading, number_at, read}
use Rattle.thread_text.specs.Grammar.{place_fields, slot_fields}
use Rattle.thread_text.specs.Reading.{behind_all}
use Rattle.thread_text.proofs.Steps.{goes_further}

-- what each number may be
abbrev pub is_pc : ℕ → Bool
is_pc pc = eqb (pc % 4) 0

abbrev pub is_slot : ℕ → Bool
is_slot s = ltb s slot_limit

-- the fields from the number of heap slots on, from the stack slot on, and all
abbrev pub behind_heap : (stack heap : ℕ) → Fields
behind_heap stack heap = slot_fields heap 0 stack []

abbrev pub behind_stack : ℕ → Fields
behind_stack stack = Field 2 is_slot (behind_heap stack)

abbrev pub behind_pc : ℕ → Fields
behind_pc pc = Field 2 is_slot behind_stack

abbrev pub whole : List ℕ → Result Reading ℕ
whole bytes = read place_fields bytes 273

pub begin : (bytes : List ℕ) → whole bytes ≡ behind_all [] (read (Field 8 is_pc behind_pc) bytes 273)
unfolding place_fields
begin bytes = refl

pub pc_read : (bytes : List ℕ) (pc : ℕ) → Ok pc ≡ number_at bytes 273 8 → is_pc pc ≡ true → whole bytes ≡ behind_all (pc ∷ []) (read (behind_pc pc) bytes 281)
pc_read bytes pc e obeys = goes_further 8 is_pc behind_pc bytes 273 pc [] (whole bytes) e obeys (begin bytes)

pub stack_read : (bytes : List ℕ) (pc stack : ℕ) → whole bytes ≡ behind_all (pc ∷ []) (read (behind_pc pc) bytes 281) → Ok stack ≡ number_at bytes 281 2 → is_slot stack ≡ true
    → whole bytes ≡ behind_all (pc ∷ stack ∷ []) (read (behind_stack stack) bytes 283)
stack_read bytes pc stack so_far e obeys = goes_further 2 is_slot behind_stack bytes 281 stack (pc ∷ []) (whole bytes) e obeys so_far

pub heap_read : (bytes : List ℕ) (pc stack heap : ℕ) → whole bytes ≡ behind_all (pc ∷ stack ∷ []) (read (behind_stack stack) bytes 283) → Ok heap ≡ number_at bytes 283 2 → is_slot heap ≡ true
    → whole bytes ≡ behind_all (pc ∷ stack ∷ heap ∷ []) (read (slot_fields heap 0 stack []) bytes 285)
heap_read bytes pc stack heap so_far e obeys = goes_further 2 is_slot (behind_heap stack) bytes 283 heap (pc ∷ stack ∷ []) (whole bytes) e obeys so_far
