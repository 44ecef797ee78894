-- A thread as it travels, and its one text.
use Rattle.std.specs.Prelude.{◌≡◌, ℕ, Result, Ok, Err, List, ◌∷◌, ◌++◌, length, drop, slice_index}
use Rattle.std.specs.List.{flat_map, AllByRecursion}
use Rattle.slot_space.specs.Limits.{slot_size}
use Rattle.slot_space.specs.declared.names.Tid.{Tid}
use Rattle.slot_space.specs.Sets.{insert}
use Rattle.rv_step.specs.Memory.{Memory, slots_of}
use Rattle.rv_step.specs.Step.{HartState, state_of}
use Rattle.iso_blocks.specs.Heap.{Heap}
use Rattle.lrpc.specs.declared.duty.Duty.{Duty}
use Rattle.pack_thread.specs.declared.error.UnpackError.{UnpackError}
use Rattle.pack_thread.specs.declared.error.UnpackError.TheVariants.{BadImage, NoMemory}
use Rattle.thread_text.specs.Fields.{spelled, Obey, Fit}
use Rattle.thread_text.specs.Grammar.{thread_fields, magic}
use Rattle.thread_text.specs.Numbers.{duty_numbers, block_numbers}
use Rattle.pack_thread.specs.declared.baggage.Baggage.{Baggage}

-- what a thread takes along
pub record PackedThread : Type 0 where
  pub tid : Tid
  pub priority : ℕ
  pub calls : ℕ
  pub duty : Duty
  pub state : HartState
  pub stack : ℕ
  pub heap : Heap

abbrev pub thread_of : Baggage → PackedThread
thread_of b = record { tid = b.tid; priority = b.priority; calls = b.calls; duty = b.duty; state = state_of b.hart; stack = b.stack; heap = b.blocks }

-- ## Its numbers, in the order of the fields

abbrev pub heap_numbers : Heap → List ℕ
heap_numbers heap = heap.slots ++ (length heap.live ∷ block_numbers heap.live)

abbrev pub numbers_of : PackedThread → List ℕ
numbers_of t =
    magic ∷ t.tid.home ∷ t.tid.seq ∷ t.priority ∷ t.calls ∷ (duty_numbers t.duty ++ (drop 1 t.state.regs
    ++ (t.state.pc ∷ t.stack ∷ length t.heap.slots ∷ heap_numbers t.heap)))

-- ## Its text

-- each slot has all its bytes
abbrev pub AreWhole : Memory → Type 0
AreWhole memory = AllByRecursion (λ held. length held.block ≡ slot_size) memory

-- the bytes of the slots, one after another
abbrev pub bytes_of : Memory → List ℕ
bytes_of memory = flat_map (λ held. held.block) memory

-- the fields up to the slots' bytes
abbrev pub head_of : PackedThread → List ℕ
head_of t = spelled thread_fields (numbers_of t)

abbrev pub text_of : PackedThread → List ℕ
text_of t = head_of t ++ bytes_of t.state.memory

-- the numbers obey the rules of their fields, register 0 is 0, and the memory holds exactly the heap slots and the stack slot
pub record IsThread (t : PackedThread) : Type 0 where
  pub rules : Obey thread_fields (numbers_of t)
  pub zero : slice_index t.state.regs 0 ≡ 0
  pub holds : slots_of t.state.memory ≡ insert t.stack t.heap.slots

-- what the types of a thread's parts keep: each number fits its field, there are 32 registers, and each slot has all its bytes
pub record IsTyped (t : PackedThread) : Type 0 where
  pub numbers : Fit thread_fields (numbers_of t)
  pub regs : length t.state.regs ≡ 32
  pub blocks : AreWhole t.state.memory

-- the bytes are the text of this thread
pub record IsTextOf (bytes : List ℕ) (t : PackedThread) : Type 0 where
  pub rules : IsThread t
  pub typed : IsTyped t
  pub text : bytes ≡ text_of t

-- what was answered is this thread, unless memory ran out
abbrev pub Gives : PackedThread → Result Baggage UnpackError → Type 0
Gives t (Ok b) = thread_of b ≡ t
Gives t (Err NoMemory) = Unit {0}
Gives t (Err (BadImage offset)) = ⊥
