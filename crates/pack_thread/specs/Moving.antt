-- A thread on its way, whose slots' bytes stay where they are: its fields, and the blocks of its slots.
use Rattle.std.specs.Prelude.{◌≡◌, ℕ, List, ◌++◌, length, map, Result, Ok, Err}
use Rattle.std.specs.List.{flat_map}
use Rattle.rv_step.specs.Memory.{Memory}
use Rattle.iso_blocks.specs.Heap.{Heap}
use Rattle.thread_text.specs.declared.opening.Opened.{Opened}
use Rattle.thread_text.specs.Fields.{Reading}
use Rattle.thread_text.specs.Grammar.{read_head}
use Rattle.pack_thread.specs.declared.baggage.Baggage.{Baggage}
use Rattle.pack_thread.specs.declared.error.UnpackError.TheVariants.{NoMemory}
use Rattle.pack_thread.specs.declared.moving.Moving.{Moving}
use Rattle.pack_thread.specs.declared.moving.Rejoin.{Rejoin}
use Rattle.pack_thread.specs.Threads.{PackedThread, thread_of, head_of, IsThread, IsTyped}

-- its head, and behind that the bytes of its blocks
abbrev pub text_of_moving : Moving → List ℕ
text_of_moving m = m.head.items ++ flat_map (λ block. block) m.blocks.items

-- the blocks of the slots, in their order
abbrev pub blocks_of : Memory → List (List ℕ)
blocks_of memory = map (λ held. held.block) memory

-- its head is the thread's fields up to the slots' bytes, and its blocks are those of the thread's slots
pub record IsMovingOf (m : Moving) (t : PackedThread) : Type 0 where
  pub rules : IsThread t
  pub typed : IsTyped t
  pub head : m.head.items ≡ head_of t
  pub blocks : m.blocks.items ≡ blocks_of t.state.memory

-- what the head has, or the place at which it is refused
abbrev pub read_moving : Moving → Result Reading ℕ
read_moving m = read_head m.head.items (length m.blocks.items)

-- what was answered is this thread, unless memory ran out
abbrev pub Rejoins : PackedThread → Result Baggage Rejoin → Type 0
Rejoins t (Ok b) = thread_of b ≡ t
Rejoins t (Err r) = r.cause ≡ NoMemory

-- the thread of fields that were read, with this heap and this memory
abbrev pub thread_opened : Opened → Heap → Memory → PackedThread
thread_opened o heap memory = record {
  tid = o.who.tid;
  priority = o.who.priority;
  calls = o.who.calls;
  duty = o.duty;
  state = record { regs = o.regs; pc = o.place.pc; memory = memory };
  stack = o.place.stack;
  heap = heap;
}
