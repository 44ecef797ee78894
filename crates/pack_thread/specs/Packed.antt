-- The thread of a text.
use Rattle.std.specs.Prelude.{ℕ, zero, suc, List, [], ◌∷◌, take, drop, slice_index, Result, Ok, Err}
use Rattle.slot_space.specs.Limits.{slot_size}
use Rattle.slot_space.specs.Sets.{insert}
use Rattle.rv_step.specs.Memory.{Memory}
use Rattle.rv_step.specs.Step.{HartState}
use Rattle.iso_blocks.specs.Heap.{Heap}
use Rattle.lrpc.specs.declared.call.CallNo.{CallNo}
use Rattle.lrpc.specs.declared.duty.Duty.{Duty}
use Rattle.lrpc.specs.declared.duty.Duty.TheVariants as duties
use Rattle.thread_text.specs.Fields.{Reading}
use Rattle.thread_text.specs.Grammar.{read_text}
use Rattle.pack_thread.specs.Threads.{PackedThread}

-- a duty by its number
abbrev pub duty_numbered : ℕ → CallNo → Duty
duty_numbered zero call = duties.None
duty_numbered (suc zero) call = duties.Cast call
duty_numbered (suc (suc zero)) call = duties.Owes call
duty_numbered (suc (suc (suc n))) call = duties.Paid call

-- the call whose four numbers these are
abbrev pub call_numbered : List ℕ → CallNo
call_numbered ns = record { by = record { home = slice_index ns 0; seq = slice_index ns 1 }; count = slice_index ns 2; at = slice_index ns 3 }

-- the blocks of these numbers: an address and a size each
unfoldable pub blocks_numbered : List ℕ → List (ℕ × ℕ)
blocks_numbered [] = []
blocks_numbered (n ∷ []) = []
blocks_numbered (address ∷ size ∷ ns) = (address, size) ∷ blocks_numbered ns

-- the slots whose bytes stand one after another
unfoldable pub memory_in : List ℕ → List ℕ → Memory
memory_in [] bytes = []
memory_in (s ∷ slots) bytes = (record { slot = s; block = take slot_size bytes }) ∷ memory_in slots (drop slot_size bytes)

-- the number of the heap slots, the slots, the number of the live blocks, the blocks
abbrev pub heap_numbered : List ℕ → Heap
heap_numbered ns = record { live = blocks_numbered (drop (suc (slice_index ns 0)) (drop 1 ns)); slots = take (slice_index ns 0) (drop 1 ns) }

abbrev pub state_numbered : List ℕ → List ℕ → HartState
state_numbered ns bytes = record {
  regs = 0 ∷ take 31 (drop 10 ns);
  pc = slice_index ns 41;
  memory = memory_in (insert (slice_index ns 42) (heap_numbered (drop 43 ns)).slots) bytes;
}

-- the thread of these numbers, in the order of the fields, with the bytes of its slots
abbrev pub thread_numbered : List ℕ → List ℕ → PackedThread
thread_numbered ns bytes = record {
  tid = record { home = slice_index ns 1; seq = slice_index ns 2 };
  priority = slice_index ns 3;
  calls = slice_index ns 4;
  duty = duty_numbered (slice_index ns 5) (call_numbered (drop 6 ns));
  state = state_numbered ns bytes;
  stack = slice_index ns 42;
  heap = heap_numbered (drop 43 ns);
}

-- the thread of what was read of bytes
abbrev pub thread_read : List ℕ → Result Reading ℕ → PackedThread
thread_read bytes (Ok reading) = thread_numbered reading.numbers (drop reading.at bytes)
thread_read bytes (Err offset) = thread_numbered [] []

-- the thread whose text the bytes are; what it is of other bytes doesn't matter
unfoldable pub thread_in : List ℕ → PackedThread
thread_in bytes = thread_read bytes (read_text bytes)
