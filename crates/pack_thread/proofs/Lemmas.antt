-- Lemmas of packed threads. Other crates cite these alone.
use Rattle.std.proofs.Common.{length, ◌≡◌}
use Rattle.pack_thread.specs.Rules.{KeepsRules}
use Rattle.pack_thread.specs.Threads.{IsThread, IsTyped, PackedThread}
use Rattle.rv_step.specs.Memory.{slots_of}
use Rattle.slot_space.specs.Sets.{insert}
use Rattle.std.specs.Prelude.{slice_index}
use Rattle.pack_thread.proofs.Packable

-- ## Threads that can be packed

-- a thread that keeps the rules, whose memory holds its heap slots and its stack slot, can be packed
pub packable : (t : PackedThread) → length t.state.regs ≡ 32 → slice_index t.state.regs 0 ≡ 0 → KeepsRules t → slots_of t.state.memory ≡ insert t.stack t.heap.slots → IsThread t
packable = Packable.packable

-- a thread that can be packed keeps the rules
pub rules_of_typed : (t : PackedThread) → IsThread t → IsTyped t → KeepsRules t
rules_of_typed = Packable.rules_of_typed
