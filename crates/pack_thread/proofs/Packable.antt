-- When a thread can be packed.
use Rattle.std.proofs.Common.{◌≡◌, length}
use Rattle.std.specs.Prelude.{slice_index}
use Rattle.slot_space.specs.Sets.{insert}
use Rattle.rv_step.specs.Memory.{slots_of}
use Rattle.pack_thread.specs.Rules.{KeepsRules}
use Rattle.pack_thread.specs.Threads.{PackedThread, IsThread, IsTyped}
use Rattle.pack_thread.proofs.RuleLaws.{obeys, keeps}

-- a thread that keeps the rules, whose memory holds its heap slots and its stack slot
pub packable : (t : PackedThread) → length t.state.regs ≡ 32 → slice_index t.state.regs 0 ≡ 0 → KeepsRules t → slots_of t.state.memory ≡ insert t.stack t.heap.slots → IsThread t
packable t regs first rules holds = record { rules = obeys t regs rules; zero = first; holds = holds }

-- and a thread that can be packed keeps them
pub rules_of : (t : PackedThread) → length t.state.regs ≡ 32 → IsThread t → KeepsRules t
rules_of t regs is = keeps t regs is.rules

pub rules_of_typed : (t : PackedThread) → IsThread t → IsTyped t → KeepsRules t
rules_of_typed t is typed = rules_of t typed.regs is
