-- What the rules of the fields say of a thread.
use Rattle.std.specs.Prelude.{◌≡◌, ◌%◌, ◌<◌, ◌≤◌, false}
use Rattle.slot_space.specs.Limits.{slot_limit, node_limit}
use Rattle.slot_space.specs.Sets.{has, IsSlotSet}
use Rattle.iso_blocks.specs.Heap.{IsSound}
use Rattle.lrpc.specs.declared.call.CallNo.{CallNo}
use Rattle.lrpc.specs.declared.duty.Duty.{Duty}
use Rattle.lrpc.specs.declared.duty.Duty.TheVariants as duties
use Rattle.pack_thread.specs.Threads.{PackedThread}

-- the caller's home and the node where it asked are nodes
abbrev pub NamesNodes : CallNo → Type 0
NamesNodes call = (call.by.home < node_limit) × (call.at < node_limit)

-- so they are of the call that a thread serves
abbrev pub ServesNodes : Duty → Type 0
ServesNodes duties.None = Unit {0}
ServesNodes (duties.Cast call) = NamesNodes call
ServesNodes (duties.Owes call) = NamesNodes call
ServesNodes (duties.Paid call) = NamesNodes call

-- nodes, priority and slots are in range, the pc is a multiple of 4, and the live blocks lie in the heap slots, of which the stack slot is none
pub record KeepsRules (t : PackedThread) : Type 0 where
  pub home : t.tid.home < node_limit
  pub priority : t.priority ≤ 7
  pub duty : ServesNodes t.duty
  pub pc : t.state.pc % 4 ≡ 0
  pub stack : t.stack < slot_limit
  pub heap : IsSlotSet t.heap.slots
  pub apart : has t.stack t.heap.slots ≡ false
  pub sound : IsSound t.heap
