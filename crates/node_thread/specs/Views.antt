-- How a thread in code means the thread of the definition, and what each one keeps.
use Rattle.std.specs.Prelude.{◌≡◌, ℕ, ◌%◌, ◌≤◌, List, [], ◌∷◌, true, false, slice_index}
use Rattle.slot_space.specs.Sets.{has, minus, run}
use Rattle.iso_blocks.specs.Heap.{Heap}
use Rattle.rv_step.specs.Memory.{slots_of}
use Rattle.rv_step.specs.declared.hart.Hart.{Hart}
use Rattle.rv_step.specs.Step.{state_of}
use Rattle.run_trace.specs.declared.node.Wait.{Wait}
use Rattle.run_trace.specs.Guests.{Guest, Thread, guest_slots}

abbrev pub thread_of : Wait → (priority stack : ℕ) → Hart → List (ℕ × ℕ) → Thread
thread_of wait priority stack hart live = record {
  wait = wait;
  guest = record { priority = priority; solo = record { state = state_of hart; stack = stack; live = live } };
}

-- the slots of a hart, of which one is its stack, and the others are the slots of its blocks
pub record IsOwn (at : ℕ) (hart : Hart) (slots : List ℕ) (blocks : Heap) : Type 0 where
  pub held : slots_of hart.mem.0 ≡ slots
  pub stack : has at slots ≡ true
  pub heap : blocks.slots ≡ minus slots (at ∷ [])

-- what a thread keeps beside its slots and blocks so that it can be packed: register 0 is 0, it stands at a multiple of 4, and its
-- priority is one of the eight
pub record CanTravel (priority : ℕ) (hart : Hart) : Type 0 where
  pub zero : slice_index hart.regs 0 ≡ 0
  pub pc : hart.pc % 4 ≡ 0
  pub low : priority ≤ 7

-- none of the slots of a run is the guest's
abbrev pub IsNew : (first count : ℕ) → Guest → Type 0
IsNew first count g = (s : ℕ) → has s (run first count) ≡ true → has s (guest_slots g) ≡ false
