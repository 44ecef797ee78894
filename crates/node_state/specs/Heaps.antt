-- The steps of isomalloc and isofree, looked up where the thread stands.
use Rattle.std.specs.Prelude.{◌+◌, ◌≤◌, ℕ, List, [], ◌∷◌, Option, Some, None, ⊤}
use Rattle.slot_space.specs.declared.names.Tid.{Tid}
use Rattle.slot_space.specs.Limits.{slot_limit}
use Rattle.iso_blocks.specs.Heap.{emptied}
use Rattle.run_trace.specs.declared.label.Label.TheVariants.{Gave}
use Rattle.run_trace.specs.declared.node.Wait.TheVariants as wait
use Rattle.run_trace.specs.Guests.{Thread, waits, heap_of, gives_slots, without_block}
use Rattle.run_trace.specs.Local.{EventSoFar}
use Rattle.run_trace.specs.Steps.{say, keep, slots_in, takes_run}
use Rattle.node_thread.specs.Views.{IsNew}

abbrev pub IsNewAt : (first count : ℕ) → Option Thread → Type 0
IsNewAt first count None = ⊤
IsNewAt first count (Some x) = IsNew first count x.guest

-- the run ends with the last slot or before, and is new to the thread
abbrev pub CanBeTaken : Option Thread → (count first : ℕ) → Type 0
CanBeTaken o count first = (first + count ≤ slot_limit) × IsNewAt first count o

abbrev pub takes_at : Tid → (first count : ℕ) → Thread → EventSoFar → EventSoFar
takes_at t first count x d = takes_run t first count x.guest d

-- the node gets these slots, where there are any, and the label says so
unfoldable pub gives_back : Tid → List ℕ → EventSoFar → EventSoFar
gives_back t [] d = d
gives_back t (s ∷ slots) d = slots_in (s ∷ slots) (say (Gave t (s ∷ slots)) d)

-- the thread's block is gone, and with it the slots that no other block meets
abbrev pub drops_at : Tid → ℕ → Thread → EventSoFar → EventSoFar
drops_at t address x d = keep t (waits wait.No (without_block address (gives_slots (emptied (heap_of x.guest.solo) address) x.guest))) d
