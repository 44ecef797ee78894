-- What the checks of a call come to in code, and how a thread that asks begins to wait.
use Rattle.std.specs.Prelude.{◌≡◌, ℕ, ◌<◌, ◌≤◌, ◌/◌, ◌%◌, ◌^◌, List, [], Option, Some, None, Result, Ok, Err, true, ⊤}
use Rattle.slot_space.specs.declared.names.Tid.{Tid}
use Rattle.slot_space.specs.declared.names.Reply.{Reply}
use Rattle.iso_blocks.specs.Heap.{starts_at}
use Rattle.marcel_sync.specs.Semaphores.{node_in, number_in}
use Rattle.bubbles.specs.declared.bubble.Did.{Did}
use Rattle.bubbles.specs.Forests.{ForestView, gathers}
use Rattle.run_trace.specs.declared.call.Call.{Call}
use Rattle.run_trace.specs.declared.call.Call.TheVariants.{Create, Join, Detach, SemNew, SemP, SemV, Isomalloc, Isofree, MigrateSelf, Migrate, Print, BubbleNew, CreateIn}
use Rattle.run_trace.specs.declared.packet.Body.{Body}
use Rattle.run_trace.specs.declared.node.Wait.TheVariants as wait
use Rattle.run_trace.specs.Program.{Program}
use Rattle.run_trace.specs.Guests.{Solo, Thread, waits}
use Rattle.run_trace.specs.Calls.{refusal, bytes_of}
use Rattle.run_trace.specs.Bubbles.{no_bubble}
use Rattle.run_trace.specs.Local.{EventSoFar}
use Rattle.run_trace.specs.Steps.{put, keep, asks}
use Rattle.node_thread.specs.Limits.{block_limit}
use Rattle.node_state.specs.declared.call.Checked.{Checked}
use Rattle.node_state.specs.declared.call.Checked.TheVariants.{Refused, Shows, Passed}

-- a call whose checks have passed names an entry, a priority, a depth, a home, a value, a size and a node that fit
abbrev pub IsSmall : Call → Type 0
IsSmall (Create entry argument priority) = (priority ≤ 7) × (entry % 4 ≡ 0)
IsSmall (CreateIn bubble entry argument priority) = (priority ≤ 7) × (entry % 4 ≡ 0)
IsSmall (BubbleNew priority depth) = (priority ≤ 7) × (depth ≤ 2)
IsSmall (Join name) = name / 2 ^ 32 < 256
IsSmall (Detach name) = name / 2 ^ 32 < 256
IsSmall (SemNew value) = value < 2 ^ 31
IsSmall (SemP id) = node_in id < 256
IsSmall (SemV id) = node_in id < 256
IsSmall (Isomalloc len) = (0 < len) × (len ≤ block_limit)
IsSmall (MigrateSelf to) = to < 256
IsSmall (Migrate name to) = to < 256
IsSmall _ = ⊤

-- and a block that is there
abbrev pub NamesBlock : Call → Solo → Type 0
NamesBlock (Isofree address) x = starts_at x.live address ≡ true
NamesBlock _ x = ⊤

abbrev pub HasBlock : ℕ → Option Thread → Type 0
HasBlock address None = ⊤
HasBlock address (Some x) = starts_at x.guest.solo.live address ≡ true

abbrev pub NamesBlockAt : Call → Option Thread → Type 0
NamesBlockAt c None = ⊤
NamesBlockAt c (Some x) = NamesBlock c x.guest.solo

-- the checks of the call look at its numbers alone, and not at the thread's memory or blocks
abbrev pub IsOfNumbers : Call → Type 0
IsOfNumbers (Print address len) = ⊥
IsOfNumbers (Isofree address) = ⊥
IsOfNumbers _ = ⊤

-- the thread is here
abbrev pub IsHere : Option Thread → Type 0
IsHere None = ⊥
IsHere (Some x) = ⊤

abbrev pub IsPrint : Call → Type 0
IsPrint (Print address len) = ⊤
IsPrint _ = ⊥

-- the check that failed, and the bytes that the call names
abbrev pub refused_by : Checked → Option Reply
refused_by (Refused reply) = Some reply
refused_by (Shows bytes) = None
refused_by Passed = None

abbrev pub named_by : Checked → List ℕ
named_by (Refused reply) = []
named_by (Shows bytes) = bytes
named_by Passed = []

-- no check fails, and these are the bytes of the line
pub record CanShow (p : Program) (t : Tid) (x : Solo) (c : Call) (line : List ℕ) : Type 0 where
  pub unrefused : refusal p t x c ≡ None
  pub bytes : line ≡ bytes_of p x.state c
  pub print : IsPrint c

-- no check fails, and the call names no bytes
pub record HasPassed (p : Program) (t : Tid) (x : Solo) (c : Call) : Type 0 where
  pub unrefused : refusal p t x c ≡ None
  pub bytes : [] ≡ bytes_of p x.state c
  pub small : IsSmall c
  pub block : NamesBlock c x

-- the answer of the checks is right for a call of thread t
abbrev pub IsChecked : Program → Tid → Solo → Call → Checked → Type 0
IsChecked p t x c (Refused reply) = refusal p t x c ≡ Some reply
IsChecked p t x c (Shows bytes) = CanShow p t x c bytes
IsChecked p t x c Passed = HasPassed p t x c

-- what a call whose checks have passed can count on, of the thread as it is here
abbrev pub CanBeDone : Call → Option Thread → Checked → Type 0
CanBeDone c o (Refused reply) = ⊤
CanBeDone c o (Shows bytes) = IsPrint c
CanBeDone c o Passed = IsSmall c × NamesBlockAt c o × IsHere o

-- what a bubble that is to gather its members is answered: the forest's word, or the check of its name that fails
abbrev pub AnswersGather : Program → (me name : ℕ) → ForestView → Result Did Reply → Type 0
AnswersGather p me name f (Ok did) = (no_bubble p me name f ≡ None) × (did ≡ (gathers (number_in name) f).answer)
AnswersGather p me name f (Err reply) = no_bubble p me name f ≡ Some reply

-- the thread asks another node, by this packet, and waits for the answer
unfoldable pub asks_by_link : Tid → Call → (to : ℕ) → Body → Thread → EventSoFar → EventSoFar
asks_by_link t c to body x d = put to body (asks t c (keep t (waits wait.ForAnswer x.guest) d))

-- the thread waits for a semaphore of its node
unfoldable pub waits_here : Tid → Thread → EventSoFar → EventSoFar
waits_here t x d = keep t (waits wait.ForSemaphore x.guest) d
