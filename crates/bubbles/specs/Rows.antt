-- Bubbles by their numbers, and threads by their names.
use Rattle.std.specs.Prelude.{◌≡◌, ⊤, ℕ, zero, suc, List, [], ◌∷◌, ◌++◌, Bool, true, false, Option, Some, None, slice_get, if◌then◌else◌}
use Rattle.slot_space.specs.declared.names.Tid.{Tid}
use Rattle.levels.specs.declared.entity.Entity.{Entity}
use Rattle.levels.specs.declared.entity.Entity.TheVariants.{Thread}
use Rattle.levels.specs.Rows.{is_entity}
use Rattle.bubbles.specs.declared.bubble.BubbleState.{BubbleState}
use Rattle.bubbles.specs.declared.bubble.BubbleState.TheVariants.{Filling, Held, Queued, Burst as IsBurst}
use Rattle.bubbles.specs.declared.bubble.BubbleRow.{BubbleRow}
use Rattle.bubbles.specs.declared.bubble.KnownThread.{KnownThread}

abbrev pub bubble_row : BubbleState → (priority depth : ℕ) → List Entity → BubbleRow
bubble_row state priority depth members = record { state = state; priority = priority; depth = depth; members = members }

-- ## Bubbles

abbrev pub bubble_of : ℕ → List BubbleRow → Option BubbleRow
bubble_of b bubbles = slice_get bubbles b

abbrev pub bubble_priority : Option BubbleRow → ℕ
bubble_priority None = 0
bubble_priority (Some x) = x.priority

abbrev pub members_of : Option BubbleRow → List Entity
members_of None = []
members_of (Some x) = x.members

-- the bubble of that number has become so
abbrev pub with_state : ℕ → BubbleState → List BubbleRow → List BubbleRow
with_state b state [] = []
with_state zero state (x ∷ xs) = record x { state = state } ∷ xs
with_state (suc b) state (x ∷ xs) = x ∷ with_state b state xs

-- it has become the last member of the bubble of that number
abbrev pub with_member : ℕ → Entity → List BubbleRow → List BubbleRow
with_member b e [] = []
with_member zero e (x ∷ xs) = record x { members = x.members ++ e ∷ [] } ∷ xs
with_member (suc b) e (x ∷ xs) = x ∷ with_member b e xs

abbrev pub is_filling_as : BubbleState → Bool
is_filling_as Filling = true
is_filling_as Held = false
is_filling_as Queued = false
is_filling_as IsBurst = false

abbrev pub is_filling : Option BubbleRow → Bool
is_filling None = false
is_filling (Some x) = is_filling_as x.state

-- ## Threads

abbrev pub known_thread : Tid → (priority last : ℕ) → KnownThread
known_thread t priority last = record { tid = t; priority = priority; last = last }

abbrev pub thread_of : Tid → List KnownThread → Option KnownThread
thread_of t [] = None
thread_of t (x ∷ xs) = if is_entity (Thread x.tid) (Thread t) then Some x else thread_of t xs

abbrev pub thread_priority : Option KnownThread → ℕ
thread_priority None = 0
thread_priority (Some x) = x.priority

abbrev pub last_list : Option KnownThread → ℕ
last_list None = 0
last_list (Some x) = x.last

-- no two have one name
abbrev pub AreNamed : List KnownThread → Type 0
AreNamed [] = ⊤
AreNamed (x ∷ xs) = (thread_of x.tid xs ≡ None) × AreNamed xs

-- a thread that was picked from this list, if it is known
abbrev pub picked_from : ℕ → Option KnownThread → Option KnownThread
picked_from list None = None
picked_from list (Some x) = Some (record x { last = list })

-- the thread was picked from this list
abbrev pub with_last : Tid → ℕ → List KnownThread → List KnownThread
with_last t list [] = []
with_last t list (x ∷ xs) = if is_entity (Thread x.tid) (Thread t) then record x { last = list } ∷ xs else x ∷ with_last t list xs

-- ## What leaves

-- without the first item that passes
abbrev pub first_out : {A : Type 0} → (A → Bool) → List A → List A
first_out passes [] = []
first_out passes (x ∷ xs) = if passes x then xs else x ∷ first_out passes xs

-- the entity is a member of no bubble
abbrev pub without_member : Entity → List BubbleRow → List BubbleRow
without_member e [] = []
without_member e (x ∷ xs) = record x { members = first_out (λ m. is_entity m e) x.members } ∷ without_member e xs

abbrev pub without_thread : Tid → List KnownThread → List KnownThread
without_thread t threads = first_out (λ x. is_entity (Thread x.tid) (Thread t)) threads

-- ## What is filled again

abbrev pub is_burst_as : BubbleState → Bool
is_burst_as Filling = false
is_burst_as Held = false
is_burst_as Queued = false
is_burst_as IsBurst = true

-- the bubble of that number takes members again, and has these
abbrev pub refilled : ℕ → List Entity → List BubbleRow → List BubbleRow
refilled b members [] = []
refilled zero members (x ∷ xs) = bubble_row Filling x.priority x.depth members ∷ xs
refilled (suc b) members (x ∷ xs) = x ∷ refilled b members xs
