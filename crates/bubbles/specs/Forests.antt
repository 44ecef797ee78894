-- The run lists of a node with its bubbles and threads, and how entities come to lists.
use Rattle.std.specs.Prelude.{ℕ, List, [], ◌∷◌, ◌++◌, Option, Some, None, ◌==◌, is_some, length, if◌then◌else◌}
use Rattle.slot_space.specs.declared.names.Tid.{Tid}
use Rattle.levels.specs.declared.entity.Entity.{Entity}
use Rattle.levels.specs.declared.entity.Entity.TheVariants.{Thread, Bubble}
use Rattle.levels.specs.Trees.{Tree}
use Rattle.levels.specs.Rows.{RunLists, empty_lists, arrived, taken_off, place_of}
use Rattle.bubbles.specs.declared.bubble.BubbleState.TheVariants.{Filling, Held, Queued}
use Rattle.bubbles.specs.declared.bubble.BubbleRow.{BubbleRow}
use Rattle.bubbles.specs.declared.bubble.KnownThread.{KnownThread}
use Rattle.bubbles.specs.declared.bubble.Did.{Did}
use Rattle.bubbles.specs.declared.bubble.Did.TheVariants as did
use Rattle.bubbles.specs.Rows.{bubble_row, bubble_of, bubble_priority, members_of, with_state, with_member, is_filling_as, is_filling, known_thread, thread_of, thread_priority, last_list, without_member, without_thread, is_burst_as, refilled}

pub record ForestView : Type 0 where
  pub lists : RunLists
  pub bubbles : List BubbleRow
  pub threads : List KnownThread

abbrev pub empty_forest : Tree → ForestView
empty_forest tree = record { lists = empty_lists tree; bubbles = []; threads = [] }

abbrev pub priority_of : Entity → ForestView → ℕ
priority_of (Thread t) w = thread_priority (thread_of t w.threads)
priority_of (Bubble b) w = bubble_priority (bubble_of b w.bubbles)

-- ## Arrivals

-- a bubble that arrives is Queued
abbrev pub as_queued : Entity → List BubbleRow → List BubbleRow
as_queued (Thread t) bubbles = bubbles
as_queued (Bubble b) bubbles = with_state b Queued bubbles

abbrev pub arrives : ℕ → Entity → ForestView → ForestView
arrives list e w = record w { lists = arrived e list (priority_of e w) w.lists; bubbles = as_queued e w.bubbles }

-- one after another
abbrev pub all_arrive : ℕ → List Entity → ForestView → ForestView
all_arrive list [] w = w
all_arrive list (e ∷ es) w = all_arrive list es (arrives list e w)

abbrev pub off_list : Entity → ForestView → ForestView
off_list e w = record w { lists = taken_off e w.lists }

-- ## Calls

-- what a call on bubbles answers, and the forest after it
pub record Done : Type 0 where
  pub answer : Did
  pub after : ForestView

-- a new bubble has the next number, and no members yet
abbrev pub with_bubble : (priority depth : ℕ) → ForestView → ForestView
with_bubble priority depth w = record w { bubbles = w.bubbles ++ bubble_row Filling priority depth [] ∷ [] }

abbrev pub refused : Did → ForestView → Done
refused answer w = record { answer = answer; after = w }

-- a Filling bubble with members arrives on the root
abbrev pub wakes_filled : List Entity → ℕ → ForestView → Done
wakes_filled [] b w = refused did.BadArgument w
wakes_filled (e ∷ es) b w = record { answer = did.Done 0; after = arrives 0 (Bubble b) w }

abbrev pub wakes_if : Option BubbleRow → ℕ → ForestView → Done
wakes_if None b w = refused did.NoSuch w
wakes_if (Some x) b w = if is_filling_as x.state then wakes_filled x.members b w else refused did.Taken w

abbrev pub wakes : ℕ → ForestView → Done
wakes b w = wakes_if (bubble_of b w.bubbles) b w

-- the bubble is Held, and on its way
abbrev pub holding : ℕ → ForestView → ForestView
holding c w = record w { bubbles = with_state c Held w.bubbles }

-- the entity becomes the last member of the bubble
abbrev pub joined : ℕ → Entity → ForestView → ForestView
joined b e w = record w { bubbles = with_member b e w.bubbles }

-- of two Filling bubbles the second, if it has members, becomes Held, as the last member of the first
abbrev pub inserts_filled : List Entity → (b c : ℕ) → ForestView → Done
inserts_filled [] b c w = refused did.BadArgument w
inserts_filled (e ∷ es) b c w = record { answer = did.Done 0; after = joined b (Bubble c) (holding c w) }

abbrev pub inserts_if : Option BubbleRow → Option BubbleRow → (b c : ℕ) → ForestView → Done
inserts_if None y b c w = refused did.NoSuch w
inserts_if (Some x) None b c w = refused did.NoSuch w
inserts_if (Some x) (Some y) b c w =
    if is_filling_as x.state then (if is_filling_as y.state then inserts_filled y.members b c w else refused did.Taken w) else refused did.Taken w

abbrev pub inserts : (b c : ℕ) → ForestView → Done
inserts b c w = if b == c then refused did.BadArgument w else inserts_if (bubble_of b w.bubbles) (bubble_of c w.bubbles) b c w

-- a thread that goes on arrives on its last list
abbrev pub goes_on : Tid → ForestView → ForestView
goes_on t w = arrives (last_list (thread_of t w.threads)) (Thread t) w

abbrev pub with_thread : Tid → ℕ → ForestView → ForestView
with_thread t priority w = record w { threads = w.threads ++ known_thread t priority 0 ∷ [] }

-- a new thread becomes a member of a Filling bubble, else it arrives on the root
abbrev pub enters_at : Option ℕ → Tid → ForestView → ForestView
enters_at None t w = arrives 0 (Thread t) w
enters_at (Some b) t w = if is_filling (bubble_of b w.bubbles) then joined b (Thread t) w else arrives 0 (Thread t) w

abbrev pub enters : Tid → ℕ → Option ℕ → ForestView → ForestView
enters t priority bubble w = enters_at bubble t (with_thread t priority w)

-- a thread that is known leaves its list, all bubbles and the node
abbrev pub gone : Tid → ForestView → ForestView
gone t w = record { lists = taken_off (Thread t) w.lists; bubbles = without_member (Thread t) w.bubbles; threads = without_thread t w.threads }

abbrev pub leaves : Tid → ForestView → ForestView
leaves t w = if is_some (thread_of t w.threads) then gone t w else w

-- ## Gathering

abbrev pub as_held : Entity → List BubbleRow → List BubbleRow
as_held (Thread t) bubbles = bubbles
as_held (Bubble c) bubbles = with_state c Held bubbles

-- the entity is taken off its list, to be held again
abbrev pub taken_back : Entity → ForestView → ForestView
taken_back e w = record w { lists = taken_off e w.lists; bubbles = as_held e w.bubbles }

-- who is held again, and the forest in which they are on their way
pub record Gathered : Type 0 where
  pub kept : List Entity
  pub after : ForestView

abbrev pub with_kept : Entity → Gathered → Gathered
with_kept e g = record g { kept = e ∷ g.kept }

-- of these entities those that are on a list are taken off it, one after another
abbrev pub all_back : List Entity → ForestView → Gathered
all_back [] w = record { kept = []; after = w }
all_back (e ∷ es) w = if is_some (place_of e w.lists.rows) then with_kept e (all_back es (taken_back e w)) else all_back es w

-- the bubble is a member of no other
abbrev pub apart_from_others : ℕ → ForestView → ForestView
apart_from_others b w = record w { bubbles = without_member (Bubble b) w.bubbles }

abbrev pub filled_with : ℕ → Gathered → Done
filled_with b g = record { answer = did.Done (length g.kept); after = record g.after { bubbles = refilled b g.kept g.after.bubbles } }

abbrev pub members_back : ℕ → ForestView → Gathered
members_back b w = all_back (members_of (bubble_of b w.bubbles)) w

-- a Burst bubble leaves its own parent and takes those of its members back that are on lists, in their order
abbrev pub gathers_if : Option BubbleRow → ℕ → ForestView → Done
gathers_if None b w = refused did.NoSuch w
gathers_if (Some x) b w = if is_burst_as x.state then filled_with b (members_back b (apart_from_others b w)) else refused did.Taken w

abbrev pub gathers : ℕ → ForestView → Done
gathers b w = gathers_if (bubble_of b w.bubbles) b w
