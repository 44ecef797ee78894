-- What it means that nodes and links stand for what the labels tell: each list has exactly its part of it.
use Rattle.std.specs.Prelude.{◌≡◌, ◌≤◌, ◌+◌, ℕ, List, [], ◌∷◌, ◌++◌, All, map, Option, Some, None, true, Bool, false, ◌==◌, ◌&&◌, nat_lt, if◌then◌else◌, slice_get, ⊤}
use Rattle.slot_space.specs.Replies.{reply_code}
use Rattle.slot_space.specs.Sets.{has, minus}
use Rattle.iso_blocks.specs.Bytes.{in_blocks, in_slots}
use Rattle.iso_blocks.specs.Heap.{without}
use Rattle.slot_space.specs.declared.names.Tid.{Tid}
use Rattle.marcel_core.specs.declared.end.End.{End}
use Rattle.marcel_core.specs.declared.birth.Birth.{Birth}
use Rattle.marcel_core.specs.declared.birth.Birth.TheVariants.{Lives, Awaited, Detached, Ended, Over}
use Rattle.marcel_sync.specs.Semaphores.{IsSemaphore, node_in, number_in, waiters_at}
use Rattle.pack_thread.specs.Threads.{PackedThread as Packed}
use Rattle.run_trace.specs.declared.label.Extra.{Extra}
use Rattle.run_trace.specs.declared.label.Extra.TheVariants.{Nothing}
use Rattle.run_trace.specs.declared.packet.Body.{Body}
use Rattle.run_trace.specs.declared.packet.Body.TheVariants.{Mover, Show, ShowDone, JoinAsk, DetachAsk, SemAsk, Answer, EndNote, Want, Turn, Over}
use Rattle.run_trace.specs.declared.packet.Packet.{Packet}
use Rattle.run_trace.specs.declared.node.Wait.{Wait}
use Rattle.run_trace.specs.declared.node.Wait.TheVariants as wait
use Rattle.run_trace.specs.Names.{is_tid, tid}
use Rattle.run_trace.specs.Program.{Program, nodes_of, tree_of}
use Rattle.run_trace.specs.Guests.{Guest, Thread, waits, guest_slots, packed}
use Rattle.run_trace.specs.Local.{Local}
use Rattle.bubbles.specs.declared.bubble.KnownThread.{KnownThread}
use Rattle.bubbles.specs.Rows.{thread_of}
use Rattle.bubbles.specs.Forests.{ForestView}
use Rattle.bubbles.specs.Standing.{IsForest, seats}
use Rattle.bubbles.specs.Covering.{AreCovered}
use Rattle.run_trace.specs.Bubbles.{is_listed}
use Rattle.run_trace.specs.Calls.{extra_of}
use Rattle.run_trace.specs.Cluster.{Net}
use Rattle.run_trace.specs.Keyed.{about, StandsFor, MapStandsFor}
use Rattle.run_trace.specs.Talks.{Talk, is_first}
use Rattle.run_trace.specs.declared.call.Call.{Call}
use Rattle.run_trace.specs.declared.call.Call.TheVariants.{Create, CreateIn, Isomalloc, Isofree}
use Rattle.run_trace.specs.Spots.{Stage, Ready, Served, Seeks, Departs, Leaves, Stays, Shows, Showing, Shown_there, Asks, Awaits, Answers, Answered, Detaches, Signals, Queues, Life, Unborn, On, Moving, Noting, Gone, Response, Spot, Spots, Holder, Of_thread, is_free, its_call}
use Rattle.run_trace.specs.Items.{Item, Serves, Grants, Decides, Ends_turn, Wants_again, is_busy, is_seeking, Subject, Thread as Thread_of, Turns, same_subject}

-- ## The threads of a node: those that are there, but one that has given its slots

-- for what it waits on node n: for the answer of another node, where it has asked there
abbrev pub wait_of : ℕ → Stage → Wait
wait_of n (Shows bytes) = wait.ForShow
wait_of n Showing = wait.ForShow
wait_of n Shown_there = wait.ForShow
wait_of n (Asks u) = wait.ForAnswer
wait_of n (Awaits u) = wait.ForAnswer
wait_of n (Answers h reply second) = wait.ForAnswer
wait_of n (Answered h) = wait.ForAnswer
wait_of n (Detaches u) = wait.ForAnswer
wait_of n (Signals id up) = wait.ForAnswer
wait_of n (Queues id) = if node_in id == n then wait.ForSemaphore else wait.ForAnswer
wait_of n Seeks = wait.ForSlots
wait_of n Stays = wait.Halted
wait_of n _ = wait.No

abbrev pub thread_in_stage : ℕ → Stage → Guest → Option Thread
thread_in_stage n (Leaves end) g = None
thread_in_stage n stage g = Some (waits (wait_of n stage) g)

abbrev pub thread_in_life : ℕ → Life → Guest → Option Thread
thread_in_life n (On m stage) g = if m == n then thread_in_stage n stage g else None
thread_in_life n _ g = None

abbrev pub thread_part : ℕ → Tid → Spot → Option Thread
thread_part n t s = thread_in_life n s.life s.guest

-- ## The run lists and bubbles: each thread that waits for nothing has one place

-- how often a thread in this life stands on a list or in a bubble that isn't burst
abbrev pub seats_in_stage : Stage → ℕ
seats_in_stage Ready = 1
seats_in_stage (Departs to) = 1
seats_in_stage _ = 0

abbrev pub seats_in_life : ℕ → Life → ℕ
seats_in_life n (On m stage) = if m == n then seats_in_stage stage else 0
seats_in_life n _ = 0

-- with which priority node n knows a thread in this life
abbrev pub priority_in_life : ℕ → Life → Guest → Option ℕ
priority_in_life n (On m stage) g = if m == n then Some g.priority else None
priority_in_life n _ g = None

abbrev pub known_priority : Option KnownThread → Option ℕ
known_priority None = None
known_priority (Some x) = Some x.priority

-- the forest of node n: it knows exactly the threads that are there, with their priorities; those have a place that wait for nothing; and who is
-- sent away by another's call is on a list
pub record AreSeated (p : Program) (n : ℕ) (w : Spots) : Type 0 where
  pub tree : (w.forests n).lists.tree ≡ tree_of p
  pub forest : IsForest (w.forests n)
  pub known : (t : Tid) → known_priority (thread_of t (w.forests n).threads) ≡ priority_in_life n (w.threads t).life (w.threads t).guest
  pub seats : (t : Tid) → seats t (w.forests n) ≡ seats_in_life n (w.threads t).life
  pub departs : (t : Tid) (to : ℕ) → (w.threads t).life ≡ On n (Departs to) → is_listed t (w.forests n) ≡ true

-- ## In the midst of an event: the threads that node n is busy with

pub record Busy : Type 0 where
  pub tid : Tid
  pub life : Life

abbrev pub busy : Tid → Life → Busy
busy t life = record { tid = t; life = life }

abbrev pub busy_name : Busy → Tid
busy_name x = x.tid

abbrev pub busy_part : ℕ → Tid → Spot → Option Busy
busy_part n t s = if is_busy n s.life then Some (busy t s.life) else None

-- ## In its midst: the threads that seek slots on node n, those that the event is to serve and those that claim them

abbrev pub itself : Tid → Tid
itself t = t

abbrev pub seeker_part : ℕ → Tid → Spot → Option Tid
seeker_part n t s = if is_seeking n s.life then Some t else None

abbrev pub serving : List Item → List Tid
serving [] = []
serving (Serves t ∷ is) = t ∷ serving is
serving (Decides t ∷ is) = t ∷ serving is
serving (i ∷ is) = serving is

-- ## Links: what is under way of each subject; of a thread at most one packet as yet, which is the thread itself where it moves

-- what a packet says of a thread, or of a turn to come to slots of other nodes
pub data Word : Type 0 where
  Travels : (x : Packed) → Word
  Line : (t : Tid) (bytes : List ℕ) → Word
  Line_shown : (t : Tid) (code : ℕ) (extra : Extra) → Word
  Joins : (t u : Tid) → Word
  Detaching : (t u : Tid) → Word
  Signalling : (t : Tid) (id : ℕ) (up : Bool) → Word
  Reply : (t : Tid) (code : ℕ) (extra : Extra) → Word
  Ended_word : (t : Tid) (end : End) → Word
  A_want : Word
  A_turn : Word
  An_over : Word

abbrev pub word_subject : Word → Subject
word_subject (Travels x) = Thread_of x.tid
word_subject (Line t bytes) = Thread_of t
word_subject (Line_shown t code extra) = Thread_of t
word_subject (Joins t u) = Thread_of t
word_subject (Detaching t u) = Thread_of t
word_subject (Signalling t id up) = Thread_of t
word_subject (Reply t code extra) = Thread_of t
word_subject (Ended_word t end) = Thread_of t
word_subject A_want = Turns
word_subject A_turn = Turns
word_subject An_over = Turns

-- of a packet on a link to node j
abbrev pub word_of : ℕ → Body → Word
word_of j (Mover x) = Travels x
word_of j (Show t bytes) = Line t bytes
word_of j (ShowDone t) = Line_shown t 0 Nothing
word_of j (JoinAsk by seq) = Joins by (tid j seq)
word_of j (DetachAsk by seq) = Detaching by (tid j seq)
word_of j (SemAsk by id up) = Signalling by id up
word_of j (Answer t reply second) = Reply t (reply_code reply) (extra_of second)
word_of j (EndNote seq end) = Ended_word (tid j seq) end
word_of j Want = A_want
word_of j Turn = A_turn
word_of j Over = An_over

abbrev pub words_of : ℕ → List Packet → List Word
words_of j [] = []
words_of j (p ∷ ps) = word_of j p.body ∷ words_of j ps

-- the word, and the link that carries it
pub record Way : Type 0 where
  pub from : ℕ
  pub to : ℕ
  pub word : Word

abbrev pub way : ℕ → ℕ → Word → List Way
way from to word = (record { from = from; to = to; word = word }) ∷ []

-- what is under way of a thread, oldest first
abbrev pub ways_of : Tid → Life → Response → Guest → List Way
ways_of t (Moving m to) v g = way m to (Travels (packed t g))
ways_of t (On m (Shows bytes)) v g = way m 0 (Line t bytes)
ways_of t (On m Shown_there) v g = way 0 m (Line_shown t v.code v.extra)
ways_of t (On m (Asks u)) v g = way m u.home (Joins t u)
ways_of t (On m (Detaches u)) v g = way m u.home (Detaching t u)
ways_of t (On m (Signals id up)) v g = way m (node_in id) (Signalling t id up)
ways_of t (On m (Answered h)) v g = way h m (Reply t v.code v.extra)
ways_of t (Noting m end) v g = way m t.home (Ended_word t end)
ways_of t _ v g = []

abbrev pub on_link : ℕ → ℕ → List Way → List Word
on_link i j [] = []
on_link i j (x ∷ xs) = if x.from == i && x.to == j then x.word ∷ on_link i j xs else on_link i j xs

abbrev pub words_about : List Word → Subject → List Word
words_about xs s = about same_subject word_subject xs s

-- the packets of a thread on the link from i to j
abbrev pub link_part : ℕ → ℕ → Tid → (Tid → Spot) → List Word
link_part i j t w = on_link i j (ways_of t (w t).life (w t).verdict (w t).guest)

-- ## Turns: which packets of turns are under way, and what the nodes keep of them

abbrev pub count_by : (Word → ℕ) → List Word → ℕ
count_by f [] = 0
count_by f (x ∷ xs) = f x + count_by f xs

abbrev pub one_want : Word → ℕ
one_want A_want = 1
one_want _ = 0

abbrev pub one_turn : Word → ℕ
one_turn A_turn = 1
one_turn _ = 0

abbrev pub one_over : Word → ℕ
one_over An_over = 1
one_over _ = 0

-- how many ends of a turn stand behind a wish for one
abbrev pub late_overs : List Word → ℕ
late_overs [] = 0
late_overs (A_want ∷ xs) = count_by one_over xs
late_overs (x ∷ xs) = late_overs xs

abbrev pub one_if : Bool → ℕ
one_if true = 1
one_if false = 0

abbrev pub some_of : List Tid → ℕ
some_of [] = 0
some_of (t ∷ ts) = 1

-- how often a node stands in the list
abbrev pub times_in : ℕ → List ℕ → ℕ
times_in n [] = 0
times_in n (k ∷ ks) = one_if (k == n) + times_in n ks

-- the event is to end the turn of its node; it is to want another one
abbrev pub turns_among : List Item → ℕ
turns_among [] = 0
turns_among (Grants ∷ is) = 1 + turns_among is
turns_among (Ends_turn ∷ is) = 1 + turns_among is
turns_among (i ∷ is) = turns_among is

abbrev pub wants_among : List Item → ℕ
wants_among [] = 0
wants_among (Wants_again ∷ is) = 1 + wants_among is
wants_among (i ∷ is) = wants_among is

-- An event may be in its midst: to_do is what each node's has still to do. Each is one equation of a node, or of a link.
pub record AreInTurn (talks : ℕ → Talk) (links : ℕ → ℕ → List Word) (to_do : ℕ → List Item) : Type 0 where
  -- the first of the list has the turn: it is under way to it, or there, or its end is under way; no other node has one
  pub turn : (i : ℕ) → count_by one_turn (links 0 i) + turns_among (to_do i) + count_by one_over (links i 0) ≡ one_if (is_first i (talks 0).wanting)
  -- a node that wants a turn is in the list, or its wish is under way
  pub want : (i : ℕ) → times_in i (talks 0).wanting + count_by one_want (links i 0) ≡ one_if (talks i).wants + count_by one_over (links i 0)
  pub once : (i : ℕ) → times_in i (talks 0).wanting ≤ 1
  pub order : (i : ℕ) → late_overs (links i 0) ≡ 0
  -- a node with a claim wants a turn
  pub claims : (i : ℕ) → some_of (talks i).claims ≤ one_if (talks i).wants + wants_among (to_do i)
  -- only node 0 sends turns, and only to it the others go
  pub to_zero : (i j : ℕ) → (j ≡ 0 → ⊥) → count_by one_want (links i j) + count_by one_over (links i j) ≡ 0
  pub from_zero : (i j : ℕ) → (i ≡ 0 → ⊥) → count_by one_turn (links i j) ≡ 0

-- ## A node, and what all nodes share

-- node n in the state s, busy with these, and about to serve those
pub record Here (n : ℕ) (w : Spots) (s : Local) (hand : List Busy) (served : List Tid) : Type 0 where
  pub threads : MapStandsFor is_tid (thread_part n) s.threads w.threads
  pub forest : s.forest ≡ w.forests n
  pub busy : StandsFor is_tid busy_name (busy_part n) hand w.threads
  pub seekers : StandsFor is_tid itself (seeker_part n) (served ++ s.talk.claims) w.threads
  pub births : s.births ≡ w.births n
  pub sems : s.sems ≡ w.sems n
  pub free : (x : ℕ) → has x s.slots.free ≡ is_free n (w.slots x)
  pub halted : s.halted ≡ w.halts n

-- ## Queues: the threads that wait for a semaphore, with their nodes

abbrev pub waiter_name : Tid × ℕ → Tid
waiter_name x = x.0

-- of semaphore k of node h
abbrev pub waiter_in_life : (h k : ℕ) → Tid → Life → Option (Tid × ℕ)
waiter_in_life h k t (On m (Queues id)) = if node_in id == h && number_in id == k then Some (t, m) else None
waiter_in_life h k t _ = None

abbrev pub waiter_part : (h k : ℕ) → Tid → Spot → Option (Tid × ℕ)
waiter_part h k t s = waiter_in_life h k t s.life

-- what a home knows of a life
pub data Phase : Type 0 where
  Before : Phase
  During : Phase
  After : Phase

abbrev pub phase_of : Life → Phase
phase_of Unborn = Before
phase_of (On n stage) = During
phase_of (Moving n to) = During
phase_of (Noting n end) = During
phase_of (Gone end) = After

abbrev pub phase_at : Option Birth → Phase
phase_at None = Before
phase_at (Some Lives) = During
phase_at (Some (Awaited by at)) = During
phase_at (Some Detached) = During
phase_at (Some (Ended end)) = After
phase_at (Some Over) = After

abbrev pub is_thread : Tid → Holder → Bool
is_thread t (Of_thread u) = is_tid t u
is_thread t _ = false

-- what a thread holds: its slots, which of them is its stack, and its blocks
pub record Holding : Type 0 where
  pub slots : List ℕ
  pub stack : ℕ
  pub live : List (ℕ × ℕ)

abbrev pub holding_of : Guest → Holding
holding_of g = record { slots = guest_slots g; stack = g.solo.stack; live = g.solo.live }

-- a block that is being freed no longer counts
abbrev pub kept_by : Call → List (ℕ × ℕ) → List (ℕ × ℕ)
kept_by (Isofree address) live = without live address
kept_by _ live = live

abbrev pub held_in_stage : Stage → Guest → Option Holding
held_in_stage (Leaves end) g = None
held_in_stage (Served c) g = Some (record (holding_of g) { live = kept_by c g.solo.live })
held_in_stage _ g = Some (holding_of g)

-- what a thread holds in this life; None where it holds nothing
abbrev pub held : Life → Guest → Option Holding
held (On n stage) g = held_in_stage stage g
held (Moving n to) g = Some (holding_of g)
held _ g = None

abbrev pub slots_held : Option Holding → List ℕ
slots_held None = []
slots_held (Some h) = h.slots

-- the stack is among the slots, and all bytes of blocks lie in the others
pub record IsWell (h : Holding) : Type 0 where
  pub stack : has h.stack h.slots ≡ true
  pub blocks : (x : ℕ) → in_blocks h.live x ≡ true → in_slots (minus h.slots (h.stack ∷ [])) x ≡ true

abbrev pub IsWellHeld : Option Holding → Type 0
IsWellHeld None = ⊤
IsWellHeld (Some h) = IsWell h

-- a call for which its thread may seek slots
abbrev pub WantsSlots : Call → Type 0
WantsSlots (Create entry argument priority) = ⊤
WantsSlots (CreateIn bubble entry argument priority) = ⊤
WantsSlots (Isomalloc len) = ⊤
WantsSlots _ = ⊥

-- homes, births, joiners, semaphores, halts, those that seek slots, slots and blocks agree
pub record Agrees (p : Program) (w : Spots) : Type 0 where
  pub homes : (t : Tid) → nat_lt t.home (nodes_of p) ≡ false → (w.threads t).life ≡ Unborn
  pub named : (t : Tid) → phase_at (slice_get (w.births t.home) t.seq) ≡ phase_of (w.threads t).life
  pub awaits : (t by : Tid) (at : ℕ) → slice_get (w.births t.home) t.seq ≡ Some (Awaited by at) → (w.threads by).life ≡ On at (Awaits t)
  pub waits : (t by : Tid) (at : ℕ) → (w.threads by).life ≡ On at (Awaits t) → slice_get (w.births t.home) t.seq ≡ Some (Awaited by at)
  pub sems : (n : ℕ) → All IsSemaphore (w.sems n)
  pub queues : (h k : ℕ) → StandsFor is_tid waiter_name (waiter_part h k) (waiters_at k (w.sems h)) w.threads
  pub signals : (t : Tid) (n id : ℕ) (up : Bool) → (w.threads t).life ≡ On n (Signals id up) → (node_in id == n) ≡ false
  pub stays : (t : Tid) (n : ℕ) → (w.threads t).life ≡ On n Stays → w.halts n ≡ true
  pub seeks : (t : Tid) (n : ℕ) → (w.threads t).life ≡ On n Seeks → WantsSlots (its_call t w)
  pub slots : (t : Tid) (x : ℕ) → has x (slots_held (held (w.threads t).life (w.threads t).guest)) ≡ is_thread t (w.slots x)
  pub blocks : (t : Tid) → IsWellHeld (held (w.threads t).life (w.threads t).guest)

-- the nodes and links are exactly their parts of what the labels tell
pub record Stands (p : Program) (w : Spots) (net : Net) : Type 0 where
  pub nodes : (n : ℕ) → Here n w (net.nodes n) [] []
  pub links : (i j : ℕ) (t : Tid) → words_about (words_of j (net.links i j)) (Thread_of t) ≡ link_part i j t w.threads
  pub turns : AreInTurn (λ n. (net.nodes n).talk) (λ i j. words_about (words_of j (net.links i j)) Turns) (λ n. [])
  pub agrees : Agrees p w
  pub seated : (n : ℕ) → AreSeated p n w
  pub covered : (n : ℕ) → AreCovered (w.forests n)
