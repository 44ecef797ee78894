-- The rules of a trace, each by what the labels before tell: what a label on node n must have found.
use Rattle.std.specs.Prelude.{◌≡◌, ◌<◌, ℕ, List, [], ◌∷◌, ◌++◌, length, Option, Some, None, true, slice_get, ⊤}
use Rattle.slot_space.specs.Replies.{reply_code}
use Rattle.slot_space.specs.Sets.{has, run}
use Rattle.iso_blocks.specs.Heap.{rounded, place, emptied}
use Rattle.slot_space.specs.declared.names.Tid.{Tid}
use Rattle.rv_step.specs.Run.{after, StopsBy}
use Rattle.marcel_core.specs.Homes.{joiner}
use Rattle.marcel_sync.specs.Semaphores.{node_in, number_in}
use Rattle.rv_step.specs.Step.{HartState}
use Rattle.run_trace.specs.declared.entry.Act.{Act}
use Rattle.run_trace.specs.declared.entry.Act.TheVariants.{Run}
use Rattle.run_trace.specs.declared.entry.Entry.{Entry}
use Rattle.run_trace.specs.declared.label.Label.{Label}
use Rattle.run_trace.specs.declared.label.Label.TheVariants.{Born, Ran, Asked, Heard, Judged, Told, Took, Gave, Ended, Known, Left, Came, Decided, Down, Burst, Gathered, Shown, Halted}
use Rattle.run_trace.specs.declared.label.Why.{Why}
use Rattle.run_trace.specs.declared.label.Why.TheVariants as why
use Rattle.run_trace.specs.declared.label.Extra.{Extra}
use Rattle.run_trace.specs.declared.packet.Packet.{Packet}
use Rattle.run_trace.specs.Names.{tid}
use Rattle.run_trace.specs.Program.{Program, nodes_of, code_of}
use Rattle.run_trace.specs.Guests.{Solo, Guest, stack_start, guest_slots, heap_of}
use Rattle.run_trace.specs.declared.call.Call.{Call}
use Rattle.run_trace.specs.declared.call.Call.TheVariants.{Create, CreateIn, Isomalloc, Isofree, MigrateSelf}
use Rattle.run_trace.specs.Calls.{extra_of, slots_wanted, call_of, number_of, args_of, refusal, said_bytes}
use Rattle.run_trace.specs.Bubbles.{is_listed}
use Rattle.run_trace.specs.World.{World}
use Rattle.run_trace.specs.Spots.{Ready, Running, Due, Served, Seeks, Told_next, Told_then, Departs, Ends, Leaves, Halts, Shows, Showing, Shown_there, Asks, Awaits, Answers, Answered, Detaches, Signals, Life, Unborn, On, Moving, Noting, Spots, Of_node, Of_thread, stack_bytes, stepped, its_call, lowest_free, after_labels}

abbrev pub quantum_in : Act → ℕ
quantum_in (Run vp quantum) = quantum
quantum_in _ = 0

-- in which act a label is said, on which packet, and after which labels of the same entry
pub record Occasion : Type 0 where
  pub act : Act
  pub took : Option Packet
  pub said : List Label

abbrev pub saying : Label → Occasion → Occasion
saying l o = record o { said = o.said ++ l ∷ [] }

-- a rule says of a label on node n, on this occasion, what must have been told before
abbrev pub Rule : Type 1
Rule = Program → Occasion → (n : ℕ) → Label → World → Type 0

-- ## Solo: each thread is its code run alone with the replies that it got

-- with what a thread is born
abbrev pub IsBorn : Program → ℕ → Why → (entry a0 : ℕ) → Spots → Type 0
IsBorn p n why.Main entry a0 w = (entry ≡ p.image.main) × (a0 ≡ 0) × (n ≡ 0)
IsBorn p n (why.Create by) entry a0 w = ((w.threads by).life ≡ On n Seeks) × (priority : ℕ) × (its_call by w ≡ Create entry a0 priority)
IsBorn p n (why.Inside by bubble) entry a0 w =
    ((w.threads by).life ≡ On n Seeks) × (name : ℕ) × (priority : ℕ) × (its_call by w ≡ CreateIn name entry a0 priority) × (bubble ≡ number_in name)
IsBorn p n _ entry a0 w = ⊥

abbrev pub SoloRule : Rule
SoloRule p o n (Born t why entry a0 a1 sp slot) w =
    let bytes : List ℕ = stack_bytes why w.spots.remote in
    IsBorn p n why entry a0 w.spots × (a1 ≡ length bytes) × (sp ≡ stack_start slot (length bytes))
SoloRule p o n (Ran t vp count stop) w =
    let s : HartState = (w.spots.threads t).guest.solo.state in
    (after (code_of p) s count ≡ Some (stepped (code_of p) count s)) × StopsBy (code_of p) (stepped (code_of p) count s) (quantum_in o.act) count stop
SoloRule p o n (Asked t call args bytes) w =
    let x : Solo = (w.spots.threads t).guest.solo in let c : Call = call_of x.state in
    (call ≡ number_of c) × (args ≡ args_of c) × (bytes ≡ said_bytes p x.state c (refusal p t x c))
SoloRule p o n _ w = ⊤

-- ## Holders: a slot goes only from the holder that the rule names

abbrev pub HoldersRule : Rule
HoldersRule p o n (Born t why entry a0 a1 sp slot) w = w.spots.slots slot ≡ Of_node n
HoldersRule p o n (Took t first count) w = (s : ℕ) → has s (run first count) ≡ true → w.spots.slots s ≡ Of_node n
HoldersRule p o n (Gave t slots) w = (s : ℕ) → has s slots ≡ true → w.spots.slots s ≡ Of_thread t
HoldersRule p o n _ w = ⊤

-- ## Life: what a thread goes through, in this order. What moves bubbles is no thread's; what has to be said of them next is said by what there
-- is to do

abbrev pub MayJudge : ℕ → Life → Type 0
MayJudge n (On m (Due code)) = m ≡ n
MayJudge n (On m (Served c)) = m ≡ n
MayJudge n (On m Showing) = n ≡ 0
MayJudge n (On m (Answers h reply second)) = h ≡ n
MayJudge n _ = ⊥

-- a thread is told only where it is
abbrev pub MayTell : ℕ → Life → Type 0
MayTell n (On m Told_next) = m ≡ n
MayTell n (On m (Told_then to)) = m ≡ n
MayTell n (On m Shown_there) = m ≡ n
MayTell n (On m (Answered h)) = m ≡ n
MayTell n _ = ⊥

abbrev pub MayHear : ℕ → Life → Type 0
MayHear n (On m (Asks u)) = u.home ≡ n
MayHear n (On m (Detaches u)) = u.home ≡ n
MayHear n (On m (Signals id up)) = node_in id ≡ n
MayHear n _ = ⊥

abbrev pub MayTake : ℕ → Life → Type 0
MayTake n (On m Seeks) = m ≡ n
MayTake n _ = ⊥

-- a thread that ends gives all its slots; one that frees a block gives the heap slots that no other block meets, where there are any
abbrev pub MayGive : ℕ → Life → Guest → List ℕ → Type 0
MayGive n (On m (Ends end)) g slots = (m ≡ n) × (slots ≡ guest_slots g)
MayGive n (On m (Served (Isofree address))) g slots = (m ≡ n) × (slots ≡ emptied (heap_of g.solo) address) × (slots ≡ [] → ⊥)
MayGive n _ g slots = ⊥

-- a thread leaves for another node of the cluster, from a run list or by a call
abbrev pub MayLeave : ℕ → ℕ → Life → Type 0
MayLeave n to (On m Ready) = m ≡ n
MayLeave n to (On m (Departs other)) = (m ≡ n) × (other ≡ to)
MayLeave n to _ = ⊥

-- and comes there
abbrev pub MayCome : ℕ → Life → Type 0
MayCome n (Moving from to) = to ≡ n
MayCome n _ = ⊥

abbrev pub MayShow : ℕ → Life → Type 0
MayShow n (On m (Shows bytes)) = n ≡ 0
MayShow n _ = ⊥

abbrev pub MayKnow : Life → Type 0
MayKnow (Noting m end) = ⊤
MayKnow _ = ⊥

-- the joiner that is to be answered awaits this end
abbrev pub JoinerAwaits : Tid → Option (Tid × ℕ) → Spots → Type 0
JoinerAwaits t None w = ⊤
JoinerAwaits t (Some by) w = (w.threads by.0).life ≡ On by.1 (Awaits t)

abbrev pub LifeRule : Rule
LifeRule p o n (Born t why entry a0 a1 sp slot) w = ((w.spots.threads t).life ≡ Unborn) × (t ≡ tid n (length (w.spots.births n)))
LifeRule p o n (Ran t vp count stop) w = ((w.spots.threads t).life ≡ On n Ready) × (is_listed t (w.spots.forests n) ≡ true)
LifeRule p o n (Asked t call args bytes) w = (w.spots.threads t).life ≡ On n Running
LifeRule p o n (Heard t) w = MayHear n (w.spots.threads t).life
LifeRule p o n (Judged t reply extra) w = MayJudge n (w.spots.threads t).life
LifeRule p o n (Told t) w = MayTell n (w.spots.threads t).life
LifeRule p o n (Took t first count) w = MayTake n (w.spots.threads t).life
LifeRule p o n (Gave t slots) w = MayGive n (w.spots.threads t).life (w.spots.threads t).guest slots
LifeRule p o n (Ended t end) w = (w.spots.threads t).life ≡ On n (Leaves end)
LifeRule p o n (Known t) w =
    MayKnow (w.spots.threads t).life × (t.home ≡ n) × JoinerAwaits t (joiner (slice_get (w.spots.births t.home) t.seq)) w.spots
LifeRule p o n (Left t to) w =
    MayLeave n to (w.spots.threads t).life × (is_listed t (w.spots.forests n) ≡ true) × (to < nodes_of p) × (to ≡ n → ⊥)
LifeRule p o n (Came t) w = MayCome n (w.spots.threads t).life
LifeRule p o n (Decided t count first) w = (w.spots.threads t).life ≡ On n Seeks
LifeRule p o n (Down bubble list) w = ⊤
LifeRule p o n (Burst bubble list) w = ⊤
LifeRule p o n (Gathered bubble count) w = ⊤
LifeRule p o n (Shown t) w = MayShow n (w.spots.threads t).life
LifeRule p o n (Halted t) w = (w.spots.threads t).life ≡ On n Halts
LifeRule p o n _ w = ⊥

-- ## Replies: each is the library's

-- the reply of a call that its node serves: to isomalloc the place of its block; to isofree 0, once no slot is left to be given; to
-- migrate_self 0, before the thread leaves
abbrev pub IsServed : Call → Guest → ℕ → Type 0
IsServed (Isomalloc len) g reply = place (heap_of g.solo) (rounded len) ≡ Some reply
IsServed (Isofree address) g reply = (reply ≡ 0) × (emptied (heap_of g.solo) address ≡ [])
IsServed (MigrateSelf to) g reply = reply ≡ 0
IsServed _ g reply = ⊥

abbrev pub IsReply : Life → Guest → ℕ → Extra → Type 0
IsReply (On m (Due code)) g reply extra = (reply ≡ code) × (extra ≡ extra_of None)
IsReply (On m (Served c)) g reply extra = IsServed c g reply × (extra ≡ extra_of None)
IsReply (On m Showing) g reply extra = (reply ≡ 0) × (extra ≡ extra_of None)
IsReply (On m (Answers h answer second)) g reply extra = (reply ≡ reply_code answer) × (extra ≡ extra_of second)
IsReply _ g reply extra = ⊤

abbrev pub RepliesRule : Rule
RepliesRule p o n (Judged t reply extra) w = IsReply (w.spots.threads t).life (w.spots.threads t).guest reply extra
RepliesRule p o n _ w = ⊤

-- ## Grants: the lowest run of the node's slots; it is decided that there is none only where it has none

-- a block takes as many slots as it needs
abbrev pub IsForBlock : Call → ℕ → Type 0
IsForBlock (Isomalloc len) count = count ≡ slots_wanted (Isomalloc len)
IsForBlock _ count = ⊥

abbrev pub GrantsRule : Rule
GrantsRule p o n (Born t why entry a0 a1 sp slot) w = lowest_free n 1 w.spots ≡ Some slot
GrantsRule p o n (Took t first count) w =
    IsForBlock (its_call t w.spots) count × (lowest_free n count w.spots ≡ Some first)
GrantsRule p o n (Decided t count first) w =
    (count ≡ slots_wanted (its_call t w.spots)) × (lowest_free n count w.spots ≡ None) × (first ≡ None)
GrantsRule p o n _ w = ⊤

-- what the labels of a trace tell, newest entry first
abbrev pub spots_of : Program → Spots → List Entry → Spots
spots_of p old [] = old
spots_of p old (x ∷ xs) = after_labels p x.node x.labels (spots_of p old xs)
