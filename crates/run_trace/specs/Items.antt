-- What an entry has sent and has still to do, in the midst of it, by what the labels tell.
use Rattle.std.specs.Prelude.{ℕ, List, [], ◌∷◌, ◌++◌, Option, Some, None, is_some, Bool, true, false, ◌==◌, if◌then◌else◌}
use Rattle.slot_space.specs.declared.names.Tid.{Tid}
use Rattle.run_trace.specs.declared.entry.Act.{Act}
use Rattle.run_trace.specs.declared.entry.Act.TheVariants.{Take}
use Rattle.run_trace.specs.declared.label.Label.{Label}
use Rattle.run_trace.specs.declared.label.Label.TheVariants.{Born, Ran, Asked, Heard, Judged, Told, Took, Gave, Ended, Known, Left, Came, Decided, Down, Burst, Gathered, Shown, Halted}
use Rattle.run_trace.specs.declared.label.Why.TheVariants as why
use Rattle.run_trace.specs.declared.packet.Body.{Body}
use Rattle.run_trace.specs.declared.packet.Body.TheVariants.{Mover, Show, ShowDone, JoinAsk, DetachAsk, SemAsk, Answer, EndNote, Want, Turn, Over}
use Rattle.run_trace.specs.declared.packet.Packet.{Packet}
use Rattle.run_trace.specs.declared.packet.Send.{Send}
use Rattle.run_trace.specs.Names.{tid, is_tid}
use Rattle.run_trace.specs.Program.{Program}
use Rattle.run_trace.specs.Links.{first_of}
use Rattle.run_trace.specs.Causes.{causes}
use Rattle.run_trace.specs.Calls.{slots_wanted}
use Rattle.run_trace.specs.Bubbles.{Gathering}
use Rattle.run_trace.specs.Talks.{Talk, one_send, want_sends, claiming, with_claims, after_turn, again_sends, again, listing_sends, listing, turn_to, next_turn, without_first}
use Rattle.run_trace.specs.Spots.{Running, Due, Served, Seeks, Told_next, Told_then, Departs, Ends, Leaves, Halts, Showing, Answers, Life, On, Going, Spots, sets_going, its_call, gathered_by_call, lowest_free, after_label, after_labels}

-- ## Whom an entry is busy with

-- A thread in this life is to do something in this entry, on node n. All other lives may stay at an entry's end.
abbrev pub is_busy : ℕ → Life → Bool
is_busy n (On m Running) = m == n
is_busy n (On m (Due code)) = m == n
is_busy n (On m (Served c)) = m == n
is_busy n (On m Told_next) = m == n
is_busy n (On m (Told_then to)) = m == n
is_busy n (On m (Departs to)) = m == n
is_busy n (On m (Ends end)) = m == n
is_busy n (On m (Leaves end)) = m == n
is_busy n (On m Halts) = m == n
is_busy n (On m Showing) = 0 == n
is_busy n (On m (Answers h reply second)) = h == n
is_busy n _ = false

-- what labels and packets are about
pub data Subject : Type 0 where
  Thread : (t : Tid) → Subject
  -- the turns to come to slots of other nodes
  Turns : Subject

abbrev pub same_subject : Subject → Subject → Bool
same_subject (Thread t) (Thread u) = is_tid t u
same_subject Turns Turns = true
same_subject _ _ = false

abbrev pub is_busy_with : ℕ → Subject → Spots → Bool
is_busy_with n (Thread t) w = is_busy n (w.threads t).life
is_busy_with n Turns w = false

-- it seeks slots on node n
abbrev pub is_seeking : ℕ → Life → Bool
is_seeking n (On m Seeks) = m == n
is_seeking n _ = false

-- what a label is about
abbrev pub subject : Label → Option Subject
subject (Born t why entry a0 a1 sp slot) = Some (Thread t)
subject (Ran t vp count stop) = Some (Thread t)
subject (Asked t call args bytes) = Some (Thread t)
subject (Heard t) = Some (Thread t)
subject (Judged t reply extra) = Some (Thread t)
subject (Told t) = Some (Thread t)
subject (Took t first count) = Some (Thread t)
subject (Gave t slots) = Some (Thread t)
subject (Ended t end) = Some (Thread t)
subject (Known t) = Some (Thread t)
subject (Left t to) = Some (Thread t)
subject (Came t) = Some (Thread t)
subject (Decided t count first) = Some (Thread t)
subject (Shown t) = Some (Thread t)
subject (Halted t) = Some (Thread t)
subject _ = None

-- who does what the label says: at a birth the creator; a decision is its node's
abbrev pub doer : Label → Option Subject
doer (Decided t count first) = None
doer (Born t why.Main entry a0 a1 sp slot) = None
doer (Born t (why.Create by) entry a0 a1 sp slot) = Some (Thread by)
doer (Born t (why.Inside by bubble) entry a0 a1 sp slot) = Some (Thread by)
doer l = subject l

abbrev pub as_list : Option Subject → List Subject
as_list None = []
as_list (Some s) = s ∷ []

abbrev pub one_going : Going → Option Subject
one_going None = None
one_going (Some going) = Some (Thread going.0)

-- with whom the entry may go on after a label, in their order: with whom it sets going, then with the doer
abbrev pub goes_on_with : Program → ℕ → Label → Spots → List Subject
goes_on_with p n l w = as_list (one_going (sets_going p n l w)) ++ as_list (doer l)

-- ## What there is to do

pub data Item : Type 0 where
  -- to say just this
  Says : (label : Label) → Item
  -- the choice of this processor, again after each bubble that it moves, and then a run of the thread that it takes
  Chooses : (vp : ℕ) → Item
  -- what comes next for this one
  Does : (s : Subject) → Item
  -- to give this thread, which seeks slots, a run of the node's own; where there is none, it claims one
  Serves : (t : Tid) → Item
  -- the node has the turn: to serve its claims from the front, while it has slots for the first
  Grants : Item
  -- to decide about the claim of this thread
  Decides : (t : Tid) → Item
  -- to end the turn, and to want another one where claims are left
  Ends_turn : Item
  Wants_again : Item

-- what an entry has sent, what it has still to do, the next first, and what its node keeps of the negotiation by then
pub record Progress : Type 0 where
  pub sends : List Send
  pub to_do : List Item
  pub talk : Talk

abbrev pub has_to : List Item → Talk → Progress
has_to to_do talk = record { sends = []; to_do = to_do; talk = talk }

-- ## What is done without a word

-- there is a run of the node's slots for the thread
abbrev pub has_slots : ℕ → Tid → Spots → Bool
has_slots n t w = is_some (lowest_free n (slots_wanted (its_call t w)) w)

-- the first claim is served, or decided; where none is left, the turn is over
abbrev pub grants_first : ℕ → Spots → List Item → List Tid → Progress → Progress → Progress
grants_first n w is [] r over = over
grants_first n w is (t ∷ ts) r over = record r {
  to_do = if has_slots n t w then Serves t ∷ Grants ∷ is else Decides t ∷ Ends_turn ∷ Wants_again ∷ is;
  talk = with_claims ts r.talk;
}

-- the items at the front that say nothing are worked off
abbrev pub works_off : ℕ → Spots → List Item → List Send → Talk → Progress
works_off n w (Serves t ∷ is) sends talk =
    if has_slots n t w then (record { sends = sends; to_do = Serves t ∷ is; talk = talk })
    else works_off n w is (sends ++ want_sends talk) (claiming t talk)
works_off n w (Grants ∷ is) sends talk =
    grants_first n w is talk.claims (record { sends = sends; to_do = []; talk = talk })
    (works_off n w is (sends ++ one_send 0 Over) (after_turn talk))
works_off n w (Ends_turn ∷ is) sends talk = works_off n w is (sends ++ one_send 0 Over) (after_turn talk)
works_off n w (Wants_again ∷ is) sends talk = works_off n w is (sends ++ again_sends talk.claims talk) (again talk.claims talk)
works_off n w is sends talk = record { sends = sends; to_do = is; talk = talk }

abbrev pub worked_off : ℕ → Spots → Progress → Progress
worked_off n w r = works_off n w r.to_do r.sends r.talk

-- ## After a label

abbrev pub all_but_first : List Item → List Item
all_but_first [] = []
all_but_first (i ∷ is) = is

-- a choice goes on where a bubble was moved
abbrev pub rest_after : Label → List Item → List Item
rest_after (Down bubble list) is = is
rest_after (Burst bubble list) is = is
rest_after _ is = all_but_first is

-- a bubble that a call gathers is told first
abbrev pub told_gathered : Option Gathering → List Item
told_gathered None = []
told_gathered (Some g) = Says (Gathered g.bubble g.count) ∷ []

abbrev pub told_first : Program → ℕ → Label → Spots → List Item
told_first p n (Asked t call args bytes) w = told_gathered (gathered_by_call p n t w)
told_first p n _ w = []

-- what there is to do for a thread in this life
abbrev pub items_in : ℕ → Tid → Life → List Item
items_in n t life = if is_busy n life then Does (Thread t) ∷ [] else if is_seeking n life then Serves t ∷ [] else []

abbrev pub items_for : ℕ → List Subject → Spots → List Item
items_for n [] w = []
items_for n (Thread t ∷ ss) w = items_in n t (w.threads t).life ++ items_for n ss w
items_for n (Turns ∷ ss) w = items_for n ss w

-- what there is to do after a label, the next first
abbrev pub to_do_after : Program → ℕ → Label → Spots → List Item → List Item
to_do_after p n l w to_do = told_first p n l w ++ items_for n (goes_on_with p n l w) (after_label p n l w) ++ rest_after l to_do

-- the label is said, and what it causes is sent
abbrev pub said : Program → ℕ → Label → Spots → Progress → Progress
said p n l w r = record { sends = r.sends ++ causes p n l w; to_do = to_do_after p n l w r.to_do; talk = r.talk }

-- after each of these labels, with what is done without a word before each; what is done after the last isn't done yet
abbrev pub said_all : Program → ℕ → List Label → Spots → Progress → Progress
said_all p n [] w r = r
said_all p n (l ∷ ls) w r = said_all p n ls (after_label p n l w) (said p n l w (worked_off n w r))

-- ## How an act begins, where it takes a packet

abbrev pub for_packet : ℕ → Body → List Item
for_packet n (Mover x) = Says (Came x.tid) ∷ []
for_packet n (Show t bytes) = Says (Shown t) ∷ []
for_packet n (ShowDone t) = Says (Told t) ∷ []
for_packet n (JoinAsk by seq) = Says (Heard by) ∷ []
for_packet n (DetachAsk by seq) = Says (Heard by) ∷ []
for_packet n (SemAsk by id up) = Says (Heard by) ∷ []
for_packet n (Answer t reply second) = Says (Told t) ∷ []
for_packet n (EndNote seq end) = Says (Known (tid n seq)) ∷ []
for_packet n Want = []
for_packet n Turn = Grants ∷ []
for_packet n Over = []

-- what is sent for it at once, and what the node keeps of it
abbrev pub packet_sends : ℕ → Body → Talk → List Send
packet_sends from Want talk = listing_sends from talk.wanting
packet_sends from Over talk = turn_to (without_first talk.wanting)
packet_sends from _ talk = []

abbrev pub packet_talk : ℕ → Body → Talk → Talk
packet_talk from Want talk = listing from talk
packet_talk from Over talk = next_turn talk
packet_talk from _ talk = talk

abbrev pub begins_with : (n from : ℕ) → Body → Talk → Progress
begins_with n from body talk = record { sends = packet_sends from body talk; to_do = for_packet n body; talk = packet_talk from body talk }

-- what an act begins with, where it takes a packet
abbrev pub takes_packet : (n from : ℕ) → Option Packet → Talk → Progress
takes_packet n from None talk = has_to [] talk
takes_packet n from (Some x) talk = begins_with n from x.body talk

abbrev pub taking : ℕ → Act → (ℕ → ℕ → List Packet) → Talk → Progress
taking n (Take from) links talk = takes_packet n from (first_of (links from n)) talk
taking n _ links talk = has_to [] talk

-- all that an entry with these labels has sent, and what its node keeps then
abbrev pub ended_with : Program → ℕ → Act → List Label → Spots → (ℕ → ℕ → List Packet) → Talk → Progress
ended_with p n act ls w links talk = worked_off n (after_labels p n ls w) (said_all p n ls w (taking n act links talk))
