-- Consequences: no thread is at two places, no slot has two holders, and a thread is its code run alone.
use Rattle.std.proofs.Common.{◌≡◌, ℕ, List, [], ◌∷◌, Option, Some, None, Bool, true, false, eqb, cond, refl, sym, ap, ◌∙◌, arith, inl, inr, subst}
use Rattle.marcel_sync.specs.declared.sem.SemRow.{SemRow}
use Rattle.marcel_sync.specs.Semaphores.{node_in}
use Rattle.std.proofs.lemmas.Bool.{eqb-true}
use Rattle.rv_step.specs.Step.{HartState}
use Rattle.rv_step.specs.declared.hart.Stop.{Stop}
use Rattle.rv_step.specs.declared.hart.Stop.TheVariants as stops
use Rattle.slot_space.specs.Sets.{has, run}
use Rattle.slot_space.specs.declared.names.Tid.{Tid}
use Rattle.slot_space.specs.declared.names.Reply.{Reply}
use Rattle.slot_space.specs.declared.names.Reply.TheVariants as replies
use Rattle.slot_space.specs.Replies.{tid_value}
use Rattle.marcel_core.specs.declared.birth.Birth.{Birth}
use Rattle.run_trace.specs.declared.call.Call.{Call}
use Rattle.run_trace.specs.declared.call.Call.TheVariants.{Create, CreateIn, SemP, SemV, Isomalloc, Migrate}
use Rattle.iso_blocks.specs.Heap.{rounded, place}
use Rattle.run_trace.specs.declared.entry.Entry.{Entry}
use Rattle.run_trace.specs.declared.label.Label.{Label}
use Rattle.run_trace.specs.declared.label.Label.TheVariants.{Born, Ran, Asked, Heard, Judged, Told, Took, Gave, Ended, Known, Left, Came, Lent, InHand, Decided, Returned, Home, Down, Burst, Gathered, Shown, Halted, Dropped}
use Rattle.run_trace.specs.declared.label.Why.{Why}
use Rattle.run_trace.specs.declared.label.Why.TheVariants as why
use Rattle.run_trace.specs.Names.{is_tid, tid_of}
use Rattle.run_trace.specs.Program.{Program, code_of}
use Rattle.run_trace.specs.Calls.{call_of, refusal}
use Rattle.run_trace.specs.Bubbles.{is_listed, not_filling}
use Rattle.run_trace.specs.Guests.{Solo, Guest, Thread, waits, guest_slots, heap_of, told, takes_slots, gives_slots, packed, unpacked}
use Rattle.run_trace.specs.declared.packet.Body.{Body}
use Rattle.run_trace.specs.declared.packet.Body.TheVariants.{Mover}
use Rattle.run_trace.specs.declared.packet.Packet.{Packet}
use Rattle.run_trace.specs.Cluster.{Net}
use Rattle.run_trace.specs.World.{World, world_after}
use Rattle.run_trace.specs.Trace.{net_after_trace}
use Rattle.trace_laws.specs.Obeys.{Obey, world_at, ObeyEach, AgreesRule}
use Rattle.run_trace.specs.Rules.{Occasion, saying, spots_of, IsBorn, MayHear, MayJudge, MayTell, MayTake, MayGive, MayKnow, MayLeave, MayCome, MayShow, SoloRule, LifeRule}
use Rattle.run_trace.specs.Obeying.{occasion}
use Rattle.run_trace.specs.Spots.{Remote, Stage, Signals, Life, Unborn, On, Moving, Noting, Gone, Response, Spot, Spots, Holder, Of_node, Of_thread, update, creator_served, at_first, after_label, after_labels, stepped, ran_stage, ran_spot, Going, sent_stage, placing_stage, entering_stage, passed_stage, solo_of, its_call, going_by_call, wakes_heard, sets_going, set_going, asked_stage, heard_at, judged_life, judged_guest, told_stage, took_life, decided_going, gave_life, shown_life, second_of, remote_after}
use Rattle.run_trace.specs.Stands.{Stands, thread_part, thread_in_life, thread_in_stage, held, slots_held, Word, Travels, word_subject, word_of, words_of, words_about, ways_of, on_link}
use Rattle.run_trace.specs.Alone.{Alone, alone_then, alone_after, alone_in, alone_of, asked_in, heap_call, unless_refused, answered, is_about, EachRunsAlone, remote_in, remote_of}
use Rattle.run_trace.specs.Holding.{Location, On_node, On_link, IsAmong, IsAt, Has, EachHeldOnce}
use Rattle.run_trace.proofs.Lemmas.{is-true, is-refl}
use Rattle.trace_laws.proofs.Lives.Signals.{OfSignals, answered_by, signal_by, signal_asked_by}
use Rattle.trace_laws.proofs.Lives.Goings.{MayGo, Wakes, IsSent, IsSentOn, Joins, GoesRightly, call_goes, heard_goes, known_goes}
use Rattle.trace_laws.proofs.Lists.Parts.{Tells, at_way, thread_holds, node_holds}
use Rattle.trace_laws.proofs.Lists.Subjects.{IsOneOf, on_way}
use Rattle.run_trace.specs.Items.{subject, same_subject, Thread as Subject_of}

-- ## A thread that is on a node, by its spot

pub record OnNode (n : ℕ) (s : Spot) (x : Thread) : Type 0 where
  pub stage : Stage
  pub life : s.life ≡ On n stage
  pub guest : s.guest ≡ x.guest
  pub slots : slots_held (held s.life s.guest) ≡ guest_slots x.guest

in_stage : (n : ℕ) (stage : Stage) (g : Guest) (x : Thread) → thread_in_stage n stage g ≡ Some x → (g ≡ x.guest) × (slots_held (held (On n stage) g) ≡ guest_slots x.guest)
in_stage n stage g x h = grind (arith, h)

pub on_node_is : (n : ℕ) (t : Tid) (s : Spot) (x : Thread) → thread_part n t s ≡ Some x → OnNode n s x
on_node_is n t s x h = by s.life refl h
  where
    by : (life : Life) → s.life ≡ life → thread_in_life n life s.guest ≡ Some x → OnNode n s x
    by Unborn e g = absurd (cc g)
    by (Moving m to) e g = absurd (cc g)
    by (Noting m end) e g = absurd (cc g)
    by (Gone end) e g = absurd (cc g)
    by (On m stage) e g = by_node (eqb m n) refl g
      where
        by_node : (v : Bool) → eqb m n ≡ v → cond v (thread_in_stage n stage s.guest) None ≡ Some x → OnNode n s x
        by_node true k f =
            let same : m ≡ n = eqb-true m n k in
            let parts = in_stage n stage s.guest x f in
            record { stage = stage; life = e ∙ ap (λ j. On j stage) same; guest = parts.0; slots = ap (λ z. slots_held (held z s.guest)) e ∙ parts.1 }
        by_node false k f = absurd (cc f)

-- ## Where a thread is, its life and its guest are those that are told

abbrev pub LivesAt : Location → Life → Type 0
LivesAt (On_node n) life = (stage : Stage) × (life ≡ On n stage)
LivesAt (On_link from to) life = life ≡ Moving from to

pub record Found (place : Location) (s : Spot) (g : Guest) : Type 0 where
  pub life : LivesAt place s.life
  pub guest : s.guest ≡ g
  pub slots : slots_held (held s.life s.guest) ≡ guest_slots g

-- what a packet on a link says stands there
word_found : (j : ℕ) (ps : List Packet) (body : Body) (t : Tid) → word_subject (word_of j body) ≡ Subject_of t → IsAmong body ps → IsOneOf (word_of j body) (words_about (words_of j ps) (Subject_of t))
word_found j [] body t name i = absurd i
word_found j (x ∷ xs) body t name (inl e) = rw (e, name, is-refl t) (inl refl)
word_found j (x ∷ xs) body t name (inr k) = elim (same_subject (Subject_of t) (word_subject (word_of j x.body))) as (λ v. IsOneOf (word_of j body) (cond v (word_of j x.body ∷ words_about (words_of j xs) (Subject_of t)) (words_about (words_of j xs) (Subject_of t))))
    [ true ↦ inr (word_found j xs body t name k) | false ↦ word_found j xs body t name k ]

pub found : (p : Program) (w : Spots) (net : Net) → Stands p w net → (place : Location) (t : Tid) (g : Guest) → IsAt net place t g → Found place (w.threads t) g
found p w net s (On_node n) t g h =
    let on : OnNode n (w.threads t) (waits h.0 g) = on_node_is n t (w.threads t) (waits h.0 g) (sym ((s.nodes n).threads.shows t) ∙ h.1) in
    record { life = (on.stage, on.life); guest = on.guest; slots = on.slots }
found p w net s (On_link i j) t g h =
    let o : Spot = w.threads t in
    let word : Word = Travels (packed t g) in
    let item : IsOneOf word (on_link i j (ways_of t o.life o.verdict o.guest)) = subst (λ xs. IsOneOf word xs) (s.links i j t) (word_found j (net.links i j) (Mover (packed t g)) t refl h) in
    let tells : Tells t i j word o.life o.verdict o.guest = at_way t o.life o.verdict o.guest (record { from = i; to = j; word = word }) (on_way i j (ways_of t o.life o.verdict o.guest) word item) in
    let same : o.guest ≡ g = ap unpacked (sym tells.1) in
    record { life = tells.0; guest = same; slots = ap (λ z. slots_held (held z o.guest)) tells.0 ∙ ap guest_slots same }

lives_once : (a b : Location) (life : Life) → LivesAt a life → LivesAt b life → a ≡ b
lives_once (On_node n) (On_node m) life h k = let same : On n h.0 ≡ On m k.0 = sym h.1 ∙ k.1 in let one : n ≡ m = cc same in ap On_node one
lives_once (On_link i j) (On_link k l) life x y =
    let same : Moving i j ≡ Moving k l = sym x ∙ y in
    let from : i ≡ k = cc same in let to : j ≡ l = cc same in
    ap (λ z. On_link z j) from ∙ ap (λ z. On_link k z) to
lives_once (On_node n) (On_link i j) life h k = absurd (cc (h.1, k))
lives_once (On_link i j) (On_node m) life h k = absurd (cc (h, k.1))

-- no thread is at two places
pub one_place : (p : Program) (w : Spots) (net : Net) → Stands p w net → (t : Tid) (a b : Location) (g h : Guest) → IsAt net a t g → IsAt net b t h → (a ≡ b) × (g ≡ h)
one_place p w net s t a b g h x y =
    let one : Found a (w.threads t) g = found p w net s a t g x in
    let other : Found b (w.threads t) h = found p w net s b t h y in
    (lives_once a b (w.threads t).life one.life other.life, sym one.guest ∙ other.guest)

-- ## No slot has two holders

-- whoever has a slot is its holder by the labels
has_is : (p : Program) (w : Spots) (net : Net) → Stands p w net → (slot : ℕ) (h : Holder) → Has net slot h → h ≡ w.slots slot
has_is p w net s slot (Of_node n) k = sym (node_holds n (w.slots slot) (sym ((s.nodes n).free slot) ∙ k))
has_is p w net s slot (Of_thread t) k =
    let at : Found k.0 (w.threads t) k.1 = found p w net s k.0 t k.1 k.2 in
    sym (thread_holds t (w.slots slot) (sym (s.agrees.slots t slot) ∙ ap (has slot) at.slots ∙ k.3))
has_is p w net s slot h k = absurd k

pub one_holder : (p : Program) (w : Spots) (net : Net) → Stands p w net → EachHeldOnce net
one_holder p w net s slot a b h k = has_is p w net s slot a h ∙ sym (has_is p w net s slot b k)

-- ## A thread is its code run alone

-- what a thread has alone, asking this
abbrev asking : Spot → Option Call → Alone
asking s asked = record { solo = s.guest.solo; asked = asked; reply = s.verdict }

other_life : (w : Tid → Spot) (by t : Tid) (life : Life) → asked_in life (w by).guest.solo ≡ asked_in (w by).life (w by).guest.solo → alone_in (update w by (record (w by) { life = life }) t) ≡ alone_in (w t)
other_life w by t life h = elim (is_tid by t) as (λ b. is_tid by t ≡ b → alone_in (cond b (record (w by) { life = life }) (w t)) ≡ alone_in (w t)) [
  | true ↦ λ e. ap (asking (w by)) h ∙ ap (λ z. alone_in (w z)) (is-true by t e)
  | false ↦ λ e. refl
] refl

-- a creator asks nothing of its heap
served_creator : (p : Program) (n : ℕ) (u : Tid) (why : Why) (entry a0 : ℕ) (w : Spots) (t : Tid) → IsBorn p n why entry a0 w → alone_in (creator_served n u why w.threads t) ≡ alone_in (w.threads t)
served_creator p n u why.Main entry a0 w t h = refl
served_creator p n u (why.Create by) entry a0 w t h =
    let x : Solo = (w.threads by).guest.solo in
    other_life w.threads by t _ (sym (ap (λ life. asked_in life x) h.0 ∙ ap heap_call h.2))
served_creator p n u (why.Inside by bubble) entry a0 w t h =
    let x : Solo = (w.threads by).guest.solo in
    other_life w.threads by t _ (sym (ap (λ life. asked_in life x) h.0 ∙ ap heap_call h.3))
served_creator p n u (why.Service by count) entry a0 w t h = refl

-- neither does one that calls a semaphore, nor whoever is set going
signals_ask : (h m id : ℕ) (x : Solo) → OfSignals (λ stage. asked_in (On m stage) x ≡ None) h id
signals_ask h m id x = record { due = λ code. refl; answers = λ reply. refl; queues = refl }

going_asks : (old new : Life) (x : Solo) → MayGo old new → asked_in new x ≡ asked_in old x
going_asks old new x (Wakes h m id e f) =
    ap (λ z. asked_in z x) f ∙ answered_by (λ stage. asked_in (On m stage) x ≡ None) h m id (replies.Value 0) (signals_ask h m id x) ∙ sym (ap (λ z. asked_in z x) e)
going_asks old new x (IsSent m to e f) = ap (λ z. asked_in z x) f ∙ sym (ap (λ z. asked_in z x) e)
going_asks old new x (IsSentOn m other to e f) = ap (λ z. asked_in z x) f ∙ sym (ap (λ z. asked_in z x) e)
going_asks old new x (Joins m u reply second e f) = ap (λ z. asked_in z x) f ∙ sym (ap (λ z. asked_in z x) e)

set_alone : (going : Going) (w : Tid → Spot) (t : Tid) → GoesRightly going w → alone_in (set_going going w t) ≡ alone_in (w t)
set_alone None w t h = refl
set_alone (Some going) w t h = other_life w going.0 t going.1 (going_asks (w going.0).life going.1 (w going.0).guest.solo h)

-- a change of u's spot, as t sees it
seen : (w : Tid → Spot) (u t : Tid) (s : Spot) (f : Tid → Alone → Alone) → alone_in s ≡ f u (alone_in (w u)) → alone_in (update w u s t) ≡ cond (is_tid u t) (f t (alone_in (w t))) (alone_in (w t))
seen w u t s f h = elim (is_tid u t) as (λ b. is_tid u t ≡ b → alone_in (cond b s (w t)) ≡ cond b (f t (alone_in (w t))) (alone_in (w t))) [ true ↦ λ e. h ∙ ap (λ z. f z (alone_in (w z))) (is-true u t e) | false ↦ λ e. refl ] refl

-- where another is set going
seen_going : (going : Going) (w : Tid → Spot) (u t : Tid) (s : Spot) (f : Tid → Alone → Alone) → GoesRightly going w → alone_in s ≡ f u (alone_in (w u))
    → alone_in (update (set_going going w) u s t) ≡ cond (is_tid u t) (f t (alone_in (w t))) (alone_in (w t))
seen_going going w u t s f h e =
    seen (set_going going w) u t s f (e ∙ ap (f u) (sym (set_alone going w u h)))
    ∙ ap (λ a. cond (is_tid u t) (f t a) a) (set_alone going w t h)

-- one that asks nothing before and nothing after
seen_so : (w : Tid → Spot) (u t : Tid) (life : Life) → asked_in life (w u).guest.solo ≡ asked_in (w u).life (w u).guest.solo
    → alone_in (update w u (record (w u) { life = life }) t) ≡ cond (is_tid u t) (alone_in (w t)) (alone_in (w t))
seen_so w u t life h = seen w u t (record (w u) { life = life }) (λ z a. a) (ap (asking (w u)) h)

-- the decision about one that waits for slots: it asks nothing then
seen_decided : (p : Program) (remote : Remote) (n : ℕ) (w : Tid → Spot) (u t : Tid) (count : ℕ) (first : Option ℕ)
    → alone_in (set_going (decided_going n u first) w t) ≡ cond (is_tid u t) (alone_then p remote t (Decided u count first) (alone_in (w t))) (alone_in (w t))
seen_decided p remote n w u t count None = seen w u t _ (λ z a. alone_then p remote z (Decided u count None) a) refl
seen_decided p remote n w u t count (Some first) = elim (is_tid u t) as (λ b. alone_in (w t) ≡ cond b (alone_in (w t)) (alone_in (w t))) [ true ↦ refl | false ↦ refl ]

ran_asks : (n : ℕ) (stop : Stop) (s : HartState) (x : Solo) → asked_in (On n (ran_stage stop s)) x ≡ None
ran_asks n stops.Quantum s x = refl
ran_asks n stops.Call s x = refl
ran_asks n (stops.Fault kind) s x = refl

sent_asks : (n : ℕ) (itself : Bool) (to : ℕ) (listed : Bool) (x : Solo) → asked_in (On n (sent_stage itself to listed)) x ≡ None
sent_asks n true to listed x = refl
sent_asks n false to listed x = refl

entering_asks : (n : ℕ) (o : Option Reply) (c : Call) (x : Solo) → call_of x.state ≡ c → heap_call c ≡ None → asked_in (On n (entering_stage o)) x ≡ None
entering_asks n None c x e f = ap heap_call e ∙ f
entering_asks n (Some reply) c x e f = refl

placing_asks : (n len : ℕ) (o : Option ℕ) (x : Solo) → call_of x.state ≡ Isomalloc len → asked_in (On n (placing_stage (Isomalloc len) o)) x ≡ Some (Isomalloc len)
placing_asks n len None x e = ap heap_call e
placing_asks n len (Some address) x e = refl

passed_asks : (p : Program) (n : ℕ) (t : Tid) (w : Spots) (c : Call) → its_call t w ≡ c → asked_in (On n (passed_stage p n t w c)) (solo_of t w) ≡ heap_call c
passed_asks p n t w (Create entry argument priority) e = ap heap_call e
passed_asks p n t w (Isomalloc len) e = placing_asks n len (place (heap_of (solo_of t w)) (rounded len)) (solo_of t w) e
passed_asks p n t w (SemP id) e = signal_asked_by (λ stage. asked_in (On n stage) (solo_of t w) ≡ None) n id false (w.sems n) (signals_ask n n id (solo_of t w)) refl
passed_asks p n t w (SemV id) e = signal_asked_by (λ stage. asked_in (On n stage) (solo_of t w) ≡ None) n id true (w.sems n) (signals_ask n n id (solo_of t w)) refl
passed_asks p n t w (Migrate name to) e = sent_asks n (eqb name (tid_value t)) to (is_listed (tid_of name) (w.forests n)) (solo_of t w)
passed_asks p n t w (CreateIn bubble entry argument priority) e = entering_asks n (not_filling p n bubble (w.forests n)) (CreateIn bubble entry argument priority) (solo_of t w) e refl
passed_asks p n t w c e = grind arith

call_asks : (p : Program) (n : ℕ) (t : Tid) (w : Spots) (c : Call) (r : Option Reply) → its_call t w ≡ c → asked_in (On n (asked_stage p n t w c r)) (solo_of t w) ≡ unless_refused r (heap_call c)
call_asks p n t w c None e = passed_asks p n t w c e
call_asks p n t w c (Some reply) e = refl

heard_asks : (n : ℕ) (births : ℕ → List Birth) (sems : ℕ → List SemRow) (life : Life) (x : Solo) → MayHear n life → asked_in (heard_at births sems life) x ≡ asked_in life x
heard_asks n births sems (On m (Signals id up)) x h =
    signal_by (λ stage. asked_in (On m stage) x ≡ None) (node_in id) m id up (sems (node_in id)) (signals_ask (node_in id) m id x)
heard_asks n births sems life x h = grind (arith, h)

judged_asks : (n : ℕ) (life : Life) (x : Solo) → MayJudge n life → asked_in (judged_life life) x ≡ None
judged_asks n life x h = grind (arith, h)

judged_solo : (n : ℕ) (life : Life) (g : Guest) → MayJudge n life → (judged_guest life g).solo ≡ answered (asked_in life g.solo) g.solo
judged_solo n life g h = grind (arith, h)

tell_asks : (n : ℕ) (life : Life) (x : Solo) → MayTell n life → asked_in life x ≡ None
tell_asks n life x h = grind (arith, h)

told_asks : (n : ℕ) (life : Life) (x : Solo) → asked_in (On n (told_stage life)) x ≡ None
told_asks n life x = grind arith

-- with slots for it, its call is asked as before
took_asks : (n : ℕ) (life : Life) (x y : Solo) → MayTake n life → asked_in (took_life x.state life) y ≡ asked_in life x
took_asks n life x y h = grind (arith, h)

gave_asks : (n : ℕ) (life : Life) (g : Guest) (slots : List ℕ) (x y : Solo) → MayGive n life g slots → asked_in (gave_life life) y ≡ asked_in life x
gave_asks n life g slots x y h = grind (arith, h)

known_asks : (life : Life) (x : Solo) → MayKnow life → asked_in life x ≡ None
known_asks life x h = grind (arith, h)

shown_asks : (n : ℕ) (life : Life) (x : Solo) → MayShow n life → asked_in (shown_life life) x ≡ asked_in life x
shown_asks n life x h = grind (arith, h)

leave_asks : (n to : ℕ) (life : Life) (x : Solo) → MayLeave n to life → asked_in life x ≡ None
leave_asks n to life x h = grind (arith, h)

come_asks : (n : ℕ) (life : Life) (x : Solo) → MayCome n life → asked_in life x ≡ None
come_asks n life x h = grind (arith, h)

label_alone : (p : Program) (q : Occasion) (n : ℕ) (l : Label) (w : World) (t : Tid) → SoloRule p q n l w → LifeRule p q n l w → AgreesRule p q n l w
    → alone_in ((after_label p n l w.spots).threads t) ≡ cond (is_about t (subject l)) (alone_then p w.spots.remote t l (alone_in (w.spots.threads t))) (alone_in (w.spots.threads t))
label_alone p q n (Born u why entry a0 a1 sp slot) w t solo life agrees =
    seen (creator_served n u why w.spots.threads) u t _ (λ z a. alone_then p w.spots.remote z (Born u why entry a0 a1 sp slot) a) refl
    ∙ ap (λ a. cond (is_tid u t) (alone_then p w.spots.remote t (Born u why entry a0 a1 sp slot) a) a) (served_creator p n u why entry a0 w.spots t solo.0)
label_alone p q n (Ran u vp count stop) w t solo life agrees =
    let next : HartState = stepped (code_of p) count (w.spots.threads u).guest.solo.state in
    seen w.spots.threads u t _ (λ z a. alone_then p w.spots.remote z (Ran u vp count stop) a) (ap (asking (ran_spot p n count stop (w.spots.threads u))) (ran_asks n stop next _ ∙ sym (ap (λ z. asked_in z (w.spots.threads u).guest.solo) life.0)))
label_alone p q n (Asked u call args bytes) w t solo life agrees =
    let x : Solo = (w.spots.threads u).guest.solo in
    seen_going (going_by_call p n u w.spots) w.spots.threads u t _ (λ z a. alone_then p w.spots.remote z (Asked u call args bytes) a) (call_goes p w.spots agrees n u)
    (ap (asking (w.spots.threads u)) (call_asks p n u w.spots (call_of x.state) (refusal p u x (call_of x.state)) refl))
label_alone p q n (Heard u) w t solo life agrees =
    seen_going (wakes_heard w.spots.sems (w.spots.threads u).life) w.spots.threads u t _ (λ z a. a) (heard_goes p w.spots agrees (w.spots.threads u).life)
    (ap (asking (w.spots.threads u)) (heard_asks n w.spots.births w.spots.sems (w.spots.threads u).life _ life))
label_alone p q n (Judged u reply extra) w t solo life agrees =
    let o : Spot = w.spots.threads u in
    let v : Response = record { code = reply; extra = extra } in
    seen w.spots.threads u t _ (λ z a. alone_then p w.spots.remote z (Judged u reply extra) a)
    (ap (λ z. record { solo = (judged_guest o.life o.guest).solo; asked = z; reply = v }) (judged_asks n o.life _ life)
    ∙ ap (λ z. record { solo = z; asked = None; reply = v }) (judged_solo n o.life o.guest life))
label_alone p q n (Told u) w t solo life agrees =
    let o : Spot = w.spots.threads u in
    seen w.spots.threads u t _ (λ z a. alone_then p w.spots.remote z (Told u) a)
    (ap (λ z. record { solo = (told o.verdict.code (second_of o.verdict.extra) o.guest).solo; asked = z; reply = o.verdict }) (told_asks n o.life _ ∙ sym (tell_asks n o.life o.guest.solo life)))
label_alone p q n (Took u first count) w t solo life agrees =
    let o : Spot = w.spots.threads u in
    let after : Guest = takes_slots (run first count) o.guest in
    seen w.spots.threads u t _ (λ z a. alone_then p w.spots.remote z (Took u first count) a)
    (ap (λ z. record { solo = after.solo; asked = z; reply = o.verdict }) (took_asks n o.life o.guest.solo after.solo life))
label_alone p q n (Gave u slots) w t solo life agrees =
    let o : Spot = w.spots.threads u in
    seen w.spots.threads u t _ (λ z a. alone_then p w.spots.remote z (Gave u slots) a)
    (ap (λ z. record { solo = (gives_slots slots o.guest).solo; asked = z; reply = o.verdict }) (gave_asks n o.life o.guest slots o.guest.solo (gives_slots slots o.guest).solo life))
label_alone p q n (Ended u end) w t solo life agrees = seen_so w.spots.threads u t _ (sym (ap (λ z. asked_in z (w.spots.threads u).guest.solo) life))
label_alone p q n (Known u) w t solo life agrees =
    seen_going (sets_going p n (Known u) w.spots) w.spots.threads u t _ (λ z a. a) (known_goes p w.spots agrees n u)
    (ap (asking (w.spots.threads u)) (sym (known_asks (w.spots.threads u).life _ life.0)))
label_alone p q n (Shown u) w t solo life agrees = seen_so w.spots.threads u t _ (shown_asks n (w.spots.threads u).life _ life)
label_alone p q n (Halted u) w t solo life agrees = seen_so w.spots.threads u t _ (sym (ap (λ z. asked_in z (w.spots.threads u).guest.solo) life))
label_alone p q n (Left u to) w t solo life agrees = seen_so w.spots.threads u t _ (sym (leave_asks n to (w.spots.threads u).life _ life.0))
label_alone p q n (Came u) w t solo life agrees = seen_so w.spots.threads u t _ (sym (come_asks n (w.spots.threads u).life _ life))
label_alone p q n (Decided u count first) w t solo life agrees = seen_decided p w.spots.remote n w.spots.threads u t count first
label_alone p q n (Dropped u count reply) w t solo life agrees = absurd life
label_alone p q n (Lent to slots) w t solo life agrees = absurd life
label_alone p q n (InHand lender slots) w t solo life agrees = absurd life
label_alone p q n (Returned to slots) w t solo life agrees = absurd life
label_alone p q n (Home slots) w t solo life agrees = absurd life
label_alone p q n (Down bubble list) w t solo life agrees = refl
label_alone p q n (Burst bubble list) w t solo life agrees = refl
label_alone p q n (Gathered bubble count) w t solo life agrees = refl

labels_alone : (p : Program) (q : Occasion) (n : ℕ) (ls : List Label) (w : World) (t : Tid) → ObeyEach SoloRule p q n ls w → ObeyEach LifeRule p q n ls w → ObeyEach AgreesRule p q n ls w
    → alone_in ((after_labels p n ls w.spots).threads t) ≡ alone_after p w.spots.remote t ls (alone_in (w.spots.threads t))
labels_alone p q n [] w t solo life agrees = refl
labels_alone p q n (l ∷ ls) w t solo life agrees =
    labels_alone p (saying l q) n ls (world_after p n l w) t solo.1 life.1 agrees.1 ∙ ap (alone_after p (remote_after l w.spots.remote) t ls) (label_alone p q n l w t solo.0 life.0 agrees.0)

remote_in_are : (p : Program) (n : ℕ) (ls : List Label) (w : Spots) → (after_labels p n ls w).remote ≡ remote_in ls w.remote
remote_in_are p n [] w = refl
remote_in_are p n (l ∷ ls) w = remote_in_are p n ls (after_label p n l w)

-- what remote calls named, by the labels
pub remote_are : (p : Program) (trace : List Entry) → (spots_of p (at_first p) trace).remote ≡ remote_of trace
remote_are p [] = refl
remote_are p (x ∷ xs) = remote_in_are p x.node x.labels (spots_of p (at_first p) xs) ∙ ap (remote_in x.labels) (remote_are p xs)

spots_alone : (p : Program) (base : Net) (trace : List Entry) (t : Tid) → Obey SoloRule p (at_first p) base trace → Obey LifeRule p (at_first p) base trace → Obey AgreesRule p (at_first p) base trace
    → alone_in ((spots_of p (at_first p) trace).threads t) ≡ alone_of p t trace
spots_alone p base [] t solo life agrees = refl
spots_alone p base (x ∷ xs) t solo life agrees = labels_alone p (occasion x (world_at (spots_of p (at_first p) xs) (net_after_trace p base xs))) x.node x.labels (world_at (spots_of p (at_first p) xs) (net_after_trace p base xs)) t solo.1 life.1 agrees.1 ∙ ap (alone_after p (spots_of p (at_first p) xs).remote t x.labels) (spots_alone p base xs t solo.0 life.0 agrees.0) ∙ ap (λ z. alone_after p z t x.labels (alone_of p t xs)) (remote_are p xs)

pub runs_alone : (p : Program) (base : Net) (trace : List Entry) (net : Net) → Obey SoloRule p (at_first p) base trace → Obey LifeRule p (at_first p) base trace → Obey AgreesRule p (at_first p) base trace → Stands p (spots_of p (at_first p) trace) net → EachRunsAlone p net trace
runs_alone p base trace net solo life agrees s t place g h =
    let at : Found place ((spots_of p (at_first p) trace).threads t) g = found p _ net s place t g h in
    ap (λ (z : Guest). z.solo) (sym at.guest) ∙ ap (λ (a : Alone). a.solo) (spots_alone p base trace t solo life agrees)
