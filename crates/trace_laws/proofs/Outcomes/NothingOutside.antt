-- Nothing happens outside the cluster's nodes.
use Rattle.std.proofs.Common.{◌≡◌, ℕ, ◌<◌, ◌≤◌, ◌/◌, ◌^◌, ◌⊎◌, inl, inr, List, [], ◌∷◌, ◌++◌, Option, Some, None, Bool, true, false, eqb, ltb, cond, refl, sym, ap, ◌∙◌, subst, arith}
use Rattle.std.specs.Prelude.{nat_lt}
use Rattle.std.specs.Map.{lookup}
use Rattle.std.proofs.lemmas.Bool.{eq-eqb, eqb-true, ne_eqb, ltb-true, ltb-false}
use Rattle.std.proofs.lemmas.Bool.Decides.{nat_tests}
use Rattle.slot_space.specs.declared.names.Tid.{Tid}
use Rattle.slot_space.specs.declared.names.Reply.{Reply}
use Rattle.slot_space.specs.declared.names.Reply.TheVariants as replies
use Rattle.slot_space.specs.Replies.{tid_value}
use Rattle.rv_step.specs.declared.hart.Stop.{Stop}
use Rattle.rv_step.specs.Step.{HartState}
use Rattle.marcel_core.specs.declared.birth.Birth.{Birth}
use Rattle.marcel_sync.specs.declared.sem.SemRow.{SemRow}
use Rattle.marcel_sync.specs.Semaphores.{node_in}
use Rattle.run_trace.specs.declared.call.Call.{Call}
use Rattle.run_trace.specs.declared.call.Call.TheVariants.{Join, Detach, SemP, SemV, Isomalloc, Migrate, CreateIn}
use Rattle.iso_blocks.specs.Heap.{rounded, place}
use Rattle.run_trace.specs.declared.entry.Act.{Act}
use Rattle.run_trace.specs.declared.entry.Act.TheVariants.{Boot, Run, Take, Move}
use Rattle.run_trace.specs.declared.entry.Entry.{Entry}
use Rattle.run_trace.specs.declared.label.Label.{Label}
use Rattle.run_trace.specs.declared.label.Label.TheVariants.{Born, Ran, Asked, Heard, Judged, Told, Took, Gave, Ended, Known, Left, Came, Lent, InHand, Decided, Returned, Home, Down, Burst, Gathered, Shown, Halted, Dropped}
use Rattle.run_trace.specs.declared.label.Why.{Why}
use Rattle.run_trace.specs.declared.label.Why.TheVariants as why
use Rattle.run_trace.specs.declared.packet.Packet.{Packet}
use Rattle.run_trace.specs.Names.{is_tid, tid_of}
use Rattle.run_trace.specs.Program.{Program, nodes_of}
use Rattle.run_trace.specs.Guests.{Solo, Thread, heap_of}
use Rattle.run_trace.specs.Calls.{refusal}
use Rattle.run_trace.specs.Bubbles.{is_listed, not_filling}
use Rattle.run_trace.specs.Local.{Local, fresh}
use Rattle.run_trace.specs.Cluster.{Net, fresh_net}
use Rattle.run_trace.specs.Trace.{IsRun, net_after_trace}
use Rattle.run_trace.specs.Holding.{IsOn}
use Rattle.run_trace.specs.Spots.{Stage, Asks, Detaches, Signals, Life, On, Moving, Spot, Spots, update, creator_served, Going, signal_asked, sent_stage, placing_stage, entering_stage, solo_of, its_call, its_refusal, going_by_call, wakes_heard, sets_going, set_going, heard_at, judged_life, told_stage, took_life, decided_going, gave_life, shown_life, ran_stage, stage_of_call, asked_stage, passed_stage, at_first, after_label, after_labels}
use Rattle.run_trace.specs.World.{World, world_after}
use Rattle.trace_laws.specs.Obeys.{Obey, world_at, ObeyEach, AgreesRule}
use Rattle.run_trace.specs.Rules.{Occasion, saying, LifeRule, spots_of}
use Rattle.run_trace.specs.Obeying.{occasion}
use Rattle.run_trace.specs.Items.{Subject, Thread as Thread_of, Turns}
use Rattle.run_trace.specs.Talks.{is_first}
use Rattle.run_trace.specs.Stands.{Stands, word_subject, word_of, words_of, words_about, Word, A_want, A_turn, An_over, count_by, one_want, one_turn, one_over, one_if, times_in, Travels, Line, Line_shown, Joins as Joins_word, Detaching, Signalling, Reply as Reply_word, Ended_word}
use Rattle.trace_laws.proofs.Lists.Parts.{Tells}
use Rattle.trace_laws.proofs.Lives.Signals.{OfSignals, answered_by, signal_by, signal_asked_by}
use Rattle.trace_laws.proofs.Lives.Goings.{MayGo, Wakes, IsSent, IsSentOn, Joins, GoesRightly, call_goes, heard_goes, known_goes}
use Rattle.trace_laws.proofs.Underway.Simulate.{event_below, first_tells}
use Rattle.trace_laws.proofs.Outcomes.Wholes.{Whole, run_whole, starts}
use Rattle.trace_laws.proofs.Outcomes.Stillness.{is_there}
use Rattle.run_trace.specs.Links.{first_of, rest_of, left_after}

-- ## A join names a thread of the cluster, and a thread moves to a node of it

-- the home to which a join or a detach is under way, the node of the semaphore that is asked, or that to which a thread is under way; 0
-- where there is none
abbrev asked_home : Life → ℕ
asked_home (On m (Asks u)) = u.home
asked_home (On m (Detaches u)) = u.home
asked_home (On m (Signals id up)) = node_in id
asked_home (Moving from to) = to
asked_home _ = 0

abbrev AllAsk : Program → (Tid → Spot) → Type 0
AllAsk p w = (t : Tid) → asked_home (w t).life < nodes_of p

first_node : (p : Program) → 0 < nodes_of p
first_node p = p.setup.geometry.some_node

-- the home or the semaphore's node that a call names; 0 where it names none
abbrev named_home : Call → ℕ
named_home (Join name) = name / 2 ^ 32
named_home (Detach name) = name / 2 ^ 32
named_home (SemP id) = node_in id
named_home (SemV id) = node_in id
named_home _ = 0

-- one whose semaphore is asked has come there, and asks for none
signals_ask : (h m id : ℕ) → OfSignals (λ stage. asked_home (On m stage) ≡ 0) h id
signals_ask h m id = record { due = λ code. refl; answers = λ reply. refl; queues = refl }

none_within : (a b : ℕ) → a ≡ 0 → a ≤ b
none_within a b e = omega (arith, e)

asked_within : (n id : ℕ) (up : Bool) (sems : List SemRow) → asked_home (On n (signal_asked n id up sems)) ≤ node_in id
asked_within n id up sems =
    signal_asked_by (λ stage. asked_home (On n stage) ≤ node_in id) n id up sems
    (record { due = λ code. omega arith; answers = λ reply. omega arith; queues = omega arith }) (omega arith)

sent_asks : (n : ℕ) (itself : Bool) (to : ℕ) (listed : Bool) → asked_home (On n (sent_stage itself to listed)) ≡ 0
sent_asks n true to listed = refl
sent_asks n false to listed = refl

entering_asks : (n : ℕ) (o : Option Reply) → asked_home (On n (entering_stage o)) ≡ 0
entering_asks n None = refl
entering_asks n (Some reply) = refl

placing_asks : (n : ℕ) (c : Call) (o : Option ℕ) → asked_home (On n (placing_stage c o)) ≡ 0
placing_asks n c None = refl
placing_asks n c (Some address) = refl

passed_asks : (p : Program) (n : ℕ) (t : Tid) (w : Spots) (c : Call) → asked_home (On n (passed_stage p n t w c)) ≤ named_home c
passed_asks p n t w (Isomalloc len) = none_within _ 0 (placing_asks n (Isomalloc len) (place (heap_of (solo_of t w)) (rounded len)))
passed_asks p n t w (SemP id) = asked_within n id false (w.sems n)
passed_asks p n t w (SemV id) = asked_within n id true (w.sems n)
passed_asks p n t w (Migrate name to) = none_within _ 0 (sent_asks n (eqb name (tid_value t)) to (is_listed (tid_of name) (w.forests n)))
passed_asks p n t w (CreateIn bubble entry argument priority) = none_within _ 0 (entering_asks n (not_filling p n bubble (w.forests n)))
passed_asks p n t w c = grind arith

-- the checks of a call refuse a home, and a semaphore's node, that is no node
named_inside : (p : Program) (t : Tid) (x : Solo) (c : Call) → refusal p t x c ≡ None → named_home c < nodes_of p
named_inside p t x c h = grind (arith, nat_tests, h, first_node p)

call_asks : (p : Program) (n : ℕ) (t : Tid) (w : Spots) → asked_home (On n (stage_of_call p n t w)) < nodes_of p
call_asks p n t w = by (its_call t w) (its_refusal p t w) refl
  where
    x : Solo
    x = solo_of t w

    by : (c : Call) (o : Option Reply) → refusal p t x c ≡ o → asked_home (On n (asked_stage p n t w c o)) < nodes_of p
    by c None e = omega (arith, passed_asks p n t w c, named_inside p t x c e)
    by c (Some reply) e = first_node p

-- nothing else begins to ask
ran_asks : (n : ℕ) (stop : Stop) (s : HartState) → asked_home (On n (ran_stage stop s)) ≡ 0
ran_asks n stop s = grind arith

heard_asks : (births : ℕ → List Birth) (sems : ℕ → List SemRow) (life : Life) → asked_home (heard_at births sems life) ≤ asked_home life
heard_asks births sems (On m (Signals id up)) =
    none_within _ (node_in id) (signal_by (λ stage. asked_home (On m stage) ≡ 0) (node_in id) m id up (sems (node_in id)) (signals_ask (node_in id) m id))
heard_asks births sems life = grind arith

judged_asks : (life : Life) → asked_home (judged_life life) ≤ asked_home life
judged_asks life = grind arith

told_asks : (n : ℕ) (life : Life) → asked_home (On n (told_stage life)) ≡ 0
told_asks n life = grind arith

took_asks : (s : HartState) (life : Life) → asked_home (took_life s life) ≤ asked_home life
took_asks s life = grind arith

gave_asks : (life : Life) → asked_home (gave_life life) ≤ asked_home life
gave_asks life = grind arith

shown_asks : (life : Life) → asked_home (shown_life life) ≤ asked_home life
shown_asks life = grind arith

asks_with : (p : Program) (w : Tid → Spot) (u : Tid) (s : Spot) → AllAsk p w → asked_home s.life < nodes_of p → AllAsk p (update w u s)
asks_with p w u s h k t = elim (is_tid u t) as (λ v. asked_home (cond v s (w t)).life < nodes_of p) [ true ↦ k | false ↦ h t ]

-- its new life asks for no other home
asks_on : (p : Program) (w : Tid → Spot) (u : Tid) (s : Spot) → AllAsk p w → asked_home s.life ≤ asked_home (w u).life → AllAsk p (update w u s)
asks_on p w u s h k = asks_with p w u s h (omega (arith, k, h u))

creator_asks : (p : Program) (n : ℕ) (t : Tid) (why : Why) (w : Tid → Spot) → AllAsk p w → AllAsk p (creator_served n t why w)
creator_asks p n t why.Main w h = h
creator_asks p n t (why.Create by) w h = asks_with p w by _ h (first_node p)
creator_asks p n t (why.Inside by bubble) w h = asks_with p w by _ h (first_node p)
creator_asks p n t (why.Service by count) w h = h

-- whoever is set going asks for no home
going_asks : (old new : Life) → MayGo old new → asked_home new ≡ 0
going_asks old new (Wakes h m id e f) = ap asked_home f ∙ answered_by (λ stage. asked_home (On m stage) ≡ 0) h m id (replies.Value 0) (signals_ask h m id)
going_asks old new (IsSent m to e f) = ap asked_home f
going_asks old new (IsSentOn m other to e f) = ap asked_home f
going_asks old new (Joins m u reply second e f) = ap asked_home f

set_asks : (p : Program) (going : Going) (w : Tid → Spot) → GoesRightly going w → AllAsk p w → AllAsk p (set_going going w)
set_asks p None w g h = h
set_asks p (Some going) w g h = asks_with p w going.0 _ h (subst (λ k. k < nodes_of p) (sym (going_asks (w going.0).life going.1 g)) (first_node p))

-- one that is refused slots asks for none
decided_asks : (p : Program) (n : ℕ) (t : Tid) (first : Option ℕ) (w : Tid → Spot) → AllAsk p w → AllAsk p (set_going (decided_going n t first) w)
decided_asks p n t None w h = asks_with p w t _ h (first_node p)
decided_asks p n t (Some first) w h = h

label_asks : (p : Program) (q : Occasion) (n : ℕ) (l : Label) (w : World) → LifeRule p q n l w → AgreesRule p q n l w → AllAsk p w.spots.threads → AllAsk p (after_label p n l w.spots).threads
label_asks p q n (Born t why entry a0 a1 sp slot) w ok agrees h = asks_with p (creator_served n t why w.spots.threads) t _ (creator_asks p n t why w.spots.threads h) (first_node p)
label_asks p q n (Ran t vp count stop) w ok agrees h = asks_with p w.spots.threads t _ h (subst (λ k. k < nodes_of p) (sym (ran_asks n stop _)) (first_node p))
label_asks p q n (Asked t call args bytes) w ok agrees h =
    asks_with p (set_going (going_by_call p n t w.spots) w.spots.threads) t _ (set_asks p (going_by_call p n t w.spots) w.spots.threads (call_goes p w.spots agrees n t) h) (call_asks p n t w.spots)
label_asks p q n (Heard t) w ok agrees h =
    asks_with p (set_going (wakes_heard w.spots.sems (w.spots.threads t).life) w.spots.threads) t _ (set_asks p (wakes_heard w.spots.sems (w.spots.threads t).life) w.spots.threads (heard_goes p w.spots agrees (w.spots.threads t).life) h)
    (omega (arith, heard_asks w.spots.births w.spots.sems (w.spots.threads t).life, h t))
label_asks p q n (Judged t reply extra) w ok agrees h = asks_on p w.spots.threads t _ h (judged_asks (w.spots.threads t).life)
label_asks p q n (Told t) w ok agrees h = asks_with p w.spots.threads t _ h (subst (λ k. k < nodes_of p) (sym (told_asks n (w.spots.threads t).life)) (first_node p))
label_asks p q n (Took t first count) w ok agrees h = asks_on p w.spots.threads t _ h (took_asks (w.spots.threads t).guest.solo.state (w.spots.threads t).life)
label_asks p q n (Gave t slots) w ok agrees h = asks_on p w.spots.threads t _ h (gave_asks (w.spots.threads t).life)
label_asks p q n (Ended t end) w ok agrees h = asks_with p w.spots.threads t _ h (first_node p)
label_asks p q n (Known t) w ok agrees h =
    let going : Going = sets_going p n (Known t) w.spots in
    asks_with p (set_going going w.spots.threads) t _ (set_asks p going w.spots.threads (known_goes p w.spots agrees n t) h) (first_node p)
label_asks p q n (Shown t) w ok agrees h = asks_on p w.spots.threads t _ h (shown_asks (w.spots.threads t).life)
label_asks p q n (Halted t) w ok agrees h = asks_with p w.spots.threads t _ h (first_node p)
label_asks p q n (Left t to) w ok agrees h = asks_with p w.spots.threads t _ h ok.2
label_asks p q n (Came t) w ok agrees h = asks_with p w.spots.threads t _ h (first_node p)
label_asks p q n (Decided t count first) w ok agrees h = decided_asks p n t first w.spots.threads h
label_asks p q n (Dropped t count reply) w ok agrees h = h
label_asks p q n (Lent to slots) w ok agrees h = h
label_asks p q n (InHand lender slots) w ok agrees h = h
label_asks p q n (Returned to slots) w ok agrees h = h
label_asks p q n (Home slots) w ok agrees h = h
label_asks p q n (Down bubble list) w ok agrees h = h
label_asks p q n (Burst bubble list) w ok agrees h = h
label_asks p q n (Gathered bubble count) w ok agrees h = h

labels_ask : (p : Program) (q : Occasion) (n : ℕ) (ls : List Label) (w : World) → ObeyEach LifeRule p q n ls w → ObeyEach AgreesRule p q n ls w → AllAsk p w.spots.threads → AllAsk p (after_labels p n ls w.spots).threads
labels_ask p q n [] w ok agrees h = h
labels_ask p q n (l ∷ ls) w ok agrees h = labels_ask p (saying l q) n ls (world_after p n l w) ok.1 agrees.1 (label_asks p q n l w ok.0 agrees.0 h)

spots_ask : (p : Program) (base : Net) (trace : List Entry) → Obey LifeRule p (at_first p) base trace → Obey AgreesRule p (at_first p) base trace → AllAsk p (spots_of p (at_first p) trace).threads
spots_ask p base [] ok agrees t = first_node p
spots_ask p base (x ∷ xs) ok agrees t = labels_ask p (occasion x (world_at (spots_of p (at_first p) xs) (net_after_trace p base xs))) x.node x.labels (world_at (spots_of p (at_first p) xs) (net_after_trace p base xs)) ok.1 agrees.1 (spots_ask p base xs ok.0 agrees.0) t

-- ## What is no node has no event, and so sends nothing

record Untouched (p : Program) (net : Net) : Type 0 where
  nodes : (n : ℕ) → nodes_of p ≤ n → net.nodes n ≡ fresh p n
  links : (i j : ℕ) → nodes_of p ≤ i → net.links i j ≡ []

left_none : (i : ℕ) (a : Act) (ps : List Packet) → ps ≡ [] → left_after i a ps ≡ []
left_none i Boot ps e = e
left_none i (Run vp quantum) ps e = e
left_none i (Move t to) ps e = e
left_none i (Take from) ps e = rw e (elim (eqb from i) as (λ v. cond v (rest_of []) [] ≡ []) [ true ↦ refl | false ↦ refl ])

taken_none : (b : Bool) (i : ℕ) (a : Act) (ps qs : List Packet) → ps ≡ [] → qs ≡ [] → cond b (left_after i a ps) ps ++ qs ≡ []
taken_none true i a ps qs e f = rw (left_none i a ps e, f) refl
taken_none false i a ps qs e f = rw (e, f) refl

untouched : (p : Program) (trace : List Entry) → IsRun p (fresh_net p) trace → Untouched p (net_after_trace p (fresh_net p) trace)
untouched p [] r = record { nodes = λ n l. refl; links = λ i j l. refl }
untouched p (x ∷ xs) r =
    let was : Untouched p (net_after_trace p (fresh_net p) xs) = untouched p xs r.0 in
    let net : Net = net_after_trace p (fresh_net p) xs in
    let below : x.node < nodes_of p = ltb-true x.node (nodes_of p) (event_below p x.node (net.nodes x.node) x.act _ r.1.step.done r.1.step.is) in
    record {
      nodes = λ n l. (let apart : eqb x.node n ≡ false = ne_eqb x.node n (λ e. absurd (omega (arith, e, l, below))) in rw apart (was.nodes n l));
      links = λ i j l.
          (let apart : eqb x.node i ≡ false = ne_eqb x.node i (λ e. absurd (omega (arith, e, l, below))) in
          taken_none (eqb x.node j) i x.act (net.links i j) _ (was.links i j l) (rw apart refl));
    }

-- ## Threads on nodes, and the links that they go by

-- whoever is the first of a list stands in it
first_times : (j : ℕ) (ms : List ℕ) → one_if (is_first j ms) ≤ times_in j ms
first_times j [] = omega arith
first_times j (m ∷ ms) = omega arith

module _ (p : Program) (w : Spots) (net : Net) (s : Stands p w net) (asks : AllAsk p w.threads) (out : Untouched p net) where
  there_inside : (t : Tid) (n : ℕ) (x : Thread) → IsOn net n t x → n < nodes_of p
  there_inside t n x h = by (ltb n (nodes_of p)) refl
    where
      by : (v : Bool) → ltb n (nodes_of p) ≡ v → n < nodes_of p
      by true e = ltb-true n (nodes_of p) e
      by false e =
          let none : lookup (is_tid t) (net.nodes n).threads ≡ None = ap (λ (z : Local). lookup (is_tid t) z.threads) (out.nodes n (ltb-false n (nodes_of p) e)) in
          absurd (cc (none, h))

  on_inside : (t : Tid) (n : ℕ) (stage : Stage) → (w.threads t).life ≡ On n stage → n < nodes_of p
  on_inside t n stage e = let k : (x : Thread) × IsOn net n t x = is_there p w net s t n stage e in there_inside t n k.0 k.1

  -- what is said of a thread goes to a node
  to_node : (t : Tid) (i j : ℕ) (word : Word) → Tells t i j word (w.threads t).life (w.threads t).verdict (w.threads t).guest → j < nodes_of p
  to_node t i j (Travels x) k = subst (λ z. asked_home z < nodes_of p) k.0 (asks t)
  to_node t i j (Line u bytes) k = subst (λ z. z < nodes_of p) (sym k.2) (first_node p)
  to_node t i j (Line_shown u code extra) k = on_inside t j _ k.1
  to_node t i j (Joins_word u target) k = subst (λ z. z < nodes_of p) (sym k.2) (subst (λ z. asked_home z < nodes_of p) k.1 (asks t))
  to_node t i j (Detaching u target) k = subst (λ z. z < nodes_of p) (sym k.2) (subst (λ z. asked_home z < nodes_of p) k.1 (asks t))
  to_node t i j (Signalling u id up) k = subst (λ z. z < nodes_of p) (sym k.2) (subst (λ z. asked_home z < nodes_of p) k.1 (asks t))
  to_node t i j (Reply_word u code extra) k = on_inside t j _ k.1
  to_node t i j (Ended_word u end) k = by (nat_lt t.home (nodes_of p)) refl
    where
      by : (v : Bool) → nat_lt t.home (nodes_of p) ≡ v → j < nodes_of p
      by true e = subst (λ z. z < nodes_of p) (sym k.2) (ltb-true t.home (nodes_of p) e)
      by false e = absurd (cc (k.1, s.agrees.homes t e))
  to_node t i j word k = absurd k

  -- a packet of turns that is the first on its link is among those
  first_of_turns : (i j : ℕ) (x : Packet) (ps : List Packet) → net.links i j ≡ x ∷ ps → word_subject (word_of j x.body) ≡ Turns
      → words_about (words_of j (net.links i j)) Turns ≡ word_of j x.body ∷ words_about (words_of j ps) Turns
  first_of_turns i j x ps e name = rw (e, name) refl

  -- none outside has a turn, or wants one
  no_turn : (j : ℕ) → nodes_of p ≤ j → count_by one_turn (words_about (words_of j (net.links 0 j)) Turns) ≡ 0
  no_turn j l =
      let none : words_about (words_of 0 (net.links j 0)) Turns ≡ [] = ap (λ ps. words_about (words_of 0 ps) Turns) (out.links j 0 l) in
      let quiet : count_by one_over (words_about (words_of 0 (net.links j 0)) Turns) ≡ 0 = ap (count_by one_over) none in
      let idle : one_if (net.nodes j).talk.wants ≡ 0 = ap (λ (z : Local). one_if z.talk.wants) (out.nodes j l) in
      omega (arith, s.turns.turn j, s.turns.want j, first_times j (net.nodes 0).talk.wanting, quiet, idle)

  -- what is said of turns goes to a node
  turn_to_node : (i j : ℕ) (word : Word) (rest : List Word) → word_subject word ≡ Turns → words_about (words_of j (net.links i j)) Turns ≡ word ∷ rest → nodes_of p ≤ j → ⊥
  turn_to_node i j word rest name e l = by word name (ap (count_by one_turn) e) (ap (count_by one_want) e) (ap (count_by one_over) e)
    where
      other : j ≡ 0 → ⊥
      other z = omega (arith, z, l, first_node p)

      at_link : List Word
      at_link = words_about (words_of j (net.links i j)) Turns

      from : count_by one_turn at_link ≡ 0
      from = elim (eqb i 0) as (λ v. eqb i 0 ≡ v → count_by one_turn at_link ≡ 0) [
        | true ↦ λ f. subst (λ k. count_by one_turn (words_about (words_of j (net.links k j)) Turns) ≡ 0) (sym (eqb-true i 0 f)) (no_turn j l)
        | false ↦ λ f. s.turns.from_zero i j (λ z. cc (f, eq-eqb i 0 z))
      ] refl

      by : (word : Word) → word_subject word ≡ Turns → count_by one_turn at_link ≡ count_by one_turn (word ∷ rest) → count_by one_want at_link ≡ count_by one_want (word ∷ rest)
          → count_by one_over at_link ≡ count_by one_over (word ∷ rest) → ⊥
      by A_want name turns wants overs = omega (arith, s.turns.to_zero i j other, wants)
      by A_turn name turns wants overs = omega (arith, from, turns)
      by An_over name turns wants overs = omega (arith, s.turns.to_zero i j other, overs)
      by word name turns wants overs = grind (arith, name)

  links_inside : (i j : ℕ) → (nodes_of p ≤ i) ⊎ (nodes_of p ≤ j) → net.links i j ≡ []
  links_inside i j (inl l) = out.links i j l
  links_inside i j (inr l) = by (net.links i j) refl
    where
      by : (ps : List Packet) → net.links i j ≡ ps → ps ≡ []
      by [] e = refl
      by (x ∷ ps) e = absurd (by_subject (word_subject (word_of j x.body)) refl)
        where
          by_subject : (o : Subject) → word_subject (word_of j x.body) ≡ o → ⊥
          by_subject (Thread_of t) name = let below : j < nodes_of p = to_node t i j _ (first_tells p w net s i j x t (sym (ap first_of e)) name) in omega (arith, below, l)
          by_subject Turns name = turn_to_node i j (word_of j x.body) _ name (first_of_turns i j x ps e name) l

-- ## The law

pub record Inside (p : Program) (w : Spots) (net : Net) : Type 0 where
  pub nodes : (n : ℕ) → nodes_of p ≤ n → net.nodes n ≡ fresh p n
  pub links : (i j : ℕ) → (nodes_of p ≤ i) ⊎ (nodes_of p ≤ j) → net.links i j ≡ []
  pub lives : (t : Tid) (n : ℕ) (stage : Stage) → (w.threads t).life ≡ On n stage → n < nodes_of p

pub run_inside : (p : Program) (trace : List Entry) → IsRun p (fresh_net p) trace → Inside p (spots_of p (at_first p) trace) (net_after_trace p (fresh_net p) trace)
run_inside p trace r =
    let w : Spots = spots_of p (at_first p) trace in
    let net : Net = net_after_trace p (fresh_net p) trace in
    let all : Whole p (at_first p) (fresh_net p) trace = run_whole p (at_first p) (fresh_net p) (starts p) trace r in
    let asks : AllAsk p w.threads = spots_ask p (fresh_net p) trace all.obeys.life all.agrees in
    let out : Untouched p net = untouched p trace r in
    record { nodes = out.nodes; links = links_inside p w net all.stands asks out; lives = on_inside p w net all.stands asks out }
