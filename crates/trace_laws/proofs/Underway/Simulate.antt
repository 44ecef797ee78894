-- An event of the cluster, from its start through its midst to its end.
use Rattle.trace_laws.proofs.Underway.Grants.{turn_ok}
use Rattle.trace_laws.proofs.Underway.Turns.{StandsBefore, want_expected, wish_ok, over_expected, over_ok, turn_expected}
use Rattle.std.proofs.Math.Path.{fun_ext}
use Rattle.trace_laws.proofs.Underway.Carried.{carried, packet_apart}
use Rattle.std.proofs.Common.{◌≡◌, ℕ, ◌<◌, List, [], ◌∷◌, ◌++◌, Option, Some, None, Bool, true, false, eqb, cond, refl, sym, ap, ◌∙◌, subst, inl}
use Rattle.std.specs.Prelude.{nat_lt, not, slice_get, length}
use Rattle.std.specs.Map.{lookup}
use Rattle.std.proofs.lemmas.Bool.{eq-eqb, eqb-true, ltb-true, and_parts}
use Rattle.std.proofs.lemmas.List.{append-nil}
use Rattle.slot_space.specs.declared.names.Tid.{Tid}
use Rattle.marcel_core.specs.declared.birth.Birth.{Birth}
use Rattle.marcel_core.specs.Homes.{is_open}
use Rattle.marcel_sync.specs.Semaphores.{node_in}
use Rattle.run_trace.specs.declared.entry.Act.{Act}
use Rattle.run_trace.specs.declared.entry.Act.TheVariants.{Boot, Run as RunThread, Take, Move}
use Rattle.run_trace.specs.declared.label.Label.TheVariants.{Born, Heard, Told, Known, Left, Came, Shown}
use Rattle.run_trace.specs.declared.label.Why.TheVariants as why
use Rattle.run_trace.specs.declared.packet.Body.{Body}
use Rattle.run_trace.specs.declared.packet.Body.TheVariants.{Want, Turn, Over, Mover, Show, ShowDone, JoinAsk, DetachAsk, SemAsk, Answer, EndNote}
use Rattle.run_trace.specs.declared.packet.Packet.{Packet}
use Rattle.run_trace.specs.declared.packet.Send.{Send}
use Rattle.run_trace.specs.declared.node.Wait.TheVariants as wait
use Rattle.run_trace.specs.Names.{is_tid, tid}
use Rattle.run_trace.specs.Calls.{extra_of}
use Rattle.run_trace.specs.Program.{Program, nodes_of, tree_of, processors_of}
use Rattle.run_trace.specs.Guests.{Guest, Thread, waits, stack_end}
use Rattle.levels.specs.Choice.{has_ready}
use Rattle.bubbles.specs.Forests.{ForestView}
use Rattle.run_trace.specs.Bubbles.{is_listed}
use Rattle.run_trace.specs.Local.{Local, EventSoFar, nothing, with_booted}
use Rattle.run_trace.specs.Steps.{tell}
use Rattle.run_trace.specs.Machine.{local_event, acts, is_range, boots, boots_in, free_slot, chooses, choice_limit, goes, moves_found, takes, accepts, is_stray}
use Rattle.run_trace.specs.Cluster.{Event, Net, net_after, next_packet, after_or, IsTaken, Happens}
use Rattle.run_trace.specs.Trace.{event_of}
use Rattle.run_trace.specs.declared.entry.Entry.{Entry}
use Rattle.run_trace.specs.Rules.{Occasion, quantum_in}
use Rattle.run_trace.specs.Console.{shown_by_all}
use Rattle.run_trace.specs.Obeying.{Starts, first_birth}
use Rattle.run_trace.specs.Spots.{lowest_free, Ready, Shown_there, Answered, Unborn, On, Noting, Response, Spots, second_of, after_labels}
use Rattle.run_trace.specs.Stands.{AreInTurn, Here, Stands, Line_shown, Reply, word_subject, word_of, words_of, words_about, way, ways_of, link_part, phase_of}
use Rattle.run_trace.proofs.Lemmas.{is-refl}
use Rattle.run_trace.specs.declared.label.Label.{Label}
use Rattle.trace_laws.proofs.Lists.SeatedLabels.{nobody_departs, listed_ready}
use Rattle.run_trace.specs.World.{World}
use Rattle.trace_laws.proofs.Underway.Midst.{talks_amid, to_do_amid, turn_words, under, none_under, in_turn_kept, IsAsBefore, as_before, Outset, NextAll, Links, Midst, Obeyed, LinkStands, sent_words, at_link, nothing_sent}
use Rattle.trace_laws.proofs.Lists.Parts.{at_way, Tells}
use Rattle.trace_laws.proofs.Lists.Subjects.{subject-refl, less_word, IsOneOf, on_way}
use Rattle.run_trace.specs.Items.{Thread as Subject_of, Turns, Progress, has_to, worked_off, said_all, begins_with, Item, Says, Chooses}
use Rattle.trace_laws.proofs.Underway.Steps.{is_spoken, after_first, on_node}
use Rattle.trace_laws.proofs.Underway.CallSteps.{sent_ok}
use Rattle.trace_laws.proofs.Underway.Lifetimes.{main_born_ok, lowest_is}
use Rattle.trace_laws.proofs.Underway.Takes.{shows_ok, acknowledges_ok, tell_taken_ok, open_birth, may_come_ok, comes_ok}
use Rattle.trace_laws.proofs.Underway.Joins.{hears_ok, hears_detach_ok}
use Rattle.trace_laws.proofs.Underway.Ends.{knows_ok}
use Rattle.trace_laws.proofs.Underway.SemaphoreTakes.{flipped, hears_call_ok}
use Rattle.trace_laws.proofs.Underway.Events.{chooses_ok, choice_ready}
use Rattle.run_trace.specs.Links.{first_of, rest_of, left_after, packets_to}
use Rattle.trace_laws.specs.Obeys.{apart_from_turns, world_at, all_causes}

-- the extra of a judged call is what is told
second-extra : (o : Option ℕ) → second_of (extra_of o) ≡ o
second-extra None = refl
second-extra (Some second) = refl

-- an act and the packet that it takes, before anything is said
abbrev pub asked_of : Act → Option Packet → Occasion
asked_of a o = record { act = a; took = o; said = [] }

-- the event, before it begins with this
abbrev pub outset : Program → Spots → Net → Occasion → ℕ → Progress → Outset
outset p w net q n opening = record { program = p; net = net; occasion = q; node = n; opening = opening; world = world_at w net }

abbrev pub under_way : Net → Links
under_way net i j = words_of j (net.links i j)

-- what the event has to do, by what its node keeps of turns
abbrev pub opens : Net → ℕ → List Item → Progress
opens net n to_do = has_to to_do (net.nodes n).talk

-- what an act leaves on the links
abbrev pub left : Net → ℕ → Act → Links
left net n a i j = words_of j (cond (eqb n j) (left_after i a (net.links i j)) (net.links i j))

-- between events nothing is ahead of any node
nothing_ahead : (n : ℕ) → to_do_amid n [] ≡ (λ k. [])
nothing_ahead n = fun_ext (λ k. elim (eqb n k) as (λ v. cond {A = List Item} v [] [] ≡ []) [ true ↦ refl | false ↦ refl ])

in_turn_before : (net : Net) (n : ℕ) (L : Links) → AreInTurn (λ k. (net.nodes k).talk) (turn_words L) (λ k. []) → AreInTurn (talks_amid net n (net.nodes n).talk) (turn_words L) (to_do_amid n [])
in_turn_before net n L a =
    subst (λ f. AreInTurn f (turn_words L) (to_do_amid n [])) (fun_ext own) (subst (λ f. AreInTurn (λ k. (net.nodes k).talk) (turn_words L) f) (sym (nothing_ahead n)) a)
  where
    own : (k : ℕ) → (net.nodes k).talk ≡ talks_amid net n (net.nodes n).talk k
    own k = elim (eqb n k) as (λ v. eqb n k ≡ v → (net.nodes k).talk ≡ cond v (net.nodes n).talk (net.nodes k).talk) [
      | true ↦ λ e. ap (λ j. (net.nodes j).talk) (sym (eqb-true n k e))
      | false ↦ λ e. refl
    ] refl

-- an item that says something says nothing of turns
alone_spoken : (i : Item) → is_spoken i ≡ true → IsAsBefore [] (i ∷ [])
alone_spoken i e = let a : IsAsBefore (i ∷ []) [] = after_first i e in record { turns = sym a.turns; wants = sym a.wants; serves = sym a.serves }

-- what the event is to do says nothing of turns
abbrev begins : (p : Program) (q : Occasion) (n : ℕ) (opening : List Item) (w : Spots) (net : Net) → IsAsBefore [] opening → Stands p w net → Midst (outset p w net q n (opens net n opening)) opening (under_way net) (nothing (net.nodes n)) []
begins p q n opening w net idle s = record {
  now = world_at w net;
  told = refl;
  allowed = record { solo = tt; holders = tt; life = tt; replies = tt; grants = tt; agrees = tt };
  prints = refl;
  here = subst (λ xs. Here n w (net.nodes n) [] xs) (sym idle.serves) (s.nodes n);
  there = λ k e. s.nodes k;
  links = λ i j. nothing_sent n (under_way net) i j w.threads (s.links i j);
  turns = in_turn_kept net n (net.nodes n).talk (net.nodes n).talk (under_way net) (under n (under_way net) []) [] opening (in_turn_before net n (under_way net) s.turns) refl (λ i j. ap (λ xs. words_about xs Turns) (none_under n (under_way net) i j)) idle.turns idle.wants;
  agrees = s.agrees;
  seated = s.seated;
  covered = s.covered;
  aside = record { still = refl; next = tt; booted = λ h. h };
}

-- ## The end of an event

abbrev pub event : (stamp n round : ℕ) → Act → Option Packet → EventSoFar → Event
event stamp n round a o d = record { stamp = stamp; node = n; round = round; act = a; took = o; labels = d.labels; sends = d.sends; prints = d.prints }

-- an event of a run is what the machine does there
pub event_made : (p : Program) (net : Net) (x : Entry) → (h : Happens p net (event_of p net x)) → event x.stamp x.node x.round x.act (next_packet net x.node x.act) h.step.done ≡ event_of p net x
event_made p net x h = λ i. record {
  stamp = x.stamp;
  node = x.node;
  round = x.round;
  act = x.act;
  took = next_packet net x.node x.act;
  labels = (sym h.step.labels) i;
  sends = (sym h.step.sends) i;
  prints = (sym h.step.prints) i;
}

packets_words : (j s : ℕ) (xs : List Send) → words_of j (packets_to j s xs) ≡ sent_words j xs
packets_words j s [] = refl
packets_words j s (x ∷ xs) = elim (eqb x.to j) as (λ v. words_of j (cond v ((record { stamp = s; body = x.body }) ∷ packets_to j s xs) (packets_to j s xs)) ≡ cond v (word_of j x.body ∷ sent_words j xs) (sent_words j xs))
    [ true ↦ ap (λ bs. word_of j x.body ∷ bs) (packets_words j s xs) | false ↦ packets_words j s xs ]

words_append : (j : ℕ) (ps qs : List Packet) → words_of j (ps ++ qs) ≡ words_of j ps ++ words_of j qs
words_append j [] qs = refl
words_append j (p ∷ ps) qs = ap (λ bs. word_of j p.body ∷ bs) (words_append j ps qs)

words_after : (b : Bool) (ps : List Packet) (j s : ℕ) (xs : List Send) → words_of j ps ++ cond b (sent_words j xs) [] ≡ words_of j (ps ++ cond b (packets_to j s xs) [])
words_after true ps j s xs = ap (λ bs. words_of j ps ++ bs) (sym (packets_words j s xs)) ∙ sym (words_append j ps (packets_to j s xs))
words_after false ps j s xs = append-nil (words_of j ps) ∙ sym (ap (words_of j) (append-nil ps))

-- what is on a link after it
link_after : (n : ℕ) (net : Net) (M : Links) (stamp : ℕ) (a : Act) (sends : List Send) → ((i j : ℕ) → M i j ≡ left net n a i j)
    → (i j : ℕ) → under n M sends i j ≡ words_of j (cond (eqb n j) (left_after i a (net.links i j)) (net.links i j) ++ cond (eqb n i) (packets_to j stamp sends) [])
link_after n net M stamp a sends same i j = ap (λ bs. bs ++ cond (eqb n i) (sent_words j sends) []) (same i j) ∙ words_after (eqb n i) (cond (eqb n j) (left_after i a (net.links i j)) (net.links i j)) j stamp sends

-- and what each node keeps of turns
talk_after : (p : Program) (net : Net) (n : ℕ) (a : Act) (o : Option Packet) (d : EventSoFar) → local_event p n (net.nodes n) a o ≡ Some d
    → (k : ℕ) → (cond (eqb n k) (after_or (local_event p k (net.nodes k) a o) (net.nodes k)) (net.nodes k)).talk ≡ talks_amid net n d.node.talk k
talk_after p net n a o d is k = elim (eqb n k) as (λ b. eqb n k ≡ b → (cond b (after_or (local_event p k (net.nodes k) a o) (net.nodes k)) (net.nodes k)).talk ≡ cond b d.node.talk (net.nodes k).talk) [
  | true ↦ λ e. subst (λ j. (after_or (local_event p j (net.nodes j) a o) (net.nodes j)).talk ≡ d.node.talk) (eqb-true n k e) (ap (λ z. (after_or z (net.nodes n)).talk) is)
  | false ↦ λ e. refl
] refl

-- turns are as they are to be
in_turn_after : {p : Program} {q : Occasion} {opening : Progress} {w : Spots} {net : Net} {n : ℕ} {d : EventSoFar} {M : Links} (stamp round : ℕ) (a : Act) (o : Option Packet) → local_event p n (net.nodes n) a o ≡ Some d
    → Midst (outset p w net q n opening) [] M d [] → ((i j : ℕ) → M i j ≡ left net n a i j)
    → AreInTurn (λ k. ((net_after p net (event stamp n round a o d)).nodes k).talk) (λ i j. words_about (words_of j ((net_after p net (event stamp n round a o d)).links i j)) Turns) (λ k. [])
in_turn_after {p} {net = net} {n} {d} {M} stamp round a o is m same =
    subst (λ f. AreInTurn f (λ i j. words_about (words_of j ((net_after p net (event stamp n round a o d)).links i j)) Turns) (λ k. [])) (sym (fun_ext (talk_after p net n a o d is)))
    (subst (λ f. AreInTurn (talks_amid net n d.node.talk) f (λ k. [])) (fun_ext (λ i. fun_ext (λ j. ap (λ xs. words_about xs Turns) (link_after n net M stamp a d.sends same i j))))
    (subst (λ f. AreInTurn (talks_amid net n d.node.talk) (turn_words (under n M d.sends)) f) (nothing_ahead n) m.turns))

-- what it comes to, nodes and links stand for
ends_well : {p : Program} {q : Occasion} {opening : Progress} {w : Spots} {net : Net} {n : ℕ} {d : EventSoFar} {M : Links} (stamp round : ℕ) (a : Act) (o : Option Packet) → Stands p w net → local_event p n (net.nodes n) a o ≡ Some d
    → Midst (outset p w net q n opening) [] M d [] → ((i j : ℕ) → M i j ≡ left net n a i j)
    → Stands p (after_labels p n d.labels w) (net_after p net (event stamp n round a o d))
ends_well {p = p} {w = w} {net = net} {n = n} {d = d} {M = M} stamp round a o s is m same =
    let v : Spots = m.now.spots in
    subst (λ z. Stands p z (net_after p net (event stamp n round a o d))) (ap (λ (z : World). z.spots) m.told) (record {
      nodes = λ k. elim (eqb n k) as (λ b. eqb n k ≡ b → Here k v (cond b (after_or (local_event p k (net.nodes k) a o) (net.nodes k)) (net.nodes k)) [] []) [
        | true ↦ λ e. subst (λ k. Here k v (after_or (local_event p k (net.nodes k) a o) (net.nodes k)) [] []) (eqb-true n k e) (subst (λ z. Here n v (after_or z (net.nodes n)) [] []) (sym is) m.here)
        | false ↦ λ e. m.there k e
      ] refl;
      links = λ i j. subst (λ bs. LinkStands i j bs v.threads)
          (link_after n net M stamp a d.sends same i j) (m.links i j);
      turns = in_turn_after stamp round a o is m same;
      agrees = m.agrees;
      seated = m.seated;
      covered = m.covered;
    })

-- what an event does to its own node, beside the spots
pub record Beyond (p : Program) (w : Spots) (s now : Local) (n : ℕ) (opening : Progress) (labels : List Label) (sends : List Send) : Type 0 where
  pub next : NextAll p n labels w opening
  pub ends : worked_off n (after_labels p n labels w) (said_all p n labels w opening) ≡ record { sends = sends; to_do = []; talk = now.talk }
  pub booted : s.booted ≡ true → now.booted ≡ true

-- what an event keeps, and the rules that it obeys
pub record Simulates (p : Program) (w : Spots) (net : Net) (e : Event) : Type 0 where
  pub allowed : Obeyed p (asked_of e.act e.took) e.node e.labels (world_at w net)
  pub sends : apart_from_turns e.sends ≡ all_causes p e.node e.labels w
  pub prints : e.prints ≡ shown_by_all p e.node e.labels w
  pub opening : Progress
  pub starts : IsTaken e.stamp e.act e.took → Starts p e.stamp e.node e.act (world_at w net) opening
  pub beyond : (d : EventSoFar) → local_event p e.node (net.nodes e.node) e.act e.took ≡ Some d → Beyond p w (net.nodes e.node) d.node e.node opening e.labels e.sends
  pub stands : Stands p (after_labels p e.node e.labels w) (net_after p net e)

simulated : {p : Program} {w : Spots} {net : Net} {stamp n round : ℕ} {a : Act} {o : Option Packet} {d : EventSoFar} {M : Links} {opening : Progress} → Stands p w net → local_event p n (net.nodes n) a o ≡ Some d
    → Midst (outset p w net (asked_of a o) n opening) [] M d [] → ((i j : ℕ) → M i j ≡ left net n a i j)
    → (IsTaken stamp a o → Starts p stamp n a (world_at w net) opening) → apart_from_turns opening.sends ≡ []
    → Simulates p w net (event stamp n round a o d)
simulated {p = p} {w = w} {stamp = stamp} {n = n} {round = round} {a = a} {o = o} {d = d} {opening = opening} s is m same starts none = record {
  opening = opening;
  starts = starts;
  allowed = m.allowed;
  sends = carried m.aside none;
  prints = m.prints;
  beyond = λ f g.
      let one : d ≡ f = cc (is, g) in
      record {
        next = m.aside.next;
        ends = m.aside.still ∙ ap (λ (z : EventSoFar). record { sends = d.sends; to_do = []; talk = z.node.talk }) one;
        booted = λ h. ap (λ (z : EventSoFar). z.node.booted) (sym one) ∙ m.aside.booted h;
      };
  stands = ends_well stamp round a o s is m same;
}

-- ## The packet that is taken

words_left : (net : Net) (n f : ℕ) (p : Packet) → Some p ≡ first_of (net.links f n) → (i j : ℕ) → at_link f n (less_word (word_subject (word_of n p.body))) (under_way net) i j ≡ left net n (Take f) i j
words_left net n f p h i j = sym (by_tests (eqb n j) (eqb f i) (net.links i j) refl (λ x y. let a : n ≡ j = eqb-true n j x in let b : f ≡ i = eqb-true f i y in cc (h, a, b)))
  where
    head_off : (ps : List Packet) → n ≡ j → Some p ≡ first_of ps → words_of j (rest_of ps) ≡ less_word (word_subject (word_of n p.body)) (words_of j ps)
    head_off [] a h = absurd (cc h)
    head_off (q ∷ ps) a h =
        let e : p ≡ q = cc h in
        let same : word_subject (word_of n p.body) ≡ word_subject (word_of j q.body) = ap (λ k. word_subject (word_of k p.body)) a ∙ ap (λ (z : Packet). word_subject (word_of j z.body)) e in
        subst (λ t. words_of j ps ≡ less_word t (word_of j q.body ∷ words_of j ps)) (sym same) (rw (subject-refl (word_subject (word_of j q.body))) refl)

    by_tests : (x y : Bool) (ps : List Packet) → eqb n j ≡ x → (x ≡ true → y ≡ true → Some p ≡ first_of ps)
        → words_of j (cond x (cond y (rest_of ps) ps) ps) ≡ cond y (cond x (less_word (word_subject (word_of n p.body)) (words_of j ps)) (words_of j ps)) (words_of j ps)
    by_tests true true ps e h = head_off ps (eqb-true n j e) (h refl refl)
    by_tests true false ps e h = refl
    by_tests false true ps e h = refl
    by_tests false false ps e h = refl

none_left : (net : Net) (n : ℕ) (a : Act) → ((i : ℕ) (ps : List Packet) → left_after i a ps ≡ ps) → (i j : ℕ) → under_way net i j ≡ left net n a i j
none_left net n a h i j = elim (eqb n j) as (λ v. words_of j (net.links i j) ≡ words_of j (cond v (left_after i a (net.links i j)) (net.links i j))) [ true ↦ ap (words_of j) (sym (h i (net.links i j))) | false ↦ refl ]

-- what the first packet of a link tells of its thread
pub first_tells : (p : Program) (w : Spots) (net : Net) → Stands p w net → (f n : ℕ) (x : Packet) (t : Tid) → Some x ≡ first_of (net.links f n) → word_subject (word_of n x.body) ≡ Subject_of t
    → Tells t f n (word_of n x.body) (w.threads t).life (w.threads t).verdict (w.threads t).guest
first_tells p w net s f n x t h name =
    let part : IsOneOf (word_of n x.body) (link_part f n t w.threads) = subst (λ xs. IsOneOf (word_of n x.body) xs) (s.links f n t) (head_of (net.links f n) h) in
    at_way t (w.threads t).life (w.threads t).verdict (w.threads t).guest _ (on_way f n (ways_of t (w.threads t).life (w.threads t).verdict (w.threads t).guest) (word_of n x.body) part)
  where
    head_of : (ps : List Packet) → Some x ≡ first_of ps → IsOneOf (word_of n x.body) (words_about (words_of n ps) (Subject_of t))
    head_of [] h = absurd (cc h)
    head_of (y ∷ ps) h =
        let e : x ≡ y = cc h in
        let of : word_subject (word_of n y.body) ≡ Subject_of t = ap (λ (z : Packet). word_subject (word_of n z.body)) (sym e) ∙ name in
        rw (of, is-refl t) (inl (ap (λ (z : Packet). word_of n z.body) (sym e)))

module _ (p : Program) (w : Spots) (net : Net) (s : Stands p w net) (q : Occasion) (n : ℕ) where
  abbrev here : (opening : List Item) (idle : IsAsBefore [] opening) → Midst (outset p w net q n (opens net n opening)) opening (under_way net) (nothing (net.nodes n)) []
  here opening idle = begins p q n opening w net idle s

  -- an item that says something, and is all that there is to do
  abbrev at_first : (i : Item) → is_spoken i ≡ true → Midst (outset p w net q n (opens net n (i ∷ []))) (i ∷ []) (under_way net) (nothing (net.nodes n)) []
  at_first i spoken = here (i ∷ []) (alone_spoken i spoken)

  in_cluster : (t : Tid) → ((w.threads t).life ≡ Unborn → ⊥) → nat_lt t.home (nodes_of p) ≡ true
  in_cluster t h = elim (nat_lt t.home (nodes_of p)) as (λ v. nat_lt t.home (nodes_of p) ≡ v → v ≡ true) [ true ↦ λ e. refl | false ↦ λ e. absurd (h (s.agrees.homes t e)) ] refl

  record Taken (i : ℕ) (body : Body) : Type 0 where
    expected : is_stray p n i (net.nodes n) body ≡ false
    comes : nat_lt n (nodes_of p) ≡ true → Midst (outset p w net q n (begins_with n i body (net.nodes n).talk)) [] (at_link i n (less_word (word_subject (word_of n body))) (under_way net)) (accepts n i body (net.nodes n)) []

  before : StandsBefore p net n w (under_way net)
  before = record { nodes = s.nodes; links = s.links; turns = s.turns; agrees = s.agrees; seated = s.seated; covered = s.covered }

  -- the word of the packet that is taken is the first of its link
  first_word : (i : ℕ) (x : Packet) → Some x ≡ first_of (net.links i n) → under_way net i n ≡ word_of n x.body ∷ words_of n (rest_of (net.links i n))
  first_word i x h = by (net.links i n) h
    where
      by : (ps : List Packet) → Some x ≡ first_of ps → words_of n ps ≡ word_of n x.body ∷ words_of n (rest_of ps)
      by [] e = absurd (cc e)
      by (y ∷ ps) e = let same : x ≡ y = cc e in ap (λ (z : Packet). word_of n z.body ∷ words_of n ps) (sym same)

  taken : (i : ℕ) (x : Packet) → Some x ≡ first_of (net.links i n) → Taken i x.body
  taken i x h = by x.body (first_word i x h) (λ t e. first_tells p w net s i n x t h e)
    where
      by : (body : Body) → under_way net i n ≡ word_of n body ∷ words_of n (rest_of (net.links i n)) → ((t : Tid) → word_subject (word_of n body) ≡ Subject_of t → Tells t i n (word_of n body) (w.threads t).life (w.threads t).verdict (w.threads t).guest) → Taken i body
      by (Mover z) first tells =
          let k = tells (z.tid) refl in
          let t : Tid = z.tid in
          let g : Guest = (w.threads t).guest in
          subst (λ y. Taken i (Mover y)) (sym k.1)
          (record {
            expected = ap not (may_come_ok (net.nodes n) i t (here [] as_before) k.0 (in_cluster t (λ e. absurd (cc (e, k.0)))));
            comes = λ below. comes_ok (net.nodes n) i t (at_first (Says (Came t)) refl) k.0;
          })
      by (Show t bytes) first tells =
          let k = tells t refl in
          record {
            expected = rw (k.2, in_cluster t (λ e. absurd (cc (e, k.1)))) refl;
            comes = λ below. acknowledges_ok _ t i [] (shows_ok (net.nodes n) i t bytes (at_first (Says (Shown t)) refl) k.1 k.2);
          }
      by (ShowDone t) first tells =
          let k = tells t refl in
          let v : Response = (w.threads t).verdict in
          record {
            expected = rw (on_node t Shown_there (here [] as_before) k.1, in_cluster t (λ e. absurd (cc (e, k.1)))) refl;
            comes = λ below. subst (λ z. Midst (outset p w net q n (opens net n (Says (Told t) ∷ []))) [] (at_link i n (less_word (Subject_of t)) (under_way net)) (tell t z None (nothing (net.nodes n))) []) k.3
                (subst (λ z. Midst (outset p w net q n (opens net n (Says (Told t) ∷ []))) [] (at_link i n (less_word (Subject_of t)) (under_way net)) (tell t v.code (second_of z) (nothing (net.nodes n))) []) k.4
                (tell_taken_ok (net.nodes n) i t Shown_there wait.ForShow (Line_shown t v.code v.extra) (at_first (Says (Told t)) refl) k.1 refl refl (ap (λ z. way z n (Line_shown t v.code v.extra)) (sym k.2)) (record { thread = refl; idle = λ j. refl; held = refl; plain = refl })));
          }
      by (JoinAsk t seq) first tells =
          let k = tells t refl in
          record {
            expected = rw (in_cluster t (λ e. absurd (cc (e, k.1)))) refl;
            comes = λ below. hears_ok (net.nodes n) i seq t (at_first (Says (Heard t)) refl) k.1;
          }
      by (DetachAsk t seq) first tells =
          let k = tells t refl in
          record {
            expected = rw (in_cluster t (λ e. absurd (cc (e, k.1)))) refl;
            comes = λ below. hears_detach_ok (net.nodes n) i seq t (at_first (Says (Heard t)) refl) k.1;
          }
      by (SemAsk t id up) first tells =
          let k = tells t refl in
          let away : eqb n i ≡ false = ap (λ z. eqb z i) k.2 ∙ s.agrees.signals t i id up k.1 in
          record {
            expected = rw (in_cluster t (λ e. absurd (cc (e, k.1))), flipped n i away, eq-eqb (node_in id) n (sym k.2)) refl;
            comes = λ below. hears_call_ok (net.nodes n) i id up t (at_first (Says (Heard t)) refl) (record { was = k.1; node = sym k.2; away = away });
          }
      by (Answer t reply second) first tells =
          let k = tells t refl in
          let v : Response = (w.threads t).verdict in
          record {
            expected = rw (on_node t (Answered i) (here [] as_before) k.1, in_cluster t (λ e. absurd (cc (e, k.1)))) refl;
            comes = λ below. subst (λ z. Midst (outset p w net q n (opens net n (Says (Told t) ∷ []))) [] (at_link i n (less_word (Subject_of t)) (under_way net)) (tell t z second (nothing (net.nodes n))) []) k.2
                (subst (λ z. Midst (outset p w net q n (opens net n (Says (Told t) ∷ []))) [] (at_link i n (less_word (Subject_of t)) (under_way net)) (tell t v.code z (nothing (net.nodes n))) []) (ap second_of k.3 ∙ second-extra second)
                (tell_taken_ok (net.nodes n) i t (Answered i) wait.ForAnswer (Reply t v.code v.extra) (at_first (Says (Told t)) refl) k.1 refl refl refl (record { thread = refl; idle = λ j. refl; held = refl; plain = refl })));
          }
      by (EndNote seq end) first tells =
          let k = tells (tid n seq) refl in
          let x : (w.threads (tid n seq)).life ≡ Noting i end = k.1 in
          let opened : is_open (slice_get (w.births n) seq) ≡ true = open_birth (slice_get (w.births n) seq) (s.agrees.named (tid n seq) ∙ ap phase_of x) in
          record {
            expected = ap (λ (bs : List Birth). not (is_open (slice_get bs seq))) (s.nodes n).births ∙ ap not opened;
            comes = λ below. knows_ok (net.nodes n) i seq end (at_first (Says (Known (tid n seq))) refl) x;
          }
      by Want first tells = record { expected = want_expected p net q n (world_at w net) (under_way net) before i _ first; comes = λ below. wish_ok p net q n (world_at w net) (under_way net) before i _ first }
      by Over first tells = record { expected = over_expected p net q n (world_at w net) (under_way net) before i _ first; comes = λ below. over_ok p net q n (world_at w net) (under_way net) before i _ first }
      by Turn first tells = record { expected = turn_expected p net q n (world_at w net) (under_way net) before i _ first; comes = λ below. turn_ok p net q n (world_at w net) (under_way net) before below i _ first }

  -- ## A thread on a run list of the node

  -- by the labels too, and between events it is ready
  listed_told : (t : Tid) → is_listed t (net.nodes n).forest ≡ true → is_listed t (w.forests n) ≡ true
  listed_told t h = ap (is_listed t) (sym (s.nodes n).forest) ∙ h

  ready_told : (t : Tid) → is_listed t (net.nodes n).forest ≡ true → (w.threads t).life ≡ On n Ready
  ready_told t h = listed_ready p n t w (s.seated n) (nobody_departs n w.threads [] (s.nodes n).busy tt) (listed_told t h)

  -- ## A move

  sent : (t : Tid) (to : ℕ) (x : Thread) → is_listed t (net.nodes n).forest ≡ true → lookup (is_tid t) (net.nodes n).threads ≡ Some x → to < nodes_of p → (to ≡ n → ⊥)
      → Midst (outset p w net q n (opens net n (Says (Left t to) ∷ []))) [] (under_way net) (goes p t to x (nothing (net.nodes n))) []
  sent t to x listed f inside other =
      let ready : (w.threads t).life ≡ On n Ready = ready_told t listed in
      let same : Some (waits wait.No (w.threads t).guest) ≡ Some x = sym (on_node t Ready (here [] as_before) ready) ∙ f in
      let one : waits wait.No (w.threads t).guest ≡ x = cc same in
      subst (λ z. Midst (outset p w net q n (opens net n (Says (Left t to) ∷ []))) [] (under_way net) (goes p t to z (nothing (net.nodes n))) []) one
      (sent_ok (nothing (net.nodes n)) t to (at_first (Says (Left t to)) refl) ready (listed_told t listed) inside other)

  -- ## A choice of a processor

  -- a list of the processor's has an entity
  has_choice : (vp k : ℕ) (d : EventSoFar) → chooses p n vp (quantum_in q.act) k (nothing (net.nodes n)) ≡ Some d → has_ready (tree_of p) vp (w.forests n).lists.rows ≡ true
  has_choice vp k d h = subst (λ z. has_ready z vp (w.forests n).lists.rows ≡ true) (s.seated n).tree
      (subst (λ (f : ForestView). has_ready f.lists.tree vp f.lists.rows ≡ true) (s.nodes n).forest (choice_ready p n vp (quantum_in q.act) k (nothing (net.nodes n)) d h))

  chosen_midst : nat_lt n (nodes_of p) ≡ true → (vp k : ℕ) → vp < processors_of p → (d : EventSoFar) → chooses p n vp (quantum_in q.act) k (nothing (net.nodes n)) ≡ Some d → Midst (outset p w net q n (opens net n (Chooses vp ∷ []))) [] (under_way net) d []
  chosen_midst below vp k some d h = chooses_ok below k vp (nothing (net.nodes n)) d some (at_first (Chooses vp) refl) h

  -- ## A beginning

  boots_midst : nat_lt n (nodes_of p) ≡ true → Midst (outset p w net q n (opens net n (cond (eqb n 0) (first_birth p n (lowest_free n 1 w) w) []))) [] (under_way net) (boots p n (nothing (net.nodes n))) []
  boots_midst below = by (eqb n 0) refl
    where
      awake : (opening : List Item) → IsAsBefore [] opening → Midst (outset p w net q n (opens net n opening)) opening (under_way net) (with_booted (nothing (net.nodes n))) []
      awake opening idle = let k = here opening idle in record {
        now = k.now;
        told = k.told;
        allowed = k.allowed;
        turns = k.turns;
        prints = k.prints;
        there = k.there;
        links = k.links;
        agrees = k.agrees;
        seated = k.seated;
        covered = k.covered;
        aside = record { still = refl; next = tt; booted = λ h. refl };
        here = record { threads = k.here.threads; forest = k.here.forest; busy = k.here.busy; seekers = k.here.seekers; births = k.here.births; sems = k.here.sems; free = k.here.free; halted = k.here.halted };
      }

      by_slot : n ≡ 0 → (o : Option ℕ) → free_slot (net.nodes n).slots.free ≡ o → Midst (outset p w net q n (opens net n (first_birth p n o w))) [] (under_way net) (boots_in p n o (with_booted (nothing (net.nodes n)))) []
      by_slot zero None f = awake [] as_before
      by_slot zero (Some slot) f =
          let i : Item = Says (Born (tid n (length (w.births n))) why.Main p.image.main 0 0 (stack_end slot) slot) in
          main_born_ok below (with_booted (nothing (net.nodes n))) slot i (awake (i ∷ []) (alone_spoken i refl)) refl zero f

      by : (v : Bool) → eqb n 0 ≡ v → Midst (outset p w net q n (opens net n (cond v (first_birth p n (lowest_free n 1 w) w) []))) [] (under_way net) (cond v (boots_in p n (free_slot (net.nodes n).slots.free) (with_booted (nothing (net.nodes n)))) (with_booted (nothing (net.nodes n)))) []
      by true e = subst (λ o. Midst (outset p w net q n (opens net n (first_birth p n o w))) [] (under_way net) (boots_in p n (free_slot (net.nodes n).slots.free) (with_booted (nothing (net.nodes n)))) []) (sym (lowest_is n 1 w (net.nodes n) [] [] (s.nodes n)))
          (by_slot (eqb-true n 0 e) (free_slot (net.nodes n).slots.free) refl)
      by false e = awake [] as_before

-- the packet that comes is one that the node expects
pub taken_expected : (p : Program) (w : Spots) (net : Net) (s : Stands p w net) (q : Occasion) (n i : ℕ) (x : Packet) → Some x ≡ first_of (net.links i n) → is_stray p n i (net.nodes n) x.body ≡ false
taken_expected p w net s q n i x h = (taken p w net s q n i x h).expected

-- ## Each act

range_below : (p : Program) (n : ℕ) (s : Local) (a : Act) → is_range p n s a ≡ true → nat_lt n (nodes_of p) ≡ true
unfolding is_range
range_below p n s Boot h = (and_parts (nat_lt n (nodes_of p)) _ h).0
range_below p n s (RunThread vp quantum) h = (and_parts (nat_lt n (nodes_of p)) _ h).0
range_below p n s (Take from) h = (and_parts (nat_lt n (nodes_of p)) _ h).0
range_below p n s (Move t to) h = (and_parts (nat_lt n (nodes_of p)) _ h).0

-- a processor is one of the tree
range_processor : (p : Program) (n : ℕ) (s : Local) (vp quantum : ℕ) → is_range p n s (RunThread vp quantum) ≡ true → vp < processors_of p
unfolding is_range
range_processor p n s vp quantum h =
    let a = and_parts (nat_lt n (nodes_of p)) _ h in
    let b = and_parts s.booted _ a.1 in
    ltb-true vp (processors_of p) (and_parts (nat_lt vp (processors_of p)) _ b.1).0

-- a thread is sent to another node of the cluster
range_to : (p : Program) (n : ℕ) (s : Local) (t : Tid) (to : ℕ) → is_range p n s (Move t to) ≡ true → (to < nodes_of p) × (to ≡ n → ⊥)
unfolding is_range
range_to p n s t to h =
    let a = and_parts (nat_lt n (nodes_of p)) _ h in
    let b = and_parts s.booted _ a.1 in
    let c = and_parts (nat_lt to (nodes_of p)) _ b.1 in
    (ltb-true to (nodes_of p) c.0, λ e. (let same : eqb to n ≡ true = eq-eqb to n e in absurd (cc (same, c.1))))

opened : (p : Program) (n : ℕ) (s : Local) (a : Act) (o : Option Packet) (d : EventSoFar) → local_event p n s a o ≡ Some d → cond (is_range p n s a) (acts p n s a o) None ≡ Some d
unfolding local_event
opened p n s a o d h = h

-- an event is in range, and is what its act does
pub possible : (p : Program) (n : ℕ) (s : Local) (a : Act) (o : Option Packet) (d : EventSoFar) → local_event p n s a o ≡ Some d → (is_range p n s a ≡ true) × (acts p n s a o ≡ Some d)
possible p n s a o d is = by (is_range p n s a) refl (opened p n s a o d is)
  where
    by : (v : Bool) → is_range p n s a ≡ v → cond v (acts p n s a o) None ≡ Some d → (is_range p n s a ≡ true) × (acts p n s a o ≡ Some d)
    by true e g = (e, g)
    by false e g = absurd (cc g)

-- an event, case by case
pub simulates : (p : Program) (w : Spots) (net : Net) (stamp n round : ℕ) (a : Act) (o : Option Packet) (d : EventSoFar) → Stands p w net → local_event p n (net.nodes n) a o ≡ Some d → o ≡ next_packet net n a
    → Simulates p w net (event stamp n round a o d)
simulates p w net stamp n round Boot None d s is h =
    let same : boots p n (nothing (net.nodes n)) ≡ d = cc (possible p n (net.nodes n) Boot None d is).1 in
    let opening : List Item = cond (eqb n 0) (first_birth p n (lowest_free n 1 w) w) [] in
    simulated s is (subst (λ z. Midst (outset p w net (asked_of Boot None) n (opens net n opening)) [] (under_way net) z []) same (boots_midst p w net s (asked_of Boot None) n (range_below p n (net.nodes n) Boot (possible p n (net.nodes n) Boot None d is).0))) (none_left net n Boot (λ i ps. refl)) (λ k. refl) refl
simulates p w net stamp n round (RunThread vp quantum) None d s is h =
    let q : Occasion = asked_of (RunThread vp quantum) None in
    let k = possible p n (net.nodes n) (RunThread vp quantum) None d is in
    simulated s is (chosen_midst p w net s q n (range_below p n (net.nodes n) (RunThread vp quantum) k.0) vp (choice_limit (net.nodes n).forest) (range_processor p n (net.nodes n) vp quantum k.0) d k.1)
    (none_left net n (RunThread vp quantum) (λ i ps. refl)) (λ taken. (has_choice p w net s q n vp (choice_limit (net.nodes n).forest) d k.1, refl)) refl
simulates p w net stamp n round (Take from) (Some x) d s is h =
    let same : takes p n from x.body (net.nodes n) ≡ d = cc (possible p n (net.nodes n) (Take from) (Some x) d is).1 in
    let k : Taken p w net s (asked_of (Take from) (Some x)) n from x.body = taken p w net s (asked_of (Take from) (Some x)) n from x h in
    let accepted : accepts n from x.body (net.nodes n) ≡ d = sym (ap (λ z. cond z (nothing (net.nodes n)) (accepts n from x.body (net.nodes n))) k.expected) ∙ same in
    simulated s is (subst (λ z. Midst (outset p w net (asked_of (Take from) (Some x)) n (begins_with n from x.body (net.nodes n).talk)) [] (at_link from n (less_word (word_subject (word_of n x.body))) (under_way net)) z []) accepted (k.comes (range_below p n (net.nodes n) (Take from) (possible p n (net.nodes n) (Take from) (Some x) d is).0)))
    (words_left net n from x h) (λ before. (x, sym h, before, refl)) (packet_apart from x.body (net.nodes n).talk)
simulates p w net stamp n round (Move t to) None d s is h = by_listed (is_listed t (net.nodes n).forest) refl (possible p n (net.nodes n) (Move t to) None d is).1
  where
    by_thread : is_listed t (net.nodes n).forest ≡ true → (x : Option Thread) → lookup (is_tid t) (net.nodes n).threads ≡ x → moves_found p t to x (net.nodes n) ≡ Some d → Simulates p w net (event stamp n round (Move t to) None d)
    by_thread e None f g = absurd (cc g)
    by_thread e (Some x) f g =
        let same : goes p t to x (nothing (net.nodes n)) ≡ d = cc g in
        let inside = range_to p n (net.nodes n) t to (possible p n (net.nodes n) (Move t to) None d is).0 in
        simulated s is (subst (λ z. Midst (outset p w net (asked_of (Move t to) None) n (opens net n (Says (Left t to) ∷ []))) [] (under_way net) z []) same (sent p w net s (asked_of (Move t to) None) n t to x e f inside.0 inside.1))
        (none_left net n (Move t to) (λ i ps. refl)) (λ j. (listed_told p w net s (asked_of (Move t to) None) n t e, refl)) refl

    by_listed : (v : Bool) → is_listed t (net.nodes n).forest ≡ v → cond v (moves_found p t to (lookup (is_tid t) (net.nodes n).threads) (net.nodes n)) None ≡ Some d → Simulates p w net (event stamp n round (Move t to) None d)
    by_listed true e g = by_thread e (lookup (is_tid t) (net.nodes n).threads) refl g
    by_listed false e g = absurd (cc g)
simulates p w net stamp n round Boot (Some x) d s is h = absurd (cc h)
simulates p w net stamp n round (RunThread vp q) (Some x) d s is h = absurd (cc h)
simulates p w net stamp n round (Take from) None d s is h = absurd (cc (possible p n (net.nodes n) (Take from) None d is).1)
simulates p w net stamp n round (Move t to) (Some x) d s is h = absurd (cc h)

pub event_below : (p : Program) (n : ℕ) (s : Local) (a : Act) (o : Option Packet) (d : EventSoFar) → local_event p n s a o ≡ Some d → nat_lt n (nodes_of p) ≡ true
event_below p n s a o d is = range_below p n s a (possible p n s a o d is).0
