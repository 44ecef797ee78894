-- Each event of the machine is an entry by the rules of the labels alone, and there is no other.
use Rattle.std.proofs.Common.{◌≡◌, ℕ, zero, suc, ◌<◌, List, [], ◌∷◌, ◌++◌, length, arith, Option, Some, None, Bool, true, false, eqb, cond, refl, sym, ap, ◌∙◌, subst}
use Rattle.std.specs.Prelude.{⊤, nat_lt}
use Rattle.std.specs.Map.{lookup}
use Rattle.std.proofs.Math.Path.{fun_ext}
use Rattle.std.proofs.lemmas.Bool.{eqb-true, ltb-true, and_parts}
use Rattle.run_trace.specs.declared.entry.Act.{Act}
use Rattle.run_trace.specs.declared.entry.Act.TheVariants.{Boot, Run as RunThread, Take, Move}
use Rattle.run_trace.specs.declared.entry.Entry.{Entry}
use Rattle.run_trace.specs.declared.label.Label.{Label}
use Rattle.run_trace.specs.declared.label.Label.TheVariants.{Down, Burst}
use Rattle.run_trace.specs.declared.packet.Packet.{Packet}
use Rattle.slot_space.specs.declared.names.Tid.{Tid}
use Rattle.levels.specs.Choice.{has_ready}
use Rattle.bubbles.specs.declared.bubble.Shift.{Shift}
use Rattle.bubbles.specs.Changes.{PicksEnd}
use Rattle.bubbles.specs.Forests.{ForestView}
use Rattle.bubbles.specs.Picking.{step, Picks}
use Rattle.run_trace.specs.Names.{is_tid}
use Rattle.run_trace.specs.Guests.{Thread}
use Rattle.run_trace.specs.Program.{Program, nodes_of, tree_of, processors_of}
use Rattle.run_trace.specs.Bubbles.{is_listed}
use Rattle.run_trace.specs.Local.{Local, EventSoFar, nothing, with_booted}
use Rattle.run_trace.specs.Steps.{say, enter, thread_in, birth_in, slots_out, birth, thread_at, choose, shifted}
use Rattle.run_trace.specs.Machine.{local_event, acts, is_range, boots, boots_in, free_slot, run_found, chosen_by, chooses, choice_limit, moves_found}
use Rattle.run_trace.specs.Cluster.{Net, net_after, next_packet, after_or, IsTaken}
use Rattle.run_trace.specs.Trace.{IsRun, Fits, net_after_trace, event_of}
use Rattle.run_trace.specs.Rules.{Occasion, saying, spots_of}
use Rattle.run_trace.specs.Talks.{Talk}
use Rattle.run_trace.specs.Spots.{Spots, lowest_free, after_label, after_labels}
use Rattle.run_trace.specs.Stands.{Stands}
use Rattle.run_trace.specs.World.{World, world_after}
use Rattle.run_trace.specs.Obeying.{may_act, first_birth, Starts, GoesOn, IsEntry, KeepsRules}
use Rattle.trace_laws.specs.Obeys.{world_at}
use Rattle.trace_laws.proofs.Underway.Midst.{NextAll, Obeyed}
use Rattle.trace_laws.proofs.Underway.Simulate.{asked_of, Simulates, Beyond, simulates, event, event_made, possible}
use Rattle.trace_laws.proofs.Outcomes.RunLists.{listed_there, picked_there, pick_ends}
use Rattle.trace_laws.proofs.Merging.Determined.{fits_exactly}
use Rattle.trace_laws.proofs.Outcomes.Wholes.{run_whole}
use Rattle.trace_laws.proofs.Rules.OneTrace.{one_entry}
use Rattle.run_trace.specs.Links.{left_after, packets_to}
use Rattle.run_trace.specs.Items.{Item, Says, Chooses, Progress, has_to, worked_off, said, said_all, takes_packet, taking}
use Rattle.run_trace.specs.Telling.{entry_end, after_entry, world_of}

-- ## The labels

goes_on : (p : Program) (q : Occasion) (n : ℕ) (ls : List Label) (w : World) (r : Progress) → Obeyed p q n ls w → NextAll p n ls w.spots r → (worked_off n (after_labels p n ls w.spots) (said_all p n ls w.spots r)).to_do ≡ [] → GoesOn p q n ls w r
goes_on p q n [] w r o k e = e
goes_on p q n (l ∷ ls) w r o k e = (
  k.0,
  record { solo = o.solo.0; holders = o.holders.0; life = o.life.0; replies = o.replies.0; grants = o.grants.0 },
  goes_on p (saying l q) n ls (world_after p n l w) (said p n l w.spots (worked_off n w.spots r)) (record { solo = o.solo.1; holders = o.holders.1; life = o.life.1; replies = o.replies.1; grants = o.grants.1; agrees = o.agrees.1 }) k.1 e,
)

-- ## What the entry has sent at its end is told by its packet and its labels alone

-- one that begins with a label, or with a choice, has to say it, and is past it then
abbrev IsSaid : Item → Type 0
IsSaid (Says l) = ⊤
IsSaid (Chooses vp) = ⊤
IsSaid _ = ⊥

first_said : (p : Program) (n : ℕ) (ls : List Label) (w v : Spots) (i : Item) (talk : Talk) → IsSaid i → (worked_off n v (said_all p n ls w (has_to (i ∷ []) talk))).to_do ≡ [] → said_all p n ls w (has_to [] talk) ≡ said_all p n ls w (has_to (i ∷ []) talk)
first_said p n [] w v (Says m) talk k e = absurd (cc e)
first_said p n [] w v (Chooses vp) talk k e = absurd (cc e)
first_said p n (Down bubble list ∷ ls) w v (Says m) talk k e = first_said p n ls (after_label p n (Down bubble list) w) v (Says m) talk k e
first_said p n (Down bubble list ∷ ls) w v (Chooses vp) talk k e = first_said p n ls (after_label p n (Down bubble list) w) v (Chooses vp) talk k e
first_said p n (Burst bubble list ∷ ls) w v (Says m) talk k e = first_said p n ls (after_label p n (Burst bubble list) w) v (Says m) talk k e
first_said p n (Burst bubble list ∷ ls) w v (Chooses vp) talk k e = first_said p n ls (after_label p n (Burst bubble list) w) v (Chooses vp) talk k e
first_said p n (l ∷ ls) w v (Says m) talk k e = refl
first_said p n (l ∷ ls) w v (Chooses vp) talk k e = refl
first_said p n ls w v i talk k e = absurd k

first_is : (p : Program) (n : ℕ) (ls : List Label) (w v : Spots) (i : Item) (talk : Talk) (r : Progress) → IsSaid i → r ≡ has_to (i ∷ []) talk → (worked_off n v (said_all p n ls w r)).to_do ≡ [] → said_all p n ls w (has_to [] talk) ≡ said_all p n ls w r
first_is p n ls w v i talk r k same e = first_said p n ls w v i talk k (subst (λ (z : Progress). (worked_off n v (said_all p n ls w z)).to_do ≡ []) same e) ∙ ap (said_all p n ls w) (sym same)

birth_is : (p : Program) (n : ℕ) (ls : List Label) (w v : Spots) (o : Option ℕ) (talk : Talk) (r : Progress) → r ≡ has_to (first_birth p n o w) talk → (worked_off n v (said_all p n ls w r)).to_do ≡ [] → said_all p n ls w (has_to [] talk) ≡ said_all p n ls w r
birth_is p n ls w v None talk r same e = ap (said_all p n ls w) (sym same)
birth_is p n ls w v (Some slot) talk r same e = first_is p n ls w v _ talk r tt same e

beginning_is : (p : Program) (n : ℕ) (ls : List Label) (w v : Spots) (b : Bool) (talk : Talk) (r : Progress) → r ≡ has_to (cond b (first_birth p n (lowest_free n 1 w) w) []) talk → (worked_off n v (said_all p n ls w r)).to_do ≡ [] → said_all p n ls w (has_to [] talk) ≡ said_all p n ls w r
beginning_is p n ls w v true talk r same e = birth_is p n ls w v (lowest_free n 1 w) talk r same e
beginning_is p n ls w v false talk r same e = ap (said_all p n ls w) (sym same)

taking_is : (p : Program) (stamp n : ℕ) (a : Act) (ls : List Label) (w : World) (v : Spots) (r : Progress) → Starts p stamp n a w r → (worked_off n v (said_all p n ls w.spots r)).to_do ≡ []
    → said_all p n ls w.spots (taking n a w.links (w.talks n)) ≡ said_all p n ls w.spots r
taking_is p stamp n Boot ls w v r k e = beginning_is p n ls w.spots v (eqb n 0) (w.talks n) r k e
taking_is p stamp n (RunThread vp q) ls w v r k e = first_is p n ls w.spots v _ (w.talks n) r tt k.1 e
taking_is p stamp n (Take from) ls w v r k e = ap (λ z. said_all p n ls w.spots (takes_packet n from z (w.talks n))) k.1 ∙ ap (said_all p n ls w.spots) (sym k.3)
taking_is p stamp n (Move t to) ls w v r k e = first_is p n ls w.spots v _ (w.talks n) r tt k.1 e

-- ## Acts that may be

may_is : (p : Program) (n : ℕ) (s : Local) (a : Act) → is_range p n s a ≡ may_act p n s.booted a
unfolding is_range
may_is p n s Boot = refl
may_is p n s (RunThread vp q) = refl
may_is p n s (Take from) = refl
may_is p n s (Move t to) = refl

-- ## An event is an entry

module _ (p : Program) (net : Net) (n : ℕ) (d : EventSoFar) where
  -- the node has begun
  boots_booted : boots p n (nothing (net.nodes n)) ≡ d → d.node.booted ≡ true
  unfolding birth enter thread_in birth_in slots_out say
  boots_booted e = by (eqb n 0) e
    where
      by_slot : (o : Option ℕ) → boots_in p n o (with_booted (nothing (net.nodes n))) ≡ d → d.node.booted ≡ true
      by_slot None g = ap (λ (z : EventSoFar). z.node.booted) (sym g)
      by_slot (Some slot) g = ap (λ (z : EventSoFar). z.node.booted) (sym g)

      by : (v : Bool) → cond v (boots_in p n (free_slot (net.nodes n).slots.free) (with_booted (nothing (net.nodes n)))) (with_booted (nothing (net.nodes n))) ≡ d → d.node.booted ≡ true
      by true g = by_slot (free_slot (net.nodes n).slots.free) g
      by false g = ap (λ (z : EventSoFar). z.node.booted) (sym g)

  booted : (a : Act) (o : Option Packet) → is_range p n (net.nodes n) a ≡ true → acts p n (net.nodes n) a o ≡ Some d → ((net.nodes n).booted ≡ true → d.node.booted ≡ true) → d.node.booted ≡ true
  unfolding is_range
  booted Boot None h e k = boots_booted (cc e)
  booted Boot (Some x) h e k = absurd (cc e)
  booted (RunThread vp q) o h e k = k (and_parts (net.nodes n).booted _ (and_parts (nat_lt n (nodes_of p)) _ h).1).0
  booted (Take from) o h e k = k (and_parts (net.nodes n).booted _ (and_parts (nat_lt n (nodes_of p)) _ h).1).0
  booted (Move t to) o h e k = k (and_parts (net.nodes n).booted _ (and_parts (nat_lt n (nodes_of p)) _ h).1).0

abbrev entry_with : (stamp n round : ℕ) → Act → List Label → Entry
entry_with stamp n round a ls = record { stamp = stamp; node = n; round = round; act = a; labels = ls }

pub entry_is : (p : Program) (w : Spots) (net : Net) → Stands p w net → (stamp n round : ℕ) (a : Act) (o : Option Packet) (d : EventSoFar) → local_event p n (net.nodes n) a o ≡ Some d → o ≡ next_packet net n a → IsTaken stamp a o
    → IsEntry p (world_at w net) (entry_with stamp n round a d.labels)
entry_is p w net st stamp n round a o d is h before =
    let k : Simulates p w net (event stamp n round a o d) = simulates p w net stamp n round a o d st is h in
    let b : Beyond p w (net.nodes n) d.node n k.opening d.labels d.sends = k.beyond d is in
    record {
      may = sym (may_is p n (net.nodes n) a) ∙ (possible p n (net.nodes n) a o d is).0;
      first = k.opening;
      starts = k.starts before;
      goes = subst (λ z. GoesOn p (asked_of a z) n d.labels (world_at w net) k.opening) h
          (goes_on p (asked_of a o) n d.labels (world_at w net) k.opening k.allowed b.next (ap (λ (r : Progress). r.to_do) b.ends));
    }

-- a part of the nodes after an event whose own node has changed it so
each_part : {T : Type 0} (part : Local → T) (own : T → T) (p : Program) (net : Net) (stamp n round : ℕ) (a : Act) (o : Option Packet) (d : EventSoFar) → local_event p n (net.nodes n) a o ≡ Some d → part d.node ≡ own (part (net.nodes n))
    → (m : ℕ) → part ((net_after p net (event stamp n round a o d)).nodes m) ≡ cond (eqb n m) (own (part (net.nodes m))) (part (net.nodes m))
each_part part own p net stamp n round a o d is k m = elim (eqb n m) as (λ v. eqb n m ≡ v → part (cond v (after_or (local_event p m (net.nodes m) a o) (net.nodes m)) (net.nodes m)) ≡ cond v (own (part (net.nodes m))) (part (net.nodes m))) [
  | true ↦ λ e. subst (λ j. part (after_or (local_event p j (net.nodes j) a o) (net.nodes j)) ≡ own (part (net.nodes j))) (eqb-true n m e) (ap (λ z. part (after_or z (net.nodes n))) is ∙ k)
  | false ↦ λ e. refl
] refl

-- what the labels tell after an event is what nodes and links have
tells_then : (p : Program) (w : Spots) (net : Net) → Stands p w net → (stamp n round : ℕ) (a : Act) (o : Option Packet) (d : EventSoFar) → local_event p n (net.nodes n) a o ≡ Some d → o ≡ next_packet net n a → IsTaken stamp a o
    → world_at (after_labels p n d.labels w) (net_after p net (event stamp n round a o d)) ≡ after_entry p (entry_with stamp n round a d.labels) (world_at w net)
tells_then p w net st stamp n round a o d is h before = λ i. record { spots = after_labels p n d.labels w; links = links i; begun = begun i; talks = talks i }
  where
    k : Simulates p w net (event stamp n round a o d)
    k = simulates p w net stamp n round a o d st is h

    b : Beyond p w (net.nodes n) d.node n k.opening d.labels d.sends
    b = k.beyond d is

    -- what the event has sent, and what its node keeps then
    ended : record { sends = d.sends; to_do = []; talk = d.node.talk } ≡ entry_end p (entry_with stamp n round a d.labels) (world_at w net)
    ended = sym (ap (worked_off n (after_labels p n d.labels w)) (taking_is p stamp n a d.labels (world_at w net) (after_labels p n d.labels w) k.opening (k.starts before) (ap (λ (r : Progress). r.to_do) b.ends)) ∙ b.ends)

    after : Net
    after = net_after p net (event stamp n round a o d)

    told : World
    told = after_entry p (entry_with stamp n round a d.labels) (world_at w net)

    links : after.links ≡ told.links
    links = fun_ext (λ i. fun_ext (λ j. ap (λ z. cond (eqb n j) (left_after i a (net.links i j)) (net.links i j) ++ cond (eqb n i) (packets_to j stamp z) []) (ap (λ (r : Progress). r.sends) ended)))

    begun : (λ m. (after.nodes m).booted) ≡ told.begun
    begun = fun_ext (each_part (λ s. s.booted) (λ z. true) p net stamp n round a o d is (let can = possible p n (net.nodes n) a o d is in booted p net n d a o can.0 can.1 b.booted))

    talks : (λ m. (after.nodes m).talk) ≡ told.talks
    talks = fun_ext (each_part (λ s. s.talk) (λ z. (entry_end p (entry_with stamp n round a d.labels) (world_at w net)).talk) p net stamp n round a o d is (ap (λ (r : Progress). r.talk) ended))

-- ## A run keeps the rules

pub record Tells (p : Program) (old : Spots) (base : Net) (trace : List Entry) : Type 0 where
  pub tale : KeepsRules p (world_at old base) trace
  pub same : world_at (spots_of p old trace) (net_after_trace p base trace) ≡ world_of p (world_at old base) trace

pub run_keeps : (p : Program) (old : Spots) (base : Net) → Stands p old base → (trace : List Entry) → IsRun p base trace → Tells p old base trace
run_keeps p old base s [] r = record { tale = tt; same = refl }
run_keeps p old base s (x ∷ xs) r =
    let was : Tells p old base xs = run_keeps p old base s xs r.0 in
    let net : Net = net_after_trace p base xs in
    let w : Spots = spots_of p old xs in
    let st : Stands p w net = (run_whole p old base s xs r.0).stands in
    let d : EventSoFar = r.1.step.done in
    let o : Option Packet = next_packet net x.node x.act in
    let one : IsEntry p (world_at w net) x = subst (λ ls. IsEntry p (world_at w net) (entry_with x.stamp x.node x.round x.act ls)) (sym r.1.step.labels) (entry_is p w net st x.stamp x.node x.round x.act o d r.1.step.is refl r.1.step.takes) in
    let then : world_at (after_labels p x.node d.labels w) (net_after p net (event x.stamp x.node x.round x.act o d)) ≡ after_entry p (entry_with x.stamp x.node x.round x.act d.labels) (world_at w net) = tells_then p w net st x.stamp x.node x.round x.act o d r.1.step.is refl r.1.step.takes in
    let here : world_at (after_labels p x.node x.labels w) (net_after p net (event_of p net x)) ≡ after_entry p x (world_at w net) =
    subst (λ e. world_at (after_labels p x.node x.labels w) (net_after p net e) ≡ after_entry p x (world_at w net)) (event_made p net x r.1)
    (subst (λ ls. world_at (after_labels p x.node ls w) (net_after p net (event x.stamp x.node x.round x.act o d)) ≡ after_entry p (entry_with x.stamp x.node x.round x.act ls) (world_at w net)) (sym r.1.step.labels) then) in
    record {
      tale = (was.tale, subst (λ z. IsEntry p z x) was.same one);
      same = here ∙ ap (λ z. after_entry p x z) was.same;
    }

-- ## What keeps the rules is a run

-- a choice changes no thread
same_thread : (t : Tid) (vp : ℕ) (m : Shift) (d : EventSoFar) → thread_at t (shifted vp m d) ≡ thread_at t d
unfolding shifted choose say
same_thread t vp m d = refl

same_forest : (vp : ℕ) (m : Shift) (d : EventSoFar) → (shifted vp m d).node.forest ≡ (step vp d.node.forest).after
unfolding shifted choose say
same_forest vp m d = refl

-- where the choices of a processor come to a thread that is there, within so many moves, it runs
runs_by : (p : Program) (n vp q k : ℕ) (d : EventSoFar) (moves : List Shift) (t : Tid) (x : Thread) (after : ForestView) → Picks vp d.node.forest moves (Some t) after → length moves < k → thread_at t d ≡ Some x
    → (e : EventSoFar) × (chooses p n vp q k d ≡ Some e)
runs_by p n vp q zero d moves t x after picks few there = absurd (omega (arith, few))
runs_by p n vp q (suc k) d [] t x after picks few there =
    (_, ap (λ z. chosen_by p n vp q (chooses p n vp q k) z d) picks.0 ∙ ap (λ z. run_found p n vp q t z d) there)
runs_by p n vp q (suc k) d (m ∷ moves) t x after picks few there =
    let rest : (e : EventSoFar) × (chooses p n vp q k (shifted vp m d) ≡ Some e)
    = runs_by p n vp q k (shifted vp m d) moves t x after (subst (λ f. Picks vp f moves (Some t) after) (sym (same_forest vp m d)) picks.1) (omega (arith, few)) (same_thread t vp m d ∙ there) in
    (rest.0, ap (λ z. chosen_by p n vp q (chooses p n vp q k) z d) picks.0 ∙ rest.1)

-- a processor of the node
range_processor : (p : Program) (n vp q : ℕ) (begun : Bool) → may_act p n begun (RunThread vp q) ≡ true → vp < processors_of p
range_processor p n vp q begun h =
    let a = and_parts (nat_lt n (nodes_of p)) _ h in
    let b = and_parts begun _ a.1 in
    ltb-true vp (processors_of p) (and_parts (nat_lt vp (processors_of p)) _ b.1).0

module _ (p : Program) (w : Spots) (net : Net) (st : Stands p w net) where
  takes_by : (stamp n : ℕ) (a : Act) (first : Progress) → Starts p stamp n a (world_at w net) first → IsTaken stamp a (next_packet net n a)
  takes_by stamp n Boot first o = refl
  takes_by stamp n (RunThread vp q) first o = refl
  takes_by stamp n (Move t to) first o = refl
  takes_by stamp n (Take from) first o = subst (λ z. IsTaken stamp (Take from) z) (sym o.1) o.2

  -- a processor of whose lists one has an entity runs a thread
  pub run_there : (n vp q : ℕ) → vp < processors_of p → has_ready (tree_of p) vp (net.nodes n).forest.lists.rows ≡ true
      → (d : EventSoFar) × (chooses p n vp q (choice_limit (net.nodes n).forest) (nothing (net.nodes n)) ≡ Some d)
  run_there n vp q below ready =
      let f : ForestView = (net.nodes n).forest in
      let k : PicksEnd vp f = pick_ends p w net st n vp below ready in
      let there = picked_there p w net st n vp k.moves k.thread k.after k.picks in
      runs_by p n vp q (choice_limit f) (nothing (net.nodes n)) k.moves k.thread there.0 k.after k.picks (omega (arith, k.few)) there.1

  acts_by : (stamp n : ℕ) (begun : Bool) (a : Act) (first : Progress) → may_act p n begun a ≡ true → Starts p stamp n a (world_at w net) first → (d : EventSoFar) × (acts p n (net.nodes n) a (next_packet net n a) ≡ Some d)
  acts_by stamp n begun Boot first may o = (_, refl)
  acts_by stamp n begun (RunThread vp q) first may o =
      run_there n vp q (range_processor p n vp q begun may) (ap (λ (z : ForestView). has_ready (tree_of p) vp z.lists.rows) (st.nodes n).forest ∙ o.0)
  acts_by stamp n begun (Take from) first may o = (_, ap (λ z. acts p n (net.nodes n) (Take from) z) o.1)
  acts_by stamp n begun (Move t to) first may o =
      let on : is_listed t (net.nodes n).forest ≡ true = ap (is_listed t) (st.nodes n).forest ∙ o.0 in
      let k = listed_there p w net st n t on in
      (_, ap (λ z. cond z (moves_found p t to (lookup (is_tid t) (net.nodes n).threads) (net.nodes n)) None) on ∙ ap (λ z. moves_found p t to z (net.nodes n)) k.1)

  event_by : (n : ℕ) (a : Act) (o : Option Packet) (d : EventSoFar) → is_range p n (net.nodes n) a ≡ true → acts p n (net.nodes n) a o ≡ Some d → local_event p n (net.nodes n) a o ≡ Some d
  unfolding local_event
  event_by n a o d h e = ap (λ z. cond z (acts p n (net.nodes n) a o) None) h ∙ e

  -- the machine does exactly what the entry says
  pub fits_by : (x : Entry) → IsEntry p (world_at w net) x → Fits p net x
  fits_by x e =
      let k = acts_by x.stamp x.node (net.nodes x.node).booted x.act e.first e.may e.starts in
      let d : EventSoFar = k.0 in
      let o : Option Packet = next_packet net x.node x.act in
      let is : local_event p x.node (net.nodes x.node) x.act o ≡ Some d = event_by x.node x.act o d (may_is p x.node (net.nodes x.node) x.act ∙ e.may) k.1 in
      let before : IsTaken x.stamp x.act o = takes_by x.stamp x.node x.act e.first e.starts in
      let other : IsEntry p (world_at w net) (entry_with x.stamp x.node x.round x.act d.labels) = entry_is p w net st x.stamp x.node x.round x.act o d is refl before in
      let one : x ≡ entry_with x.stamp x.node x.round x.act d.labels = one_entry p (world_at w net) x _ refl e other in
      record { done = d; is = is; labels = ap (λ (z : Entry). z.labels) one; takes = before }

-- an act that may be, and for which there is something to begin with, has an entry
pub has_entry : (p : Program) (w : Spots) (net : Net) → Stands p w net → (stamp n round : ℕ) (a : Act) (first : Progress) → may_act p n (net.nodes n).booted a ≡ true → Starts p stamp n a (world_at w net) first
    → (ls : List Label) × IsEntry p (world_at w net) (entry_with stamp n round a ls)
has_entry p w net st stamp n round a first may o =
    let k = acts_by p w net st stamp n (net.nodes n).booted a first may o in
    let is : local_event p n (net.nodes n) a (next_packet net n a) ≡ Some k.0 = event_by p w net st n a (next_packet net n a) k.0 (may_is p n (net.nodes n) a ∙ may) k.1 in
    (k.0.labels, entry_is p w net st stamp n round a (next_packet net n a) k.0 is refl (takes_by p w net st stamp n a first o))

pub rules_run : (p : Program) (old : Spots) (base : Net) → Stands p old base → (trace : List Entry) → KeepsRules p (world_at old base) trace → IsRun p base trace
rules_run p old base s [] t = tt
rules_run p old base s (x ∷ xs) t =
    let r : IsRun p base xs = rules_run p old base s xs t.0 in
    let told : Tells p old base xs = run_keeps p old base s xs r in
    let st : Stands p (spots_of p old xs) (net_after_trace p base xs) = (run_whole p old base s xs r).stands in
    (fits_exactly p base x xs).1 (r, fits_by p (spots_of p old xs) (net_after_trace p base xs) st x (subst (λ z. IsEntry p z x) (sym told.same) t.1))
