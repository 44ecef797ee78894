-- Nodes that have begun stand for the beginnings.
use Rattle.std.proofs.Common.{◌≡◌, ℕ, zero, suc, ◌<◌, ◌≤◌, ◌%◌, max, List, [], ◌∷◌, ◌++◌, length, reverse, map, drop, Option, Some, None, Bool, true, false, cond, eqb, refl, sym, ap, ◌∙◌, subst, arith, append-nil, length-drop}
use Rattle.std.specs.Prelude.{slice_get}
use Rattle.std.proofs.lemmas.Bool.{eq-eqb, ne_eqb}
use Rattle.std.proofs.lemmas.Option.{slice_get_past, slice_get_within, same_Some}
use Rattle.run_trace.specs.declared.entry.Act.TheVariants.{Boot}
use Rattle.run_trace.specs.declared.entry.Entry.{Entry}
use Rattle.run_trace.specs.declared.label.Label.{Label}
use Rattle.run_trace.specs.declared.packet.Packet.{Packet}
use Rattle.run_trace.specs.declared.packet.Send.{Send}
use Rattle.run_trace.specs.Cluster.{Net, fresh_net, after_or, sent, received}
use Rattle.run_trace.specs.Console.{console_of, printed}
use Rattle.run_trace.specs.Histories.{own_entries, seen}
use Rattle.run_trace.specs.Legality.{Legal, NoneAbove, boot_entry, boot_entries}
use Rattle.run_trace.specs.Local.{EventSoFar, fresh}
use Rattle.run_trace.specs.Machine.{local_event, turn_event}
use Rattle.run_trace.specs.Program.{Program, nodes_of, quantum_limit}
use Rattle.run_trace.specs.Spots.{at_first}
use Rattle.run_trace.specs.Trace.{done_for, events_of, prints_or, sends_or}
use Rattle.trace_laws.specs.Beginnings.{BeginsSo}
use Rattle.trace_laws.proofs.Lemmas.{begins_so, beginnings_legal, console_after}
use Rattle.wires.specs.declared.ends.Ends.{Ends}
use Rattle.wires.specs.Ends.{of_link, sent_to, received_from, width}
use Rattle.wires.specs.Link.{link_sent, link_received}
use Rattle.wires.specs.Wires.{row_link, sent_on, received_on, AreWired, AreFreshFor, StaysWired}
use Rattle.wires.proofs.Lemmas.{all_stay_wired, sent_on-node, received_on-node, stays_refl}
use Rattle.basics.proofs.Lemmas.{by_eq, by_less, some_at}
use Rattle.node_loop.specs.View.{NodeView}
use Rattle.cluster.specs.Between.{AllOf, AreNumbered, AreReady, HasBegun, HaveBegun, HaveBooted, wires_in}
use Rattle.cluster.specs.Standing.{AgreesWith, IsNodeOf, NoneLater, entries_at, net_after, turns_in}
use Rattle.cluster.specs.View.{ClusterView, view_of, ends_of, console_at, greatest_clock, round_at, round_in}
use Rattle.cluster.proofs.Clocks.{greatest_is}
use Rattle.cluster.proofs.Runs.{carried_run}
use Rattle.cluster.proofs.Lists.{wires-get, wires-length}
use Rattle.run_trace.specs.Links.{packets_to}

-- ## One node

record Began (p : Program) (n : ℕ) (l : n < nodes_of p) (ends : Ends Packet) (v : NodeView) : Type 0 where
  program : v.program ≡ p
  me : v.me ≡ n
  state : v.state ≡ (begins_so p n l).done.node
  booted : v.state.booted ≡ true
  clock : v.clock ≡ 1
  round : v.round ≡ 0
  entries : v.entries ≡ boot_entry p n ∷ []
  console : v.console ≡ []
  sends : (k : ℕ) → sent_to ends k ≡ [] → sent_to v.ends k ≡ []
  takes : (k : ℕ) → received_from ends k ≡ [] → received_from v.ends k ≡ []
  wired : StaysWired ends v.ends

began : (p : Program) (n : ℕ) (l : n < nodes_of p) (ends : Ends Packet) (v : NodeView) → HasBegun p n ends v → Began p n l ends v
began p n l ends v h =
    let d = h.does in
    let b : BeginsSo p n = begins_so p n l in
    let none : d.took ≡ None = d.shape in
    let event : local_event p n (fresh p n) Boot None ≡ Some d.done = subst (λ o. turn_event p n (fresh p n) Boot o ≡ Some d.done) none d.is in
    let same : d.done ≡ b.done = (let e : Some d.done ≡ Some b.done = sym event ∙ b.is in cc e) in
    let stamp : suc (max 0 (seen d.took)) ≡ 1 = ap (λ o. suc (max 0 (seen o))) none in
    record {
      program = ap (λ (z : NodeView). z.program) d.after;
      me = ap (λ (z : NodeView). z.me) d.after;
      state = ap (λ (z : NodeView). z.state) d.after ∙ ap (λ (z : EventSoFar). z.node) same;
      booted = h.booted;
      clock = ap (λ (z : NodeView). z.clock) d.after ∙ stamp;
      round = ap (λ (z : NodeView). z.round) d.after;
      entries = ap (λ (z : NodeView). z.entries) d.after
          ∙ ap (λ k. (record { stamp = k; node = n; round = 0; act = Boot; labels = d.done.labels }) ∷ []) stamp
          ∙ ap (λ (ls : List Label). (record { stamp = 1; node = n; round = 0; act = Boot; labels = ls }) ∷ []) (ap (λ (z : EventSoFar). z.labels) same ∙ sym b.labels);
      console = ap (λ (z : NodeView). z.console) d.after ∙ ap (λ (z : EventSoFar). z.prints) same ∙ b.prints;
      sends = λ k e. by_less k (width ends)
          (λ lt. d.links.sent k lt ∙ ap (λ ps. ps ++ packets_to k (suc (max 0 (seen d.took))) d.done.sends) e
          ∙ ap (λ (ss : List Send). packets_to k (suc (max 0 (seen d.took))) ss) (ap (λ (z : EventSoFar). z.sends) same ∙ b.sends))
          (λ ge. ap (of_link link_sent) (slice_get_past v.ends.links.items k (omega (arith, ge, d.links.wide, v.ends.links.ok.0))));
      takes = λ k e. d.links.received k ∙ ap (λ ps. ps ++ []) e;
      wired = d.links.wired;
    }

-- ## The trace of the beginnings

record Starts (p : Program) (k : ℕ) : Type 0 where
  here : (m : ℕ) → m < k → (l : m < nodes_of p) → (net_after p (boot_entries p k)).nodes m ≡ (begins_so p m l).done.node
  later : (m : ℕ) → k ≤ m → (net_after p (boot_entries p k)).nodes m ≡ fresh p m
  sends : (i j : ℕ) → sent i j (events_of p (fresh_net p) (boot_entries p k)) ≡ []
  takes : (i j : ℕ) → received i j (events_of p (fresh_net p) (boot_entries p k)) ≡ []
  prints : printed (events_of p (fresh_net p) (boot_entries p k)) ≡ []

none_if : (b : Bool) (xs : List Packet) → xs ≡ [] → cond b xs [] ≡ []
none_if true xs e = e
none_if false xs e = refl

acting : (p : Program) (k m : ℕ) → m ≡ k → (i : m < nodes_of p) (l : k < nodes_of p) (net : Net) → after_or (local_event p k (net.nodes k) Boot None) (net.nodes k) ≡ (begins_so p k l).done.node
    → cond (eqb k m) (after_or (local_event p m (net.nodes m) Boot None) (net.nodes m)) (net.nodes m) ≡ (begins_so p m i).done.node
acting p k m e i l net h =
    ap (λ b. cond b (after_or (local_event p m (net.nodes m) Boot None) (net.nodes m)) (net.nodes m)) (eq-eqb k m (sym e))
    ∙ ap (λ z. after_or (local_event p z (net.nodes z) Boot None) (net.nodes z)) e ∙ h ∙ (let same : Some (begins_so p k l).done ≡ Some (begins_so p m i).done =
    sym (begins_so p k l).is ∙ ap (λ z. local_event p z (fresh p z) Boot None) (sym e) ∙ (begins_so p m i).is in ap (λ (o : Option EventSoFar). after_or o (fresh p m)) same)

starts_with : (p : Program) (k : ℕ) → k ≤ nodes_of p → Starts p k
starts_with p zero l = record { here = λ m h i. absurd (omega arith); later = λ m h. refl; sends = λ i j. refl; takes = λ i j. refl; prints = refl }
starts_with p (suc k) l =
    let old : Starts p k = starts_with p k (omega arith) in
    let net : Net = net_after p (boot_entries p k) in
    let kl : k < nodes_of p = omega arith in
    let b : BeginsSo p k = begins_so p k kl in
    let is : done_for p net (boot_entry p k) ≡ Some b.done = ap (λ s. local_event p k s Boot None) (old.later k (omega arith)) ∙ b.is in
    record {
      here = λ m h i. by_eq m k
          (λ e. acting p k m e i kl net (ap (λ o. after_or o (net.nodes k)) is))
          (λ ne. ap (λ c. cond c (after_or (local_event p m (net.nodes m) Boot None) (net.nodes m)) (net.nodes m)) (ne_eqb k m (λ e. ne (sym e))) ∙ old.here m (omega (arith, h, ne)) i);
      later = λ m h. ap (λ c. cond c (after_or (local_event p m (net.nodes m) Boot None) (net.nodes m)) (net.nodes m)) (ne_eqb k m (λ e. absurd (omega (arith, e, h)))) ∙ old.later m (omega arith);
      sends = λ i j.
          ap (λ ps. ps ++ cond (eqb k i) (packets_to j 1 (sends_or (done_for p net (boot_entry p k)))) []) (old.sends i j)
          ∙ none_if (eqb k i) (packets_to j 1 (sends_or (done_for p net (boot_entry p k)))) (ap (packets_to j 1) (ap sends_or is ∙ b.sends));
      takes = λ i j. ap (λ ps. ps ++ cond (eqb k j) [] []) (old.takes i j) ∙ none_if (eqb k j) [] refl;
      prints = ap (λ bs. bs ++ prints_or (done_for p net (boot_entry p k))) old.prints ∙ ap prints_or is ∙ b.prints;
    }

own_none : (p : Program) (m k : ℕ) → k ≤ m → own_entries m (boot_entries p k) ≡ []
own_none p m zero l = refl
own_none p m (suc k) l = ap (λ b. cond b (boot_entry p k ∷ own_entries m (boot_entries p k)) (own_entries m (boot_entries p k))) (ne_eqb k m (λ e. absurd (omega (arith, e, l)))) ∙ own_none p m k (omega arith)

own_one : (p : Program) (m k : ℕ) → m < k → own_entries m (boot_entries p k) ≡ boot_entry p m ∷ []
own_one p m zero l = absurd (omega arith)
own_one p m (suc k) l = by_eq k m
    (λ e. ap (λ b. cond b (boot_entry p k ∷ own_entries m (boot_entries p k)) (own_entries m (boot_entries p k))) (eq-eqb k m e) ∙ ap (λ xs. boot_entry p k ∷ xs) (own_none p m k (omega (arith, e))) ∙ ap (λ i. boot_entry p i ∷ []) e)
    (λ ne. ap (λ b. cond b (boot_entry p k ∷ own_entries m (boot_entries p k)) (own_entries m (boot_entries p k))) (ne_eqb k m ne) ∙ own_one p m k (omega (arith, ne)))

first_stamps : (p : Program) (k : ℕ) → NoneLater 1 (boot_entries p k)
first_stamps p zero = tt
first_stamps p (suc k) = (omega arith, first_stamps p k)

first_rounds : (p : Program) (k : ℕ) → NoneAbove 0 (boot_entries p k)
first_rounds p zero = tt
first_rounds p (suc k) = (omega arith, first_rounds p k)

pub no_turns : (p : Program) (k : ℕ) → turns_in (boot_entries p k) ≡ 0
no_turns p zero = refl
no_turns p (suc k) = omega (arith, no_turns p k)

pub boot_count : (p : Program) (k : ℕ) → length (boot_entries p k) ≡ k
boot_count p zero = refl
boot_count p (suc k) = ap suc (boot_count p k)

-- ## The ends

wires_back : (vs : List NodeView) (ws : List (Ends Packet)) (i : ℕ) → length vs ≤ length ws → length vs ≤ i → slice_get (map ends_of vs ++ drop (length vs) ws) i ≡ slice_get ws i
wires_back [] ws i k l = refl
wires_back (v ∷ vs) [] i k l = absurd (omega arith)
wires_back (v ∷ vs) (w ∷ ws) zero k l = absurd (omega arith)
wires_back (v ∷ vs) (w ∷ ws) (suc i) k l = wires_back vs ws i (omega arith) (omega arith)

module _ (p : Program) (wires : List (Ends Packet)) (wide : nodes_of p ≤ length wires) (nodes : List NodeView) (rest : List (Ends Packet)) (h : HaveBegun p (nodes_of p) wires nodes rest) where
  pub many : length nodes ≡ nodes_of p
  many = omega (arith, h.many, wide)

  -- node n with the ends that it has begun with
  record At (n : ℕ) (v : NodeView) : Type 0 where
    inside : n < nodes_of p
    ends : Ends Packet
    was : slice_get wires n ≡ Some ends
    began : Began p n inside ends v

  at : (n : ℕ) (v : NodeView) → slice_get nodes n ≡ Some v → At n v
  at n v e =
      let l : n < nodes_of p = omega (arith, many, slice_get_within nodes n v e) in
      let w = some_at wires n (omega (arith, l, wide)) in
      record { inside = l; ends = w.0; was = w.1; began = began p n l w.0 v (h.begun n w.0 v w.1 e) }

  pub all_numbered : AreNumbered nodes
  all_numbered n v e = (at n v e).began.me

  pub all_of : AllOf p nodes
  all_of n v e = (at n v e).began.program

  back : (i : ℕ) → nodes_of p ≤ i → slice_get (wires_in nodes rest) i ≡ slice_get wires i
  back i l =
      ap (λ es. slice_get (map ends_of nodes ++ es) i) (h.left ∙ ap (λ k. drop k wires) (sym many)) ∙ wires_back nodes wires i (omega (arith, many, wide)) (omega (arith, many, l))

  long : length (wires_in nodes rest) ≡ length wires
  long = omega (arith, wires-length nodes rest, ap length h.left, length-drop (nodes_of p) wires, many, wide)

  pub begun_wired : AreWired wires → AreWired (wires_in nodes rest)
  begun_wired w = all_stay_wired wires (wires_in nodes rest) long
      (λ i a b f g. by_less i (nodes_of p)
      (λ l.
      let v = some_at nodes i (omega (arith, l, many)) in
      let k = at i v.0 v.1 in
      let ae : k.ends ≡ a = same_Some k.ends a (sym k.was ∙ f) in
      let be : v.0.ends ≡ b = same_Some v.0.ends b (sym (wires-get nodes rest i v.0 v.1) ∙ g) in
      subst (λ z. StaysWired z b) ae (subst (λ z. StaysWired k.ends z) be k.began.wired))
      (λ past. subst (λ z. StaysWired a z) (same_Some a b (sym f ∙ sym (back i past) ∙ g)) (stays_refl a))) w

  none_sent : AreFreshFor (length wires) wires → (i j : ℕ) → sent_on (wires_in nodes rest) i j ≡ []
  none_sent fr i j = by_less i (nodes_of p)
      (λ l.
      let v = some_at nodes i (omega (arith, l, many)) in
      let k = at i v.0 v.1 in
      sent_on-node (wires_in nodes rest) i j v.0.ends (wires-get nodes rest i v.0 v.1) ∙ k.began.sends j (sym (sent_on-node wires i j k.ends k.was) ∙ fr.none_sent i j))
      (λ past. ap (λ o. of_link link_sent (row_link o j)) (back i past) ∙ fr.none_sent i j)

  none_received : AreFreshFor (length wires) wires → (i j : ℕ) → received_on (wires_in nodes rest) i j ≡ []
  none_received fr i j = by_less j (nodes_of p)
      (λ l.
      let v = some_at nodes j (omega (arith, l, many)) in
      let k = at j v.0 v.1 in
      received_on-node (wires_in nodes rest) i j v.0.ends (wires-get nodes rest j v.0 v.1) ∙ k.began.takes i (sym (received_on-node wires i j k.ends k.was) ∙ fr.none_received i j))
      (λ past. ap (λ o. of_link link_received (row_link o i)) (back j past) ∙ fr.none_received i j)

-- ## All of it

module _ (p : Program) (wires : List (Ends Packet)) (fr : AreFreshFor (length wires) wires) (wide : nodes_of p ≤ length wires) (nodes : List NodeView) (rest : List (Ends Packet))
    (r : AreReady p (nodes_of p) wires nodes rest) (some : 0 < p.setup.quantum) (few : p.setup.quantum ≤ quantum_limit) (aligned : p.image.main % 4 ≡ 0) where
  abbrev trace : List Entry
  trace = boot_entries p (nodes_of p)

  abbrev now : ClusterView
  now = view_of p 0 nodes rest

  first_many : length r.first ≡ nodes_of p
  first_many = many p wires wide r.first rest r.begun

  count : length nodes ≡ nodes_of p
  count = r.settled.nodes.count ∙ first_many

  told : Starts p (nodes_of p)
  told = starts_with p (nodes_of p) (omega arith)

  record Now (n : ℕ) (u : NodeView) : Type 0 where
    old : NodeView
    at_first_place : slice_get r.first n ≡ Some old
    is : u ≡ record old { ends = u.ends }
    at_old : At p wires wide r.first rest r.begun n old

  now_at : (n : ℕ) (u : NodeView) → slice_get nodes n ≡ Some u → Now n u
  now_at n u e =
      let o = some_at r.first n (omega (arith, r.settled.nodes.count, slice_get_within nodes n u e)) in
      record { old = o.0; at_first_place = o.1; is = r.settled.nodes.each n o.0 u o.1 e; at_old = at p wires wide r.first rest r.begun n o.0 o.1 }

  node_is : (n : ℕ) (u : NodeView) → slice_get nodes n ≡ Some u → IsNodeOf now trace n u
  node_is n u e =
      let k = now_at n u e in
      let b = k.at_old.began in
      record {
        program = ap (λ (z : NodeView). z.program) k.is ∙ b.program;
        me = ap (λ (z : NodeView). z.me) k.is ∙ b.me;
        state = told.here n k.at_old.inside k.at_old.inside ∙ sym b.state ∙ ap (λ (z : NodeView). z.state) (sym k.is);
        booted = ap (λ (z : NodeView). z.state.booted) k.is ∙ b.booted;
        few = omega (arith, ap (λ (z : NodeView). length z.entries) k.is, ap length b.entries);
      }

  clock_is : (n : ℕ) (u : NodeView) → slice_get nodes n ≡ Some u → u.clock ≡ 1
  clock_is n u e = let k = now_at n u e in ap (λ (z : NodeView). z.clock) k.is ∙ k.at_old.began.clock

  ready_clock : greatest_clock nodes ≡ 1
  ready_clock =
      let u = some_at nodes 0 (omega (arith, count, p.setup.geometry.some_node)) in
      greatest_is 1 nodes 0 u.0 u.1 (clock_is 0 u.0 u.1) (λ m w e. omega (arith, clock_is m w e))

  round_is : (n : ℕ) (u : NodeView) → slice_get nodes n ≡ Some u → u.round ≡ 0
  round_is n u e = let k = now_at n u e in ap (λ (z : NodeView). z.round) k.is ∙ k.at_old.began.round

  ready_round : round_in now ≡ 0
  ready_round =
      let u = some_at nodes 0 (omega (arith, count, p.setup.geometry.some_node)) in
      ap round_at u.1 ∙ round_is 0 u.0 u.1

  entries_are : (m : ℕ) → own_entries m trace ≡ reverse (entries_at (slice_get nodes m))
  entries_are m = by_less m (nodes_of p)
      (λ l.
      let u = some_at nodes m (omega (arith, l, count)) in
      let k = now_at m u.0 u.1 in
      own_one p m (nodes_of p) l ∙ ap reverse (sym (ap entries_at u.1 ∙ ap (λ (z : NodeView). z.entries) k.is ∙ k.at_old.began.entries)))
      (λ past. own_none p m (nodes_of p) past ∙ ap (λ o. reverse (entries_at o)) (sym (slice_get_past nodes m (omega (arith, past, count)))))

  console_is : console_of p (at_first p) trace ≡ console_at (slice_get nodes 0)
  console_is =
      let whole : printed (events_of p (fresh_net p) trace) ≡ console_of p (at_first p) trace = console_after p trace (beginnings_legal p).runs in
      let u = some_at nodes 0 (omega (arith, count, p.setup.geometry.some_node)) in
      let k = now_at 0 u.0 u.1 in
      sym whole ∙ told.prints ∙ sym (ap console_at u.1 ∙ ap (λ (z : NodeView). z.console) k.is ∙ k.at_old.began.console)

  -- no part of the trace came before
  whole : trace ≡ trace ++ []
  whole = sym (append-nil trace)

  agrees : AgreesWith now [] trace
  agrees = record {
    legal = subst (λ xs. Legal p xs) whole (beginnings_legal p);
    trace = record { order = (beginnings_legal p).order; entries = entries_are; wired = r.settled.wired };
    count = count;
    turns = sym (no_turns p (nodes_of p));
    node = λ n u e. subst (λ xs. IsNodeOf now xs n u) whole (node_is n u e);
    one_round = λ n u e. round_is n u e ∙ sym ready_round;
    rounds = subst (λ k. NoneAbove k (trace ++ [])) (sym ready_round) (subst (λ xs. NoneAbove 0 xs) whole (first_rounds p (nodes_of p)));
    stamps = subst (λ k. NoneLater k (trace ++ [])) (sym ready_clock) (subst (λ xs. NoneLater 1 xs) whole (first_stamps p (nodes_of p)));
    clocks = λ n u e. omega (arith, clock_is n u e);
    carried = record {
      sends = λ i j. r.settled.same.same_sent i j ∙ none_sent p wires wide r.first rest r.begun fr i j ∙ sym (told.sends i j);
      takes = λ i j. r.settled.same.same_received i j ∙ none_received p wires wide r.first rest r.begun fr i j ∙ sym (told.takes i j);
    };
    under_way = λ i j.
        ap (λ ps. ps ++ (net_after p (trace ++ [])).links i j) (r.settled.same.same_received i j ∙ none_received p wires wide r.first rest r.begun fr i j ∙ sym (told.takes i j))
        ∙ ap (λ xs. received i j (events_of p (fresh_net p) trace) ++ (net_after p xs).links i j) (sym whole)
        ∙ carried_run p trace i j ∙ told.sends i j ∙ sym (r.settled.same.same_sent i j ∙ none_sent p wires wide r.first rest r.begun fr i j);
    console = ap (console_of p (at_first p)) (sym whole) ∙ console_is;
    some_quantum = some;
    bounded_quantum = few;
    aligned = aligned;
  }

  pub booted : HaveBooted p wires nodes rest
  booted = record {
    programs = λ n u e. let k = now_at n u e in ap (λ (z : NodeView). z.program) k.is ∙ k.at_old.began.program;
    stands = record {
      agrees = agrees;
      settled = λ i j x y li lj f g. r.settled.settled i j x y (omega (arith, li, first_many)) (omega (arith, lj, first_many)) f g;
    };
    clock = ready_clock;
    round = ready_round;
    wide = r.settled.same.nodes ∙ long p wires wide r.first rest r.begun;
  }
