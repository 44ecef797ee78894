-- A step adds one entry, for which the cluster stands again.
use Rattle.std.proofs.Common.{◌≡◌, ◌≢◌, ℕ, suc, ◌+◌, ◌<◌, ◌≤◌, List, [], ◌∷◌, ◌++◌, length, reverse, map, set, max, Option, Some, None, true, false, cond, eqb, refl, sym, ap, ◌∙◌, subst, arith, inr, append-nil, append_assoc, length-set}
use Rattle.std.specs.Prelude.{slice_get}
use Rattle.std.proofs.lemmas.Bool.{eq-eqb, ne_eqb}
use Rattle.std.proofs.lemmas.List.{reverse-append, length-append}
use Rattle.std.proofs.lemmas.Option.{slice_get_past, slice_get_within}
use Rattle.std.proofs.Math.Nat.{max-eq_right}
use Rattle.run_trace.specs.declared.entry.Act.{Act}
use Rattle.run_trace.specs.declared.entry.Entry.{Entry}
use Rattle.run_trace.specs.declared.packet.Packet.{Packet}
use Rattle.run_trace.specs.Program.{Program, nodes_of}
use Rattle.run_trace.specs.Cluster.{Event, Net, fresh_net, sent, received, taken_of, next_packet}
use Rattle.run_trace.specs.Console.{console_of, shown_by_all}
use Rattle.run_trace.specs.Telling.{world_of, first_world}
use Rattle.run_trace.specs.Histories.{own_entries, seen}
use Rattle.run_trace.specs.Rules.{spots_of}
use Rattle.run_trace.specs.Spots.{at_first}
use Rattle.run_trace.specs.Legality.{NoneAbove}
use Rattle.run_trace.specs.declared.entry.Act.TheVariants.{Boot, Run, Take, Move}
use Rattle.run_trace.specs.Trace.{done_for, events_of, net_after_trace, sends_or}
use Rattle.trace_laws.proofs.Lemmas.{run_inside}
use Rattle.wires.specs.declared.ends.Ends.{Ends}
use Rattle.wires.specs.Ends.{of_link, sent_to, width}
use Rattle.wires.specs.Link.{link_sent, link_received}
use Rattle.wires.specs.Wires.{link_at, sent_on, received_on}
use Rattle.wires.proofs.Lemmas.{link_at-set_same, link_at-set_other, sent_on-node, received_on-node}
use Rattle.basics.proofs.Lemmas.{by_eq, by_less, some_at, get_set_same, get_set_other}
use Rattle.node_loop.specs.View.{NodeView, next_round, raised, with_ends}
use Rattle.node_loop.specs.Turns.{IsActInRange, Does, can, entry_limit}
use Rattle.cluster.specs.Between.{SettlesOf, wires_in}
use Rattle.cluster.specs.Standing.{StandsFor, AgreesWith, IsNodeOf, HaveCarriedSince, HoldUnderWay, AreSettledBelow, Adds, NoneLater, entries_at, net_after, turn_in}
use Rattle.cluster.specs.View.{ClusterView, wires_of, view_of, console_at, console_in, greatest_clock, round_at, round_in}
use Rattle.cluster.proofs.Acting.{raised_ends, raised_length, get_raised}
use Rattle.cluster.proofs.Clocks.{clock_within, greatest_is, greatest_within}
use Rattle.cluster.proofs.Keeping as keeping
use Rattle.cluster.proofs.Lists.{wires-get, wires-set, wires-length}
use Rattle.cluster.proofs.Runs.{carried_one, later_all, net_joined}
use Rattle.cluster.proofs.Silent.{silent, told_spots}
use Rattle.run_trace.specs.Links.{packets_to, left_after}

no_more : {A : Type 0} (xs ys : List A) → xs ++ ys ≡ [] → ys ≡ []
no_more [] ys h = h
no_more (x ∷ xs) ys h = absurd (cc h)

module _ (c : ClusterView) (before kept : List Entry) (s : StandsFor c before kept) (n : ℕ) (inside : n < nodes_of c.program)
    (v : NodeView) (at : slice_get c.nodes n ≡ Some v) (room : length v.entries < entry_limit) (act : Act) (range : IsActInRange c.program n act) (able : can v act ≡ true)
    (new : NodeView) (d : Does (raised (greatest_clock c.nodes) v) act new) (booted : new.state.booted ≡ true)
    (nodes : List NodeView) (settled : SettlesOf n c.rest (set (map (raised (greatest_clock c.nodes)) c.nodes) n new) nodes) where
  abbrev trace : List Entry
  trace = kept ++ before

  -- the greatest clock
  abbrev top : ℕ
  top = greatest_clock c.nodes

  abbrev p : Program
  p = c.program

  abbrev net : Net
  net = net_after p trace

  abbrev mid : List NodeView
  mid = set (map (raised top) c.nodes) n new

  abbrev now : ClusterView
  now = view_of c.program (suc c.turns) nodes c.rest

  abbrev es : List (Ends Packet)
  es = wires_of c

  abbrev x : Entry
  x = keeping.x c before kept s n inside v at act range able new d

  -- what the kept entries leave after the part before
  abbrev since : Net
  since = net_after_trace p (net_after p before) kept

  -- is what the trace leaves
  parts : since ≡ net
  parts = net_joined p (fresh_net p) before kept

  abbrev ev : List Event
  ev = events_of p (net_after p before) kept

  done_is : done_for p net x ≡ Some d.done
  done_is = keeping.done_is c before kept s n inside v at act range able new d

  stamp_is : suc (max (raised top v).clock (seen d.took)) ≡ suc top
  stamp_is = keeping.stamp_is c before kept s n inside v at act range able new d

  -- ## Where the nodes stand

  raised_count : length (map (raised top) c.nodes) ≡ length c.nodes
  raised_count = raised_length top c.nodes

  mid_count : length mid ≡ length c.nodes
  mid_count = length-set (map (raised top) c.nodes) n new ∙ raised_count

  count : length nodes ≡ length c.nodes
  count = settled.nodes.count ∙ mid_count

  new_at : (u : NodeView) → slice_get nodes n ≡ Some u → u ≡ with_ends u.ends new
  new_at u g = settled.nodes.each n new u (get_set_same (map (raised top) c.nodes) n new (omega (arith, raised_count, slice_get_within c.nodes n v at))) g

  -- another node is as it was, but raised
  record OldAt (m : ℕ) (u : NodeView) : Type 0 where
    old : NodeView
    was : slice_get c.nodes m ≡ Some old
    is : u ≡ with_ends u.ends (raised top old)

  old_at : (m : ℕ) (u : NodeView) → m ≢ n → slice_get nodes m ≡ Some u → OldAt m u
  old_at m u ne g =
      let o = some_at c.nodes m (omega (arith, count, slice_get_within nodes m u g)) in
      record {
        old = o.0;
        was = o.1;
        is = settled.nodes.each m (raised top o.0) u (get_set_other (map (raised top) c.nodes) m n new ne ∙ get_raised top c.nodes m o.0 o.1) g;
      }

  mid_wires : wires_in mid c.rest ≡ set es n new.ends
  mid_wires =
      wires-set (map (raised top) c.nodes) c.rest n new (omega (arith, raised_count, slice_get_within c.nodes n v at))
      ∙ ap (λ fs. set (fs ++ c.rest) n new.ends) (raised_ends top c.nodes)

  here : slice_get es n ≡ Some v.ends
  here = wires-get c.nodes c.rest n v at

  within : n < length es
  within = slice_get_within es n v.ends here

  -- ## What the links have carried

  sends_own : (j : ℕ) → sent_to new.ends j ≡ sent n j ev ++ packets_to j (keeping.stamp c before kept s n inside v at act range able new d) (sends_or (done_for p net x))
  sends_own j = by_less j (width v.ends)
      (λ l. d.links.sent j l
      ∙ ap (λ k. sent_to v.ends j ++ packets_to j k d.done.sends) stamp_is
      ∙ ap (λ ps. ps ++ packets_to j (suc top) d.done.sends) (sym (sent_on-node es n j v.ends here) ∙ s.agrees.carried.sends n j)
      ∙ ap (λ o. sent n j ev ++ packets_to j (suc top) (sends_or o)) (sym done_is))
      (λ ge.
      let past : width new.ends ≤ j = omega (arith, ge, d.links.wide) in
      let none : sent_to new.ends j ≡ [] = ap (of_link link_sent) (slice_get_past new.ends.links.items j (omega (arith, past, new.ends.links.ok.0))) in
      let none_old : sent_to v.ends j ≡ [] = ap (of_link link_sent) (slice_get_past v.ends.links.items j (omega (arith, ge, v.ends.links.ok.0))) in
      let outside : nodes_of p ≤ j = omega (arith, ge, s.agrees.trace.wired.wide n v.ends here, wires-length c.nodes c.rest, s.agrees.count) in
      let empty : (net_after p (x ∷ trace)).links n j ≡ [] = (run_inside p (x ∷ trace) (keeping.runs c before kept s n inside v at act range able new d)).links n j (inr outside) in
      let unsent : packets_to j (suc top) (sends_or (done_for p net x)) ≡ [] =
      ap (λ b. cond b (packets_to j (suc top) (sends_or (done_for p net x))) []) (sym (eq-eqb n n refl))
      ∙ no_more (cond (eqb n j) (left_after n act (net.links n j)) (net.links n j)) (cond (eqb n n) (packets_to j (suc top) (sends_or (done_for p net x))) []) empty in
      none ∙ sym none_old ∙ sym (sent_on-node es n j v.ends here) ∙ s.agrees.carried.sends n j ∙ sym (append-nil (sent n j ev)) ∙ ap (λ ps. sent n j ev ++ ps) (sym unsent))

  -- what it sends and takes, by what the kept entries leave
  sends_since : sends_or (done_for p net x) ≡ sends_or (done_for p since x)
  sends_since = ap (λ (z : Net). sends_or (done_for p z x)) (sym parts)

  takes_since : next_packet net n act ≡ next_packet since n act
  takes_since = ap (λ (z : Net). next_packet z n act) (sym parts)

  set_sends : (i j : ℕ) → sent_on (set es n new.ends) i j ≡ sent i j (events_of p (net_after p before) (x ∷ kept))
  set_sends i j = by_eq i n
      (λ e. subst (λ k. sent_on (set es n new.ends) k j ≡ sent k j (events_of p (net_after p before) (x ∷ kept))) (sym e)
      (ap (of_link link_sent) (link_at-set_same es n j new.ends within) ∙ sends_own j
      ∙ ap (λ ss. sent n j ev ++ packets_to j (suc top) ss) sends_since
      ∙ ap (λ b. sent n j ev ++ cond b (packets_to j (suc top) (sends_or (done_for p since x))) []) (sym (eq-eqb n n refl))))
      (λ ne. ap (of_link link_sent) (link_at-set_other es n i j new.ends ne) ∙ s.agrees.carried.sends i j ∙ sym (append-nil (sent i j ev))
      ∙ ap (λ b. sent i j ev ++ cond b (packets_to j (suc top) (sends_or (done_for p since x))) []) (sym (ne_eqb n i (λ e. ne (sym e)))))

  set_takes : (i j : ℕ) → received_on (set es n new.ends) i j ≡ received i j (events_of p (net_after p before) (x ∷ kept))
  set_takes i j = by_eq j n
      (λ e. subst (λ k. received_on (set es n new.ends) i k ≡ received i k (events_of p (net_after p before) (x ∷ kept))) (sym e)
      (ap (of_link link_received) (link_at-set_same es n i new.ends within) ∙ d.links.received i
      ∙ ap (λ ps. ps ++ taken_of i act d.took) (sym (received_on-node es i n v.ends here) ∙ s.agrees.carried.takes i n)
      ∙ ap (λ o. received i n ev ++ taken_of i act o) (keeping.took_is c before kept s n inside v at act range able new d ∙ takes_since)
      ∙ ap (λ b. received i n ev ++ cond b (taken_of i act (next_packet since n act)) []) (sym (eq-eqb n n refl))))
      (λ ne. ap (of_link link_received) (link_at-set_other es n j i new.ends ne) ∙ s.agrees.carried.takes i j ∙ sym (append-nil (received i j ev))
      ∙ ap (λ b. received i j ev ++ cond b (taken_of i act (next_packet since n act)) []) (sym (ne_eqb n j (λ e. ne (sym e)))))

  carried : HaveCarriedSince p before (x ∷ kept) (wires_of now)
  carried = record {
    sends = λ i j. settled.same.same_sent i j ∙ ap (λ fs. sent_on fs i j) mid_wires ∙ set_sends i j;
    takes = λ i j. settled.same.same_received i j ∙ ap (λ fs. received_on fs i j) mid_wires ∙ set_takes i j;
  }

  -- what is on the links goes on as the trace does
  under_way : HoldUnderWay p (x ∷ trace) (wires_of now)
  under_way i j =
      let held : received i j ev ++ since.links i j ≡ sent i j ev =
      ap (λ (z : Net). received i j ev ++ z.links i j) parts ∙ ap (λ ps. ps ++ net.links i j) (sym (s.agrees.carried.takes i j)) ∙ s.agrees.under_way i j ∙ s.agrees.carried.sends i j in
      ap (λ ps. ps ++ (net_after p (x ∷ trace)).links i j) (carried.takes i j)
      ∙ ap (λ (z : Net). received i j (events_of p (net_after p before) (x ∷ kept)) ++ z.links i j) (sym (net_joined p (fresh_net p) before (x ∷ kept)))
      ∙ carried_one p since x i j (received i j ev) (sent i j ev) held ∙ sym (carried.sends i j)

  all_settled : AreSettledBelow (nodes_of p) (wires_of now)
  all_settled i j y z li lj f g = by_eq i n
      (λ e. (settled.settled j y z (omega (arith, lj, mid_count, s.agrees.count)) (subst (λ k. link_at (wires_of now) k j ≡ Some y) e f) (subst (λ k. link_at (wires_of now) j k ≡ Some z) e g)).0)
      (λ ne. by_eq j n
      (λ e. (settled.settled i z y (omega (arith, li, mid_count, s.agrees.count)) (subst (λ k. link_at (wires_of now) k i ≡ Some z) e g) (subst (λ k. link_at (wires_of now) i k ≡ Some y) e f)).1)
      (λ nf. s.settled i j y z li lj (back i j ne nf ∙ f) (back j i nf ne ∙ g)))
    where
      back : (a b : ℕ) → a ≢ n → b ≢ n → link_at es a b ≡ link_at (wires_of now) a b
      back a b na nb = sym (settled.others a b na nb ∙ ap (λ fs. link_at fs a b) mid_wires ∙ link_at-set_other es n a b new.ends na)

  -- ## The trace

  entries_are : (m : ℕ) → own_entries m (x ∷ kept) ≡ reverse (entries_at (slice_get nodes m))
  entries_are m = by_less m (length nodes) (λ l. let u = some_at nodes m l in there u.0 u.1)
      (λ past.
      let gone : slice_get nodes m ≡ None = slice_get_past nodes m past in
      let was : slice_get c.nodes m ≡ None = slice_get_past c.nodes m (omega (arith, past, count)) in
      let apart : eqb n m ≡ false = ne_eqb n m (λ e. absurd (omega (arith, e, past, count, slice_get_within c.nodes n v at))) in
      ap (λ b. cond b (x ∷ own_entries m kept) (own_entries m kept)) apart ∙ s.agrees.trace.entries m ∙ ap (λ o. reverse (entries_at o)) (was ∙ sym gone))
    where
      there : (u : NodeView) → slice_get nodes m ≡ Some u → own_entries m (x ∷ kept) ≡ reverse (entries_at (slice_get nodes m))
      there u g = by_eq m n
          (λ e.
          let gn : slice_get nodes n ≡ Some u = subst (λ k. slice_get nodes k ≡ Some u) e g in
          let mine : own_entries m kept ≡ reverse v.entries = ap (λ k. own_entries k kept) e ∙ s.agrees.trace.entries n ∙ ap (λ o. reverse (entries_at o)) at in
          ap (λ b. cond b (x ∷ own_entries m kept) (own_entries m kept)) (eq-eqb n m (sym e)) ∙ ap (λ xs. x ∷ xs) mine ∙ sym (reverse-append v.entries (x ∷ []))
          ∙ ap reverse (sym (keeping.entry_is c before kept s n inside v at act range able new d)) ∙ ap (λ (z : NodeView). reverse z.entries) (sym (new_at u gn)) ∙ ap (λ o. reverse (entries_at o)) (sym g))
          (λ ne.
          let o = old_at m u ne g in
          ap (λ b. cond b (x ∷ own_entries m kept) (own_entries m kept)) (ne_eqb n m (λ e. ne (sym e))) ∙ s.agrees.trace.entries m ∙ ap (λ o. reverse (entries_at o)) o.was
          ∙ ap (λ (z : NodeView). reverse z.entries) (sym o.is) ∙ ap (λ o. reverse (entries_at o)) (sym g))

  node_now : (m : ℕ) (u : NodeView) → slice_get nodes m ≡ Some u → IsNodeOf now (x ∷ trace) m u
  node_now m u g = by_eq m n
      (λ e. subst (λ k. IsNodeOf now (x ∷ trace) k u) (sym e) (acting (subst (λ k. slice_get nodes k ≡ Some u) e g)))
      (λ ne.
      let o = old_at m u ne g in
      let was : IsNodeOf c trace m o.old = s.agrees.node m o.old o.was in
      record {
        program = ap (λ (z : NodeView). z.program) o.is ∙ was.program;
        me = ap (λ (z : NodeView). z.me) o.is ∙ was.me;
        state = keeping.other_is c before kept s n inside v at act range able new d m (λ e. ne (sym e)) ∙ was.state ∙ ap (λ (z : NodeView). z.state) (sym o.is);
        booted = ap (λ (z : NodeView). z.state.booted) o.is ∙ was.booted;
        few = omega (arith, ap (λ (z : NodeView). length z.entries) o.is, was.few);
      })
    where
      acting : slice_get nodes n ≡ Some u → IsNodeOf now (x ∷ trace) n u
      acting h =
          let is : u ≡ with_ends u.ends new = new_at u h in
          let was : IsNodeOf c trace n v = s.agrees.node n v at in
          record {
            program = ap (λ (z : NodeView). z.program) is ∙ ap (λ (z : NodeView). z.program) d.after ∙ was.program;
            me = ap (λ (z : NodeView). z.me) is ∙ ap (λ (z : NodeView). z.me) d.after ∙ was.me;
            state = keeping.node_is c before kept s n inside v at act range able new d ∙ ap (λ (z : NodeView). z.state) (sym is);
            booted = ap (λ (z : NodeView). z.state.booted) is ∙ booted;
            few = omega (arith, ap (λ (z : NodeView). length z.entries) is, ap length (keeping.entry_is c before kept s n inside v at act range able new d), length-append v.entries (x ∷ []), room);
          }

  -- ## Clocks and rounds

  -- the clock of the node that acts is the stamp, and the others' are the greatest before it
  record ClockOf (m : ℕ) (u : NodeView) : Type 0 where
    low : top ≤ u.clock
    high : u.clock ≤ suc top
    round : u.round ≡ keeping.round c before kept s n inside v at act range able new d

  clock_of : (m : ℕ) (u : NodeView) → slice_get nodes m ≡ Some u → ClockOf m u
  clock_of m u h = by_eq m n
      (λ e. (let is : u ≡ with_ends u.ends new = new_at u (subst (λ k. slice_get nodes k ≡ Some u) e h) in
      let clock : u.clock ≡ suc top = ap (λ (z : NodeView). z.clock) is ∙ ap (λ (z : NodeView). z.clock) d.after ∙ stamp_is in
      record {
        low = omega (arith, clock);
        high = omega (arith, clock);
        round = ap (λ (z : NodeView). z.round) is ∙ ap (λ (z : NodeView). z.round) d.after ∙ ap next_round (s.agrees.one_round n v at);
      }))
      (λ ne. (let o : OldAt m u = old_at m u ne h in
      let clock : u.clock ≡ top = ap (λ (z : NodeView). z.clock) o.is ∙ max-eq_right {n = o.old.clock} {m = top} (clock_within c.nodes m o.old o.was) in
      record {
        low = omega (arith, clock);
        high = omega (arith, clock);
        round = ap (λ (z : NodeView). z.round) o.is ∙ ap next_round (s.agrees.one_round m o.old o.was);
      }))

  greatest_now : greatest_clock nodes ≡ suc top
  greatest_now =
      let u = some_at nodes n (omega (arith, count, slice_get_within c.nodes n v at)) in
      let is : u.0 ≡ with_ends u.0.ends new = new_at u.0 u.1 in
      greatest_is (suc top) nodes n u.0 u.1 (ap (λ (z : NodeView). z.clock) is ∙ ap (λ (z : NodeView). z.clock) d.after ∙ stamp_is) (λ m w h. (clock_of m w h).high)

  round_now : round_in now ≡ keeping.round c before kept s n inside v at act range able new d
  round_now =
      let u = some_at nodes 0 (omega (arith, count, s.agrees.count, inside)) in
      ap round_at u.1 ∙ (clock_of 0 u.0 u.1).round

  -- ## The console

  abbrev shown : List ℕ
  shown = shown_by_all p n d.done.labels (spots_of p (at_first p) trace)

  none_shown : 0 ≢ n → shown ≡ []
  none_shown ne =
      let rules = (keeping.legal c before kept s n inside v at act range able new d).rules.1 in
      subst (λ w. shown_by_all p n d.done.labels w ≡ []) (told_spots p (first_world p) trace) (silent p _ n d.done.labels (world_of p (first_world p) trace) rules.first (λ e. ne (sym e)) rules.goes)

  first : (o : Option NodeView) (z : NodeView) → o ≡ Some z → console_at o ≡ z.console
  first o z e = ap console_at e

  -- what the part before has shown
  abbrev shown_before : List ℕ
  shown_before = console_of p (at_first p) before

  console_now : console_of p (at_first p) (x ∷ trace) ≡ shown_before ++ console_at (slice_get nodes 0)
  console_now =
      let u = some_at nodes 0 (omega (arith, count, s.agrees.count, inside)) in
      by_eq 0 n
      (λ e.
      let gn : slice_get nodes n ≡ Some u.0 = subst (λ k. slice_get nodes k ≡ Some u.0) e u.1 in
      let v0 : slice_get c.nodes 0 ≡ Some v = subst (λ k. slice_get c.nodes k ≡ Some v) (sym e) at in
      keeping.console_is c before kept s n inside v at act range able new d ∙ ap (λ bs. bs ++ d.done.prints) (s.agrees.console ∙ ap (λ bs. shown_before ++ bs) (first (slice_get c.nodes 0) v v0))
      ∙ append_assoc shown_before v.console d.done.prints
      ∙ ap (λ bs. shown_before ++ bs) (sym (ap (λ (z : NodeView). z.console) d.after) ∙ ap (λ (z : NodeView). z.console) (sym (new_at u.0 gn)) ∙ sym (first (slice_get nodes 0) u.0 u.1)))
      (λ ne.
      let o = old_at 0 u.0 ne u.1 in
      ap (λ bs. console_of p (at_first p) trace ++ bs) (none_shown ne) ∙ append-nil (console_of p (at_first p) trace) ∙ s.agrees.console
      ∙ ap (λ bs. shown_before ++ bs) (first (slice_get c.nodes 0) o.old o.was ∙ ap (λ (z : NodeView). z.console) (sym o.is) ∙ sym (first (slice_get nodes 0) u.0 u.1)))

  same_rest : (xs ys zs : List ℕ) → xs ++ ys ≡ xs ++ zs → ys ≡ zs
  same_rest [] ys zs e = e
  same_rest (a ∷ xs) ys zs e = let k : xs ++ ys ≡ xs ++ zs = cc e in same_rest xs ys zs k

  console_more : console_at (slice_get nodes 0) ≡ console_in c ++ shown
  console_more = same_rest shown_before (console_at (slice_get nodes 0)) (console_in c ++ shown)
      (sym console_now ∙ ap (λ bs. bs ++ shown) s.agrees.console ∙ append_assoc shown_before (console_in c) shown)

  -- ## All of it

  one_turn : (a : Act) → IsActInRange p n a → turn_in a ≡ 1
  one_turn Boot r = absurd r
  one_turn (Run vp quantum) r = refl
  one_turn (Take from) r = refl
  one_turn (Move t to) r = refl

  agrees : AgreesWith now before (x ∷ kept)
  agrees = record {
    legal = keeping.legal c before kept s n inside v at act range able new d;
    trace = record { order = keeping.order_kept c before kept s n inside v at act range able new d; entries = entries_are; wired = settled.wired };
    count = count ∙ s.agrees.count;
    turns = omega (arith, s.agrees.turns, one_turn act range);
    node = node_now;
    one_round = λ m u h. (clock_of m u h).round ∙ sym round_now;
    rounds = subst (λ r. NoneAbove r (x ∷ trace)) (sym round_now) (omega arith, (keeping.legal c before kept s n inside v at act range able new d).rounds.0);
    stamps = subst (λ k. NoneLater k (x ∷ trace)) (sym greatest_now) (omega arith, later_all top (suc top) (omega arith) trace s.agrees.stamps);
    clocks = λ m u h. omega (arith, (clock_of m u h).high, greatest_within c before kept s.agrees);
    carried = carried;
    under_way = under_way;
    console = console_now;
    some_quantum = s.agrees.some_quantum;
    bounded_quantum = s.agrees.bounded_quantum;
    aligned = s.agrees.aligned;
  }

  pub adds : Adds c before kept n act now
  adds = record {
    program = refl;
    turns = refl;
    wide = wires-length nodes c.rest ∙ ap (λ k. k + length c.rest) count ∙ sym (wires-length c.nodes c.rest);
    entry = x;
    stands = record { agrees = agrees; settled = all_settled };
    next = record { node = refl; act = refl; stamp = refl; round = refl };
    raised = λ m u h. (clock_of m u h).low;
    clock = greatest_now;
    round = round_now;
    shown = shown;
    console = console_more;
  }
