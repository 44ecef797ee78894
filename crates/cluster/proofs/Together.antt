-- What nodes have done on their own goes on with the trace, in the order of stamps and nodes, and the cluster stands for it.
use Rattle.std.proofs.Common.{◌≡◌, ◌≢◌, ℕ, suc, ◌+◌, ◌-◌, ◌*◌, ◌<◌, ◌≤◌, inl, inr, max, List, [], ◌∷◌, ◌++◌, length, reverse, Some, Bool, true, false, cond, eqb, refl, sym, ap, ◌∙◌, subst, arith, append_assoc, append-nil}
use Rattle.std.specs.Prelude.{slice_get}
use Rattle.std.proofs.lemmas.Bool.{eq-eqb}
use Rattle.std.proofs.lemmas.List.{reverse-reverse, length-append, length-reverse}
use Rattle.std.proofs.lemmas.Option.{slice_get_past}
use Rattle.std.proofs.Math.Nat.{le-max_left, le-max_right, max-le}
use Rattle.run_trace.specs.declared.entry.Entry.{Entry}
use Rattle.run_trace.specs.declared.packet.Packet.{Packet}
use Rattle.run_trace.specs.Cluster as cluster
use Rattle.run_trace.specs.Cluster.{Event, IsAbove, IsDescending, IsPrefix, Net, Runs, fresh_net, own, received, sent, taken_of}
use Rattle.run_trace.specs.Links.{packets_to}
use Rattle.run_trace.specs.Console.{console_of, printed, shown_by_all}
use Rattle.run_trace.specs.Histories.{IsEntryAbove, IsHistory, IsInOrder, Turn, clock, own_entries, sent_to, taken_from, turn_state}
use Rattle.run_trace.specs.Legality.{Legal, NoneAbove}
use Rattle.run_trace.specs.Local.{Local}
use Rattle.run_trace.specs.Machine.{stamp_limit}
use Rattle.run_trace.specs.Obeying.{KeepsRules}
use Rattle.run_trace.specs.Program.{Program, nodes_of}
use Rattle.run_trace.specs.Rules.{spots_of}
use Rattle.run_trace.specs.Spots.{at_first}
use Rattle.run_trace.specs.Telling.{world_of, first_world}
use Rattle.run_trace.specs.Trace.{IsRun, entry_of, event_of, events_of, net_after_trace}
use Rattle.trace_laws.specs.Gathers.{Gathers, events_in, own_turns}
use Rattle.trace_laws.proofs.Lemmas.{IsAtMost, gathered, own_events, gathers_bounded, gathers_state, determined, console_after, received_own, sent_own}
use Rattle.wires.specs.declared.ends.Ends.{Ends}
use Rattle.wires.specs.Ends.{of_link}
use Rattle.wires.specs.Link.{link_known, link_received, link_sent, link_waiting, IsSettled}
use Rattle.wires.specs.Wires.{received_on, row_link, sent_on}
use Rattle.wires.proofs.Lemmas.{received_on-node, sent_on-node}
use Rattle.basics.proofs.Lemmas.{by_less, some_at}
use Rattle.node_loop.specs.Histories.{entries_of_turns}
use Rattle.node_loop.specs.Turns.{entry_limit}
use Rattle.node_loop.specs.View.{NodeView}
use Rattle.cluster.specs.Apart.{Fits, HasGoneOn, HaveGoneOn, IsShell}
use Rattle.cluster.specs.Between.{SettlesAll, wires_in}
use Rattle.cluster.specs.Gathering.{AreGathered, AreOfRound, GathersAfter, entries_in}
use Rattle.cluster.specs.Rounds.{clock_of, last_stamp}
use Rattle.cluster.specs.Standing.{AgreesWith, StandsFor, HoldUnderWay, IsNodeOf, NoneLater, entries_at, net_after, turns_in}
use Rattle.cluster.specs.View.{ClusterView, ShellView, console_in, greatest_clock, round_at, round_in, view_of}
use Rattle.cluster.proofs.Clocks.{clock_within, greatest_most}
use Rattle.cluster.proofs.Gathered.{gathers}
use Rattle.cluster.proofs.Linking.{link_there, same_rest}
use Rattle.cluster.proofs.Lists.{behind, wires-get, wires-length}
use Rattle.cluster.proofs.NodeTurns.{all_taken_out, of_round, own_low, rebased, rises, unbooted_stays}
use Rattle.cluster.proofs.Outside as outside
use Rattle.cluster.proofs.Resettling.{settled_stands}
use Rattle.cluster.proofs.Runs.{few_all, later_all, net_joined}
use Rattle.cluster.proofs.Silent.{silent, told_spots}
use Rattle.cluster.proofs.Weaving.{Rises, woven, woven_descends, woven_own, woven_past, woven_round}

-- ## Two parts of a trace

events_joined : (p : Program) (base : Net) (old new : List Entry) → events_of p base (new ++ old) ≡ events_of p (net_after_trace p base old) new ++ events_of p base old
events_joined p base old [] = refl
events_joined p base old (x ∷ new) =
    ap (λ es. event_of p (cluster.net_of p base es) x ∷ es) (events_joined p base old new)
    ∙ ap (λ (net : Net). event_of p net x ∷ (events_of p (net_after_trace p base old) new ++ events_of p base old))
    (ap (cluster.net_of p base) (sym (events_joined p base old new)) ∙ sym (net_joined p base old new))

sent_joined : (i j : ℕ) (old new : List Event) → sent i j (new ++ old) ≡ sent i j old ++ sent i j new
sent_joined i j old [] = sym (append-nil (sent i j old))
sent_joined i j old (e ∷ new) =
    let one : List Packet = cond (eqb e.node i) (packets_to j e.stamp e.sends) [] in ap (λ ps. ps ++ one) (sent_joined i j old new) ∙ append_assoc (sent i j old) (sent i j new) one

received_joined : (i j : ℕ) (old new : List Event) → received i j (new ++ old) ≡ received i j old ++ received i j new
received_joined i j old [] = sym (append-nil (received i j old))
received_joined i j old (e ∷ new) =
    let one : List Packet = cond (eqb e.node j) (taken_of i e.act e.took) [] in ap (λ ps. ps ++ one) (received_joined i j old new) ∙ append_assoc (received i j old) (received i j new) one

printed_joined : (old new : List Event) → printed (new ++ old) ≡ printed old ++ printed new
printed_joined old [] = sym (append-nil (printed old))
printed_joined old (e ∷ new) = ap (λ ps. ps ++ e.prints) (printed_joined old new) ∙ append_assoc (printed old) (printed new) e.prints

above_front : (x : Entry) (new old : List Entry) → IsEntryAbove x (new ++ old) → IsEntryAbove x new
above_front x [] old h = tt
above_front x (y ∷ ys) old h = (h.0, above_front x ys old h.1)

order_front : (new old : List Entry) → IsInOrder (new ++ old) → IsInOrder new
order_front [] old o = tt
order_front (x ∷ xs) old o = (above_front x xs old o.0, order_front xs old o.1)

pub own_joined : (n : ℕ) (old new : List Entry) → own_entries n (new ++ old) ≡ own_entries n new ++ own_entries n old
own_joined n old [] = refl
own_joined n old (x ∷ xs) = by (eqb x.node n) (own_joined n old xs)
  where
    by : (b : Bool) → own_entries n (xs ++ old) ≡ own_entries n xs ++ own_entries n old
        → cond b (x ∷ own_entries n (xs ++ old)) (own_entries n (xs ++ old)) ≡ cond b (x ∷ own_entries n xs) (own_entries n xs) ++ own_entries n old
    by true e = ap (λ ys. x ∷ ys) e
    by false e = e

pub own_in : (n : ℕ) (turns : List Turn) → own_entries n (entries_in turns) ≡ entries_in (own_turns n turns)
own_in n [] = refl
own_in n (t ∷ before) = by (eqb t.event.node n) (own_in n before)
  where
    by : (b : Bool) → own_entries n (entries_in before) ≡ entries_in (own_turns n before)
        → cond b (entry_of t.event ∷ own_entries n (entries_in before)) (own_entries n (entries_in before)) ≡ entries_in (cond b (t ∷ own_turns n before) (own_turns n before))
    by true e = ap (λ ys. entry_of t.event ∷ ys) e
    by false e = e

pub entries_same : (turns : List Turn) → entries_of_turns turns ≡ entries_in turns
entries_same [] = refl
entries_same (t ∷ before) = ap (λ xs. entry_of t.event ∷ xs) (entries_same before)

pub entries_length : (turns : List Turn) → length (entries_in turns) ≡ length turns
entries_length [] = refl
entries_length (t ∷ before) = ap suc (entries_length before)

pub turns_joined : (old new : List Entry) → turns_in (new ++ old) ≡ turns_in new + turns_in old
turns_joined old [] = omega arith
turns_joined old (x ∷ xs) = omega (arith, turns_joined old xs)

pub all_turns : (began round : ℕ) (turns : List Turn) → AreOfRound began round turns → turns_in (entries_in turns) ≡ length turns
all_turns began round [] o = refl
all_turns began round (t ∷ before) o = omega (arith, o.0.2, all_turns began round before o.1)

none_above : (began round : ℕ) (turns : List Turn) (old : List Entry) → AreOfRound began round turns → NoneAbove round old → NoneAbove round (entries_in turns ++ old)
none_above began round [] old o h = h
none_above began round (t ∷ before) old o h = (omega (arith, o.0.1), none_above began round before old o.1 h)

same_end : (xs ys zs : List ℕ) → xs ++ ys ≡ xs ++ zs → ys ≡ zs
same_end [] ys zs e = e
same_end (x ∷ xs) ys zs e = let k : xs ++ ys ≡ xs ++ zs = cc e in same_end xs ys zs k

-- ## Clocks

pub last_low : (clock : ℕ) (new : List Entry) → clock ≤ last_stamp clock new
last_low clock [] = omega arith
last_low clock (x ∷ xs) = omega (arith, last_low clock xs, le-max_right x.stamp (last_stamp clock xs))

later_new : (clock : ℕ) (new old : List Entry) → NoneLater clock old → NoneLater (last_stamp clock new) (new ++ old)
later_new clock [] old h = h
later_new clock (x ∷ xs) old h =
    (le-max_left x.stamp (last_stamp clock xs), later_all (last_stamp clock xs) (last_stamp clock (x ∷ xs)) (le-max_right x.stamp (last_stamp clock xs)) (xs ++ old) (later_new clock xs old h))

last_bound : (c k : ℕ) (turns : List Turn) → c ≤ k → IsAtMost k turns → last_stamp c (entries_in turns) ≤ k
last_bound c k [] l h = l
last_bound c k (t ∷ before) l h = max-le {a = t.event.stamp} {b = last_stamp c (entries_in before)} {k = k} h.0 (last_bound c k before l h.1)

-- what was taken, and then the rest, is what was there and then what was sent
fits_on : (r t rest l q g : List Packet) → r ++ l ≡ g → (r ++ t) ++ rest ≡ g ++ q → t ++ rest ≡ l ++ q
fits_on r t rest l q g held all = same_rest r (t ++ rest) (l ++ q) (sym (append_assoc r t rest) ∙ all ∙ ap (λ ps. ps ++ q) (sym held) ∙ append_assoc r l q)

module _ (shell : ShellView) (ran : List NodeView) (f : Fits shell ran) (before kept : List Entry) (top round : ℕ) (each : ℕ → List Turn) (g : HaveGoneOn shell ran before kept top round each) where
  abbrev pub p : Program
  p = shell.program

  abbrev pub trace : List Entry
  trace = kept ++ before

  abbrev pub net : Net
  net = net_after p trace

  abbrev pub many : ℕ
  many = nodes_of p

  -- the wires, and what has happened since the part before
  abbrev pub fs : List (Ends Packet)
  fs = wires_in ran shell.rest

  abbrev pub since : List Event
  since = events_of p (net_after p before) kept

  -- what node n is
  pub record At (n : ℕ) : Type 0 where
    pub v : NodeView
    pub was : slice_get ran n ≡ Some v
    pub is : HasGoneOn p before kept top round n (each n) v

  pub at : (n : ℕ) → n < many → At n
  at n l = let v = some_at ran n (omega (arith, l, f.count)) in record { v = v.0; was = v.1; is = g.each n v.0 v.1 }

  -- ## All turns

  history : (n : ℕ) → n < many → IsHistory p n top (net.nodes n) (each n)
  history n l = let o = at n l in rebased p n top round (clock_of n 0 trace) top (own_low n top trace g.stamps) (omega arith) (net.nodes n) (each n) o.is.one_round o.is.history

  all_rise : (n : ℕ) → Rises n (each n)
  all_rise n = by_less n many (λ l. rises p n top top round (net.nodes n) (each n) (history n l) (at n l).is.one_round) (λ past. subst (λ ts. Rises n ts) (sym (g.none n past)) tt)

  abbrev pub turns : List Turn
  turns = woven each many

  abbrev pub entries : List Entry
  entries = entries_in turns

  pub own_is : (n : ℕ) → own_turns n turns ≡ each n
  own_is n = by_less n many (λ l. woven_own each all_rise many n l) (λ past. woven_past each all_rise many n past ∙ sym (g.none n past))

  pub all_of_round : AreOfRound top round turns
  all_of_round = woven_round each top round many
      (λ n. by_less n many (λ l. of_round p n top round (each n) (at n l).is.one_round) (λ past. subst (λ ts. AreOfRound top round ts) (sym (g.none n past)) tt))

  pub entries_are : (n : ℕ) → own_entries n (entries ++ kept) ≡ reverse (entries_at (slice_get ran n))
  entries_are n = own_joined n kept entries ∙ ap (λ xs. xs ++ own_entries n kept) (own_in n turns ∙ ap entries_in (own_is n)) ∙ by_less n many
      (λ l. (let o = at n l in sym (reverse-reverse (entries_in (each n) ++ own_entries n kept)) ∙ ap reverse (sym o.is.entries) ∙ ap (λ x. reverse (entries_at x)) (sym o.was)))
      (λ past.
      ap (λ ts. entries_in ts ++ own_entries n kept) (g.none n past) ∙ outside.own_past p before kept g.legal.runs n past
      ∙ ap (λ x. reverse (entries_at x)) (sym (slice_get_past ran n (omega (arith, past, f.count)))))

  pub few_entries : length (entries ++ kept) ≤ many * entry_limit
  few_entries = few_all many entry_limit (entries ++ kept)
      (λ n past. entries_are n ∙ ap (λ x. reverse (entries_at x)) (slice_get_past ran n (omega (arith, past, f.count))))
      (λ n l. (let o = at n l in omega (arith, ap length (entries_are n ∙ ap (λ x. reverse (entries_at x)) o.was), length-reverse o.v.entries, o.is.few)))

  low : top + length turns < stamp_limit
  unfolding stamp_limit
  low = omega (arith, g.low, few_entries, length-append entries kept, entries_length turns, shell.program.setup.geometry.few_nodes)

  -- ## Links

  pub received_now : (i j : ℕ) → j < many → received_on fs i j ≡ received i j since ++ taken_from i (events_in (each j))
  received_now i j l = let o = at j l in received_on-node fs i j o.v.ends (wires-get ran shell.rest j o.v o.was) ∙ o.is.received i

  pub sent_now : (i j : ℕ) → i < many → j < length fs → sent_on fs i j ≡ sent i j since ++ sent_to j (events_in (each i))
  sent_now i j l lj =
      let o = at i l in
      let here : slice_get fs i ≡ Some o.v.ends = wires-get ran shell.rest i o.v o.was in
      sent_on-node fs i j o.v.ends here ∙ o.is.sent j (omega (arith, lj, f.wired.wide i o.v.ends here))

  pub taken_is : (i j : ℕ) → received i j (events_in turns) ≡ taken_from i (events_in (each j))
  taken_is i j = received_own i j (events_in turns) ∙ ap (taken_from i) (own_events j turns ∙ ap events_in (own_is j))

  pub given_is : (i j : ℕ) → sent i j (events_in turns) ≡ sent_to j (events_in (each i))
  given_is i j = sent_own i j (events_in turns) ∙ ap (sent_to j) (own_events i turns ∙ ap events_in (own_is i))

  held_old : (i j : ℕ) → received i j since ++ net.links i j ≡ sent i j since
  held_old i j = outside.held p before kept g.legal.runs i j ∙ ap (λ ps. ps ++ sent i j since) (g.still i j)

  none_out : (i j : ℕ) → received i j (events_in turns) ≡ [] → IsPrefix (received i j (events_in turns)) (net.links i j ++ sent i j (events_in turns))
  none_out i j none = (net.links i j ++ sent i j (events_in turns), ap (λ ps. ps ++ (net.links i j ++ sent i j (events_in turns))) none)

  -- ## They gather

  begun : trace ≢ []
  begun none =
      let o = at 0 (omega (arith, shell.program.setup.geometry.some_node)) in
      let fresh : (net.nodes 0).booted ≡ false = ap (λ xs. ((net_after p xs).nodes 0).booted) none in
      absurd (cc (o.is.booted, ap (λ (z : Local). z.booted) (sym o.is.state) ∙ unbooted_stays p 0 (clock_of 0 0 trace) top round (net.nodes 0) (each 0) fresh o.is.history o.is.one_round))

  -- ## The greatest clock

  own_within : (n c : ℕ) → c ≤ top → (ts : List Turn) → clock c (own_turns n ts) ≤ last_stamp top (entries_in ts)
  own_within n c l [] = l
  own_within n c l (t ∷ before) = by (eqb t.event.node n) (own_within n c l before)
    where
      by : (b : Bool) → clock c (own_turns n before) ≤ last_stamp top (entries_in before) → clock c (cond b (t ∷ own_turns n before) (own_turns n before)) ≤ max t.event.stamp (last_stamp top (entries_in before))
      by true r = le-max_left t.event.stamp (last_stamp top (entries_in before))
      by false r = omega (arith, r, le-max_right t.event.stamp (last_stamp top (entries_in before)))

  node_within : (n : ℕ) (v : NodeView) → slice_get ran n ≡ Some v → v.clock ≤ last_stamp top entries
  node_within n v e =
      let is = g.each n v e in
      let own : clock (clock_of n 0 trace) (each n) ≤ last_stamp top entries = subst (λ ts. clock (clock_of n 0 trace) ts ≤ last_stamp top entries) (own_is n) (own_within n (clock_of n 0 trace) (own_low n top trace g.stamps) turns) in
      elim is.not_above as (λ z. v.clock ≤ last_stamp top entries) [ inl l ↦ omega (arith, l, own) | inr l ↦ omega (arith, l, last_low top entries) ]

  -- the newest has the last stamp
  newest_last : (t : Turn) (before : List Turn) → IsAbove t.event (events_in before) → last_stamp top (entries_in before) ≤ max top t.event.stamp
  newest_last t [] o = le-max_left top t.event.stamp
  newest_last t (x ∷ xs) o = max-le {a = x.event.stamp} {b = last_stamp top (entries_in xs)} {k = max top t.event.stamp}
      (elim o.0 as (λ z. x.event.stamp ≤ max top t.event.stamp) [ inl l ↦ omega (arith, l, le-max_right top t.event.stamp) | inr r ↦ omega (arith, r.0, le-max_right top t.event.stamp) ])
      (newest_last t xs o.1)

  last_reached : (ts : List Turn) → ts ≡ turns → last_stamp top (entries_in ts) ≤ greatest_clock ran
  last_reached [] e = g.reached
  last_reached (t ∷ before) e =
      let n : ℕ = t.event.node in
      let d : IsDescending (events_in (t ∷ before)) = subst (λ ts. IsDescending (events_in ts)) (sym e) (woven_descends each all_rise many) in
      let first : own_turns n (t ∷ before) ≡ t ∷ own_turns n before = ap (λ b. cond b (t ∷ own_turns n before) (own_turns n before)) (eq-eqb n n refl) in
      let own : each n ≡ t ∷ own_turns n before = sym (own_is n) ∙ ap (own_turns n) (sym e) ∙ first in
      let l : n < many = by_less n many (λ m. m) (λ past. absurd (cc (own, g.none n past))) in
      let o = at n l in
      let up : t.event.stamp ≤ greatest_clock ran = omega (arith, ap (clock (clock_of n 0 trace)) own, o.is.not_below, clock_within ran n o.v o.was) in
      max-le {a = t.event.stamp} {b = last_stamp top (entries_in before)} {k = greatest_clock ran} up
      (let m : max top t.event.stamp ≤ greatest_clock ran = max-le {a = top} {b = t.event.stamp} {k = greatest_clock ran} g.reached up in omega (arith, newest_last t before d.0, m))

  pub greatest : greatest_clock ran ≡ last_stamp top entries
  greatest = omega (arith, greatest_most (last_stamp top entries) ran node_within, last_reached turns refl)

  pub round_now : round_at (slice_get ran 0) ≡ round
  round_now = let o = at 0 (omega (arith, shell.program.setup.geometry.some_node)) in ap round_at o.was ∙ o.is.in_round

  module _ (nodes : List NodeView) (h : SettlesAll shell.rest ran nodes) where
    abbrev gs : List (Ends Packet)
    gs = wires_in nodes shell.rest

    new_count : length nodes ≡ many
    new_count = h.nodes.count ∙ f.count

    wide_now : (i : ℕ) → i < many → i < length gs
    wide_now i l = omega (arith, wires-length nodes shell.rest, new_count, l)

    wide_was : (i : ℕ) → i < many → i < length fs
    wide_was i l = omega (arith, wires-length ran shell.rest, f.count, l)

    links_fit : (i j : ℕ) → i < many → j < many → IsPrefix (received i j (events_in turns)) (net.links i j ++ sent i j (events_in turns))
    links_fit i j li lj =
        let x = link_there gs i j h.wired (wide_now i li) (wide_now j lj) in
        let y = link_there gs j i h.wired (wide_now j lj) (wide_now i li) in
        let settled : IsSettled x.0 y.0 = h.settled i j x.0 y.0 (omega (arith, f.count, li)) (omega (arith, f.count, lj)) x.1 y.1 in
        let got : link_received y.0 ≡ received i j since ++ taken_from i (events_in (each j)) = sym (ap (of_link link_received) y.1) ∙ h.same.same_received i j ∙ received_now i j lj in
        let gave : link_sent x.0 ≡ sent i j since ++ sent_to j (events_in (each i)) = sym (ap (of_link link_sent) x.1) ∙ h.same.same_sent i j ∙ sent_now i j li (wide_was j lj) in
        let rest : List Packet = link_known y.0 ++ link_waiting x.0 in (
          rest,
          ap (λ ps. ps ++ rest) (taken_is i j)
              ∙ fits_on (received i j since) (taken_from i (events_in (each j))) rest (net.links i j) (sent_to j (events_in (each i))) (sent i j since) (held_old i j) (ap (λ ps. ps ++ rest) (sym got) ∙ settled.content ∙ gave)
              ∙ ap (λ ps. net.links i j ++ ps) (sym (given_is i j)),
        )

    all_fit : (i j : ℕ) → IsPrefix (received i j (events_in turns)) (net.links i j ++ sent i j (events_in turns))
    all_fit i j = by_less j many
        (λ lj. by_less i many
        (λ li. links_fit i j li lj)
        (λ past. none_out i j (taken_is i j ∙ all_taken_out p j i top round (each j) past (at j lj).is.one_round)))
        (λ past. none_out i j (taken_is i j ∙ ap (λ ts. taken_from i (events_in ts)) (g.none j past)))

    pub gather : GathersAfter p trace top round (λ n. top) turns
    gather = record {
      legal = g.legal;
      begun = begun;
      order = woven_descends each all_rise many;
      local = λ n. subst (λ ts. IsHistory p n top (net.nodes n) ts) (sym (own_is n))
          (by_less n many (λ l. history n l) (λ past. subst (λ ts. IsHistory p n top (net.nodes n) ts) (sym (g.none n past)) tt));
      links = all_fit;
      one_round = all_of_round;
      stamps = g.stamps;
      rounds = g.rounds;
      clocks_within = λ n. omega arith;
      few = low;
    }

    -- ## What the cluster becomes

    module _ (whole : IsShell shell) (a : AreGathered p trace turns) where
      gathering : Gathers p net top (λ n. top) turns
      gathering = gathers p trace top round (λ n. top) turns gather

      same : events_of p net entries ≡ events_in turns
      same = determined p net (events_in turns) (gathered p net top (λ n. top) turns gathering)

      legal : Legal p ((entries ++ kept) ++ before)
      legal = subst (λ xs. Legal p xs) (sym (append_assoc entries kept before)) a.legal

      -- what has happened since the part before, the new turns among it
      abbrev all : List Event
      all = events_of p (net_after p before) (entries ++ kept)

      all_are : all ≡ events_in turns ++ since
      all_are =
          events_joined p (net_after p before) kept entries ∙ ap (λ es. es ++ since) (ap (λ (z : Net). events_of p z entries) (net_joined p (fresh_net p) before kept) ∙ same)

      -- ## Links

      sent_all : (i j : ℕ) → sent i j all ≡ sent i j since ++ sent_to j (events_in (each i))
      sent_all i j = ap (sent i j) all_are ∙ sent_joined i j since (events_in turns) ∙ ap (λ ps. sent i j since ++ ps) (given_is i j)

      received_all : (i j : ℕ) → received i j all ≡ received i j since ++ taken_from i (events_in (each j))
      received_all i j = ap (received i j) all_are ∙ received_joined i j since (events_in turns) ∙ ap (λ ps. received i j since ++ ps) (taken_is i j)

      further : (i : ℕ) → many ≤ i → slice_get fs i ≡ slice_get shell.rest (i - many)
      further i l = let e : i ≡ length ran + (i - many) = omega (arith, f.count, l) in ap (slice_get fs) e ∙ behind ran shell.rest (i - many)

      -- a node has no end to one that isn't there
      none_beyond : (i j : ℕ) → i < many → length fs ≤ j → sent_on fs i j ≡ []
      none_beyond i j l out =
          let o = at i l in
          let here : slice_get fs i ≡ Some o.v.ends = wires-get ran shell.rest i o.v o.was in
          sent_on-node fs i j o.v.ends here ∙ ap (of_link link_sent) (slice_get_past o.v.ends.links.items j (omega (arith, out, f.wired.wide i o.v.ends here, o.v.ends.links.ok.0)))

      carried_sent : (i j : ℕ) → sent_on fs i j ≡ sent i j all
      carried_sent i j = by_less i (many)
          (λ l. by_less j (length fs)
          (λ lj. sent_now i j l lj ∙ sym (sent_all i j))
          (λ out. none_beyond i j l out ∙ sym (outside.sent_out p before (entries ++ kept) legal.runs i j (omega (arith, out, wires-length ran shell.rest, f.count)))))
          (λ past. ap (λ o. of_link link_sent (row_link o j)) (further i past) ∙ (whole.unused (i - many) j).0 ∙ sym (outside.sent_past p before (entries ++ kept) legal.runs i j past))

      carried_received : (i j : ℕ) → received_on fs i j ≡ received i j all
      carried_received i j = by_less j (many)
          (λ l. received_now i j l ∙ sym (received_all i j))
          (λ past. ap (λ o. of_link link_received (row_link o i)) (further j past) ∙ (whole.unused (j - many) i).1 ∙ sym (outside.received_past p before (entries ++ kept) legal.runs i j past))

      under_way : HoldUnderWay p ((entries ++ kept) ++ before) fs
      under_way i j =
          ap (λ ps. ps ++ (net_after p ((entries ++ kept) ++ before)).links i j) (carried_received i j)
          ∙ outside.held p before (entries ++ kept) legal.runs i j ∙ ap (λ ps. ps ++ sent i j all) (g.still i j) ∙ sym (carried_sent i j)

      -- ## Nodes

      state_is : (n : ℕ) (v : NodeView) → slice_get ran n ≡ Some v → (net_after p (entries ++ trace)).nodes n ≡ v.state
      state_is n v e =
          a.nodes n ∙ sym (gathers_state p net top (λ k. top) turns gathering [] turns refl n)
          ∙ ap (turn_state p n (net.nodes n)) (own_is n) ∙ (g.each n v e).state

      module _ (made : ℕ) (e : made ≡ turns_in (entries ++ kept)) where
        abbrev mid : ClusterView
        mid = view_of p made ran shell.rest

        node_now : (n : ℕ) (v : NodeView) → slice_get ran n ≡ Some v → IsNodeOf mid ((entries ++ kept) ++ before) n v
        node_now n v at = subst (λ xs. IsNodeOf mid xs n v) (sym (append_assoc entries kept before)) (record {
          program = f.programs n v at;
          me = f.numbered n v at;
          state = state_is n v at;
          booted = (g.each n v at).booted;
          few = (g.each n v at).few;
        })

        round_is : round_in mid ≡ round
        round_is = round_now

        greatest_is : greatest_clock ran ≡ last_stamp top entries
        greatest_is = greatest

        -- ## The console

        -- no other node than the first shows a line
        shows : (ts : List Turn) → IsRun p (fresh_net p) (entries_in ts ++ trace) → KeepsRules p (first_world p) (entries_in ts ++ trace) → console_of p (at_first p) (entries_in ts ++ trace) ≡ console_of p (at_first p) trace ++ printed (own 0 (events_of p net (entries_in ts)))
        shows [] r k = sym (append-nil (console_of p (at_first p) trace))
        shows (t ∷ ts) r k = by (eqb t.event.node 0) refl (shows ts r.0 k.0)
          where
            x : Entry
            x = entry_of t.event

            xs : List Entry
            xs = entries_in ts ++ trace

            -- what the entry shows is what its event prints
            prints : (event_of p (net_after p xs) x).prints ≡ shown_by_all p x.node x.labels (spots_of p (at_first p) xs)
            prints = same_end (console_of p (at_first p) xs) _ _
                (ap (λ bs. bs ++ (event_of p (net_after p xs) x).prints) (sym (console_after p xs r.0)) ∙ console_after p (x ∷ xs) r)

            here : (event_of p (net_after_trace p net (entries_in ts)) x).prints ≡ shown_by_all p x.node x.labels (spots_of p (at_first p) xs)
            here = ap (λ (z : Net). (event_of p z x).prints) (net_joined p (fresh_net p) trace (entries_in ts)) ∙ prints

            by : (b : Bool) → eqb t.event.node 0 ≡ b → console_of p (at_first p) xs ≡ console_of p (at_first p) trace ++ printed (own 0 (events_of p net (entries_in ts))) → console_of p (at_first p) xs ++ shown_by_all p x.node x.labels (spots_of p (at_first p) xs)
                ≡ console_of p (at_first p) trace ++ printed (cond b (event_of p (net_after_trace p net (entries_in ts)) x ∷ own 0 (events_of p net (entries_in ts))) (own 0 (events_of p net (entries_in ts))))
            by true e before_it = ap (λ bs. bs ++ shown_by_all p x.node x.labels (spots_of p (at_first p) xs)) before_it ∙ append_assoc (console_of p (at_first p) trace) (printed (own 0 (events_of p net (entries_in ts)))) _
                ∙ ap (λ bs. console_of p (at_first p) trace ++ (printed (own 0 (events_of p net (entries_in ts))) ++ bs)) (sym here)
            by false e before_it =
                let none : shown_by_all p x.node x.labels (spots_of p (at_first p) xs) ≡ [] =
                subst (λ w. shown_by_all p x.node x.labels w ≡ []) (told_spots p (first_world p) xs) (silent p _ x.node x.labels (world_of p (first_world p) xs) k.1.first (λ z. absurd (cc (e, eq-eqb t.event.node 0 z))) k.1.goes) in
                ap (λ bs. console_of p (at_first p) xs ++ bs) none ∙ append-nil (console_of p (at_first p) xs) ∙ before_it

        console : console_of p (at_first p) ((entries ++ kept) ++ before) ≡ console_of p (at_first p) before ++ console_in mid
        console =
            let own_0 : own 0 (events_of p net entries) ≡ events_in (each 0) = ap (own 0) same ∙ own_events 0 turns ∙ ap events_in (own_is 0) in
            ap (console_of p (at_first p)) (append_assoc entries kept before)
            ∙ shows turns a.legal.runs a.legal.rules
            ∙ ap (λ es. console_of p (at_first p) trace ++ printed es) own_0
            ∙ sym g.console

        of_round_all : AreOfRound top round turns
        of_round_all = all_of_round

        bounded : IsAtMost (top + length turns) turns
        bounded = gathers_bounded p net top (λ n. top) turns gathering

        agrees : AgreesWith mid before (entries ++ kept)
        agrees = record {
          legal = legal;
          trace = record { order = order_front (entries ++ kept) before legal.order; entries = entries_are; wired = f.wired };
          count = f.count;
          turns = e;
          node = node_now;
          one_round = λ n v at. (g.each n v at).in_round ∙ sym round_is;
          rounds = subst (λ r. NoneAbove r ((entries ++ kept) ++ before)) (sym round_is) (subst (λ xs. NoneAbove round xs) (sym (append_assoc entries kept before)) (none_above top round turns trace of_round_all g.rounds));
          stamps = subst (λ k. NoneLater k ((entries ++ kept) ++ before)) (sym greatest_is) (subst (λ xs. NoneLater (last_stamp top entries) xs) (sym (append_assoc entries kept before)) (later_new top entries trace g.stamps));
          clocks = λ n v at. omega (arith, clock_within ran n v at, greatest_is, last_bound top (top + length turns) turns (omega arith) bounded, g.low, length-append entries kept, entries_length turns);
          carried = record { sends = carried_sent; takes = carried_received };
          under_way = under_way;
          console = console;
          some_quantum = whole.some_quantum;
          bounded_quantum = whole.bounded_quantum;
          aligned = whole.aligned;
        }

        pub stands : StandsFor (view_of p made nodes shell.rest) before (entries ++ kept)
        stands = settled_stands p made ran nodes shell.rest before (entries ++ kept) agrees h
