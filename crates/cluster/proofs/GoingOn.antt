-- A node that is driven apart from its cluster goes on with its history, turn by turn.
use Rattle.std.proofs.Common.{◌≡◌, ℕ, ◌<◌, ◌≤◌, inl, inr, max, List, [], ◌∷◌, ◌++◌, ◌≢◌, ◌⊎◌, length, length-set, map, set, reverse, Some, true, Option, cond, refl, sym, ap, ◌∙◌, subst, arith, append_assoc, append-nil}
use Rattle.std.specs.Prelude.{◌==◌, if◌then◌else◌, slice_get}
use Rattle.std.proofs.lemmas.Bool.{eq-eqb, ne_eqb}
use Rattle.std.proofs.lemmas.Option.{same_Some, slice_get_within}
use Rattle.std.proofs.lemmas.List.{length-append, reverse-append, reverse-reverse}
use Rattle.std.proofs.Math.Nat.{le-max_left, le-max_right, max-eq_right, max-le}
use Rattle.run_trace.specs.declared.entry.Act.{Act}
use Rattle.run_trace.specs.declared.entry.Act.TheVariants.{Boot, Run, Take, Move}
use Rattle.run_trace.specs.declared.entry.Entry.{Entry}
use Rattle.run_trace.specs.Cluster.{after_or, received, sent, taken_of}
use Rattle.run_trace.specs.Console.{console_of, printed}
use Rattle.run_trace.specs.Histories.{IsStamped, IsTurn, Turn, own_entries, seen, sent_to, taken_from, turn_state}
use Rattle.run_trace.specs.Links.{packets_to}
use Rattle.run_trace.specs.Local.{EventSoFar, Local}
use Rattle.run_trace.specs.Machine.{turn_event}
use Rattle.run_trace.specs.Program.{Program}
use Rattle.run_trace.specs.Spots.{at_first}
use Rattle.run_trace.specs.Trace.{entry_of, events_of}
use Rattle.trace_laws.specs.Gathers.{events_in}
use Rattle.wires.specs.Wires.{AreWired}
use Rattle.wires.proofs.Lemmas.{received_on-node, sent_on-node, stays_refl}
use Rattle.basics.proofs.Lemmas.{by_eq, get_set_other, get_set_same, some_at}
use Rattle.node_loop.specs.Turns.{Does, Idles, IsActInRange, IsInRange, Turns, entry_limit, turn_of}
use Rattle.node_loop.specs.declared.node.Turned.{Turned}
use Rattle.node_loop.specs.declared.node.Turned.TheVariants.{Did, Idle}
use Rattle.node_loop.specs.View.{NodeView, next_round, raised}
use Rattle.cluster.specs.Apart.{Fits, HasGoneOn, HaveGoneOn, StaysInPlace, last_stamp_of}
use Rattle.cluster.specs.Between.{wires_in}
use Rattle.cluster.specs.Gathering.{entries_in}
use Rattle.cluster.specs.Standing.{AgreesWith, IsNodeOf, entries_at, net_after}
use Rattle.cluster.specs.View.{ClusterView, ShellView, console_at, greatest_clock, round_in, shell_of, wires_of}
use Rattle.cluster.proofs.Acting.{get_raised, raised_length, turn_keeps}
use Rattle.cluster.proofs.Clocks.{clock_within, greatest_most, greatest_within, next_not_below}
use Rattle.cluster.proofs.Lists.{wires-get, wires-set}
use Rattle.cluster.proofs.NodeTurns.{own_low}
use Rattle.cluster.proofs.Runs.{higher}
use Rattle.cluster.proofs.Shells.{fit_after, still_before}

-- raised for the next round it has done nothing more
pub started : (c : ClusterView) (before kept : List Entry) → AgreesWith c before kept → (n : ℕ) (v : NodeView) → slice_get c.nodes n ≡ Some v
    → HasGoneOn c.program before kept (greatest_clock c.nodes) (next_round (round_in c)) n [] (raised (greatest_clock c.nodes) v)
started c before kept s n v at =
    let i : IsNodeOf c (kept ++ before) n v = s.node n v at in
    let mine : own_entries n kept ≡ reverse v.entries = s.trace.entries n ∙ ap (λ x. reverse (entries_at x)) at in
    let here : slice_get (wires_of c) n ≡ Some v.ends = wires-get c.nodes c.rest n v at in
    record {
      history = tt;
      one_round = tt;
      state = i.state;
      booted = i.booted;
      entries = sym (ap reverse mine ∙ reverse-reverse v.entries);
      few = i.few;
      received = λ k. sym (received_on-node (wires_of c) k n v.ends here) ∙ s.carried.takes k n ∙ sym (append-nil (received k n (events_of c.program (net_after c.program before) kept)));
      sent = λ k l. sym (sent_on-node (wires_of c) n k v.ends here) ∙ s.carried.sends n k ∙ sym (append-nil (sent n k (events_of c.program (net_after c.program before) kept)));
      in_round = ap next_round (s.one_round n v at);
      not_below = omega (arith, own_low n (greatest_clock c.nodes) (kept ++ before) s.stamps, le-max_right v.clock (greatest_clock c.nodes));
      not_above = inr (omega (arith, max-eq_right {n = v.clock} {m = greatest_clock c.nodes} (clock_within c.nodes n v at)));
    }

module _ (p : Program) (before kept : List Entry) (began round n : ℕ) (turns : List Turn) (v : NodeView) (g : HasGoneOn p before kept began round n turns v)
    (program : v.program ≡ p) (me : v.me ≡ n) (low : began ≤ v.clock) (room : length v.entries < entry_limit)
    (act : Act) (range : IsActInRange p n act) (new : NodeView) (d : Does v act new) (booted : new.state.booted ≡ true) where
  abbrev last : ℕ
  last = last_stamp_of n (kept ++ before) turns

  abbrev base : Local
  base = (net_after p (kept ++ before)).nodes n

  -- the turn, with the clock with which the round began
  abbrev pub turn : Turn
  turn = record { began = began; event = (turn_of v act d.took d.done).event }

  is : turn_event p n (turn_state p n base turns) act d.took ≡ Some d.done
  is =
      ap (λ (s : Local). turn_event p n s act d.took) g.state ∙ ap (λ m. turn_event p m v.state act d.took) (sym me)
      ∙ ap (λ (q : Program). turn_event q v.me v.state act d.took) (sym program) ∙ d.is

  -- the node's clock is the greater of its last stamp and the round's clock
  same : max v.clock (seen d.took) ≡ max began (max last (seen d.took))
  same =
      let all : ℕ = max began (max last (seen d.took)) in
      let seen_in : seen d.took ≤ all = omega (arith, le-max_right last (seen d.took), le-max_right began (max last (seen d.took))) in
      let last_in : last ≤ all = omega (arith, le-max_left last (seen d.took), le-max_right began (max last (seen d.took))) in
      let clock_in : v.clock ≤ all = elim g.not_above as (λ z. v.clock ≤ all) [ inl l ↦ omega (arith, l, last_in) | inr l ↦ omega (arith, l, le-max_left began (max last (seen d.took))) ] in
      let up : max v.clock (seen d.took) ≤ all = max-le {a = v.clock} {b = seen d.took} {k = all} clock_in seen_in in
      let mid : max last (seen d.took) ≤ max v.clock (seen d.took) = max-le {a = last} {b = seen d.took} {k = max v.clock (seen d.took)}
      (omega (arith, g.not_below, le-max_left v.clock (seen d.took))) (le-max_right v.clock (seen d.took)) in
      let down : all ≤ max v.clock (seen d.took) = max-le {a = began} {b = max last (seen d.took)} {k = max v.clock (seen d.took)} (omega (arith, low, le-max_left v.clock (seen d.took))) mid in
      omega (arith, up, down)

  stamped : (a : Act) → IsActInRange p n a → IsStamped last turn a
  stamped Boot r = absurd r
  stamped (Run vp quantum) r = omega (arith, same)
  stamped (Take from) r = omega (arith, same)
  stamped (Move t to) r = omega (arith, same)

  is_turn : IsTurn p n last (turn_state p n base turns) turn
  is_turn = record { done = d.done; is = is; labels = refl; sends = refl; prints = refl; shape = d.shape; stamp = stamped act range }

  entries : new.entries ≡ reverse (entries_in (turn ∷ turns) ++ own_entries n kept)
  entries =
      ap (λ (z : NodeView). z.entries) d.after ∙ ap (λ xs. xs ++ entry_of turn.event ∷ []) g.entries
      ∙ sym (reverse-append (entry_of turn.event ∷ []) (entries_in turns ++ own_entries n kept))

  pub goes_on : HasGoneOn p before kept began round n (turn ∷ turns) new
  goes_on = record {
    history = (g.history, is_turn);
    one_round = ((me, refl, g.in_round, range), g.one_round);
    state = ap (λ (o : Option EventSoFar). after_or o (turn_state p n base turns)) is ∙ sym (ap (λ (z : NodeView). z.state) d.after);
    booted = booted;
    entries = entries;
    few = omega (arith, ap (λ (z : NodeView). length z.entries) d.after, length-append v.entries (entry_of turn.event ∷ []), room);
    received = λ i. d.links.received i ∙ ap (λ ps. ps ++ taken_of i act d.took) (g.received i)
        ∙ append_assoc (received i n (events_of p (net_after p before) kept)) (taken_from i (events_in turns)) (taken_of i act d.took);
    sent = λ j l. d.links.sent j (omega (arith, l, d.links.wide)) ∙ ap (λ ps. ps ++ packets_to j turn.event.stamp d.done.sends) (g.sent j (omega (arith, l, d.links.wide)))
        ∙ append_assoc (sent n j (events_of p (net_after p before) kept)) (sent_to j (events_in turns)) (packets_to j turn.event.stamp d.done.sends);
    in_round = ap (λ (z : NodeView). z.round) d.after ∙ g.in_round;
    not_below = omega (arith, ap (λ (z : NodeView). z.clock) d.after);
    not_above = inl (omega (arith, ap (λ (z : NodeView). z.clock) d.after));
  }

-- an act that isn't possible leaves the node as it is
idles : (p : Program) (before kept : List Entry) (began round n : ℕ) (turns : List Turn) (v new : NodeView) (act : Act) → HasGoneOn p before kept began round n turns v → Idles v act new → HasGoneOn p before kept began round n turns new
idles p before kept began round n turns v new act g h = record {
  history = g.history;
  one_round = g.one_round;
  state = g.state ∙ sym (ap (λ (z : NodeView). z.state) h.same);
  booted = ap (λ (z : NodeView). z.state.booted) h.same ∙ g.booted;
  entries = ap (λ (z : NodeView). z.entries) h.same ∙ g.entries;
  few = omega (arith, ap (λ (z : NodeView). length z.entries) h.same, g.few);
  received = λ i. h.links.received i ∙ g.received i;
  sent = λ j l. h.links.sent j ∙ g.sent j (omega (arith, l, h.links.wide));
  in_round = ap (λ (z : NodeView). z.round) h.same ∙ g.in_round;
  not_below = omega (arith, ap (λ (z : NodeView). z.clock) h.same, g.not_below);
  not_above = subst (λ k. (k ≤ last_stamp_of n (kept ++ before) turns) ⊎ (k ≤ began)) (sym (ap (λ (z : NodeView). z.clock) h.same)) g.not_above;
}

-- ## One of the nodes

-- what node n has become, with these turns, the newest of which show these lines
pub record Becomes (p : Program) (before kept : List Entry) (began round n : ℕ) (turns : List Turn) (v new : NodeView) : Type 0 where
  pub more : List Turn
  pub gone : HasGoneOn p before kept began round n more new
  pub later : v.clock ≤ new.clock
  pub place : StaysInPlace v new
  pub shown : List ℕ
  pub console : new.console ≡ v.console ++ shown
  pub prints : printed (events_in more) ≡ printed (events_in turns) ++ shown

becomes : (p : Program) (before kept : List Entry) (began round n : ℕ) (turns : List Turn) (v : NodeView) → HasGoneOn p before kept began round n turns v → v.program ≡ p → v.me ≡ n → began ≤ v.clock → length v.entries < entry_limit
    → (act : Act) → IsInRange v act → (new : NodeView) (t : Turned) → Turns v act new t → new.state.booted ≡ true → Becomes p before kept began round n turns v new
becomes p before kept began round n turns v g program me low room act range new Idle h booted = record {
  more = turns;
  gone = idles p before kept began round n turns v new act g h;
  later = omega (arith, ap (λ (z : NodeView). z.clock) h.same);
  place = turn_keeps v new act Idle h;
  shown = [];
  console = ap (λ (z : NodeView). z.console) h.same ∙ sym (append-nil v.console);
  prints = sym (append-nil (printed (events_in turns)));
}
becomes p before kept began round n turns v g program me low room act range new Did h booted =
    let here : IsActInRange p n act = subst (λ m. IsActInRange p m act) me (subst (λ (q : Program). IsActInRange q v.me act) program range) in
    record {
      more = turn p before kept began round n turns v g program me low room act here new h booted ∷ turns;
      gone = goes_on p before kept began round n turns v g program me low room act here new h booted;
      later = omega (arith, ap (λ (z : NodeView). z.clock) h.after, le-max_left v.clock (seen h.took));
      place = turn_keeps v new act Did h;
      shown = h.done.prints;
      console = ap (λ (z : NodeView). z.console) h.after;
      prints = refl;
    }

-- ## All nodes

module _ (shell : ShellView) (nodes : List NodeView) (f : Fits shell nodes) (before kept : List Entry) (began round : ℕ) (turns : ℕ → List Turn) (g : HaveGoneOn shell nodes before kept began round turns)
    (n : ℕ) (v : NodeView) (at : slice_get nodes n ≡ Some v) (new : NodeView) (b : Becomes shell.program before kept began round n (turns n) v new) where
  within : n < length nodes
  within = slice_get_within nodes n v at

  abbrev now : List NodeView
  now = set nodes n new

  here : slice_get now n ≡ Some new
  here = get_set_same nodes n new within

  abbrev pub further : ℕ → List Turn
  further m = if m == n then b.more else turns m

  further_here : (m : ℕ) → m ≡ n → further m ≡ b.more
  further_here m e = ap (λ t. cond t b.more (turns m)) (eq-eqb m n e)

  further_there : (m : ℕ) → m ≢ n → further m ≡ turns m
  further_there m ne = ap (λ t. cond t b.more (turns m)) (ne_eqb m n ne)

  -- each node is the new one or was there
  each_now : (P : ℕ → NodeView → Type 0) → P n new → ((m : ℕ) (w : NodeView) → slice_get nodes m ≡ Some w → m ≢ n → P m w) → (m : ℕ) (w : NodeView) → slice_get now m ≡ Some w → P m w
  each_now P one others m w e = by_eq m n
      (λ k. subst (λ i. P i w) (sym k) (subst (λ z. P n z) (same_Some new w (sym here ∙ subst (λ i. slice_get now i ≡ Some w) k e)) one))
      (λ ne. others m w (sym (get_set_other nodes m n new ne) ∙ e) ne)

  pub fits_now : Fits shell now
  fits_now = record {
    count = length-set nodes n new ∙ f.count;
    numbered = each_now (λ m w. w.me ≡ m) (b.place.me ∙ f.numbered n v at) (λ m w e ne. f.numbered m w e);
    programs = each_now (λ m w. w.program ≡ shell.program) (b.place.program ∙ f.programs n v at) (λ m w e ne. f.programs m w e);
    wired = subst (λ es. AreWired es) (sym (wires-set nodes shell.rest n new within)) (b.place.wired.among (wires_in nodes shell.rest) n f.wired (wires-get nodes shell.rest n v at));
  }

  reached : began ≤ greatest_clock now
  reached =
      let up : greatest_clock nodes ≤ greatest_clock now = greatest_most (greatest_clock now) nodes (λ m u e. by_eq m n
      (λ k. (let same : u ≡ v = same_Some u v (sym e ∙ ap (slice_get nodes) k ∙ at) in omega (arith, ap (λ (z : NodeView). z.clock) same, b.later, clock_within now n new here)))
      (λ ne. clock_within now m u (get_set_other nodes m n new ne ∙ e))) in
      omega (arith, g.reached, up)

  console : console_of shell.program (at_first shell.program) before ++ console_at (slice_get now 0) ≡ console_of shell.program (at_first shell.program) (kept ++ before) ++ printed (events_in (further 0))
  console = by_eq 0 n
      (λ k.
      let old : List ℕ = console_of shell.program (at_first shell.program) before in
      let all : List ℕ = console_of shell.program (at_first shell.program) (kept ++ before) in
      let was : old ++ v.console ≡ all ++ printed (events_in (turns n)) = ap (λ o. old ++ console_at o) (sym (ap (slice_get nodes) k ∙ at)) ∙ g.console ∙ ap (λ i. all ++ printed (events_in (turns i))) k in
      ap (λ o. old ++ console_at o) (ap (slice_get now) k ∙ here) ∙ ap (λ bs. old ++ bs) b.console ∙ sym (append_assoc old v.console b.shown)
      ∙ ap (λ bs. bs ++ b.shown) was ∙ append_assoc all (printed (events_in (turns n))) b.shown
      ∙ ap (λ bs. all ++ bs) (sym b.prints) ∙ ap (λ ts. all ++ printed (events_in ts)) (sym (further_here 0 k)))
      (λ ne.
      ap (λ o. console_of shell.program (at_first shell.program) before ++ console_at o) (get_set_other nodes 0 n new ne) ∙ g.console
      ∙ ap (λ ts. console_of shell.program (at_first shell.program) (kept ++ before) ++ printed (events_in ts)) (sym (further_there 0 ne)))

  pub all_gone : HaveGoneOn shell now before kept began round further
  all_gone = record {
    legal = g.legal;
    still = g.still;
    each = each_now (λ m w. HasGoneOn shell.program before kept began round m (further m) w)
        (subst (λ ts. HasGoneOn shell.program before kept began round n ts new) (sym (further_here n refl)) b.gone)
        (λ m w e ne. subst (λ ts. HasGoneOn shell.program before kept began round m ts w) (sym (further_there m ne)) (g.each m w e));
    none = λ m past. further_there m (λ k. absurd (omega (arith, k, past, within, f.count))) ∙ g.none m past;
    rounds = g.rounds;
    stamps = g.stamps;
    low = g.low;
    reached = reached;
    console = console;
  }

-- after a turn of one of them the nodes fit still, and all have gone on
pub one_goes_on : (shell : ShellView) (nodes : List NodeView) → Fits shell nodes → (before kept : List Entry) (began round : ℕ) (turns : ℕ → List Turn) → HaveGoneOn shell nodes before kept began round turns
    → (n : ℕ) (v : NodeView) → slice_get nodes n ≡ Some v → began ≤ v.clock → length v.entries < entry_limit → (act : Act) → IsInRange v act → (new : NodeView) (t : Turned) → Turns v act new t → new.state.booted ≡ true
    → Fits shell (set nodes n new) × (further : ℕ → List Turn) × HaveGoneOn shell (set nodes n new) before kept began round further
one_goes_on shell nodes f before kept began round turns g n v at low room act range new t h booted =
    let b = becomes shell.program before kept began round n (turns n) v (g.each n v at) (f.programs n v at) (f.numbered n v at) low room act range new t h booted in
    (fits_now shell nodes f before kept began round turns g n v at new b, further shell nodes f before kept began round turns g n v at new b, all_gone shell nodes f before kept began round turns g n v at new b)

-- ## The start of a round

module _ (c : ClusterView) (before kept : List Entry) (s : AgreesWith c before kept) where
  abbrev top : ℕ
  top = greatest_clock c.nodes

  abbrev up : List NodeView
  up = map (raised top) c.nodes

  was : (n : ℕ) (w : NodeView) → slice_get up n ≡ Some w → (v : NodeView) × (slice_get c.nodes n ≡ Some v) × (raised top v ≡ w)
  was n w e =
      let v = some_at c.nodes n (omega (arith, slice_get_within up n w e, raised_length top c.nodes)) in
      (v.0, v.1, same_Some (raised top v.0) w (sym (get_raised top c.nodes n v.0 v.1) ∙ e))

  pub fits_at_start : Fits (shell_of c) up
  fits_at_start = fit_after c before kept s up (raised_length top c.nodes) (λ n v w e g.
      let is : raised top v ≡ w = same_Some (raised top v) w (sym (get_raised top c.nodes n v e) ∙ g) in
      subst (λ z. StaysInPlace v z) is (record { program = refl; me = refl; wired = stays_refl v.ends }))

  first : (v : NodeView) × (slice_get c.nodes 0 ≡ Some v)
  first = some_at c.nodes 0 (omega (arith, s.count, c.program.setup.geometry.some_node))

  pub all_started : HaveGoneOn (shell_of c) up before kept top (next_round (round_in c)) (λ n. [])
  all_started = record {
    legal = s.legal;
    still = still_before c before kept s;
    each = λ n w e. (let o = was n w e in subst (λ z. HasGoneOn c.program before kept top (next_round (round_in c)) n [] z) o.2 (started c before kept s n o.0 o.1));
    none = λ n past. refl;
    rounds = higher (round_in c) (next_round (round_in c)) (next_not_below (round_in c)) (kept ++ before) s.rounds;
    stamps = s.stamps;
    low = greatest_within c before kept s;
    reached = omega (arith, le-max_right first.0.clock top, clock_within up 0 (raised top first.0) (get_raised top c.nodes 0 first.0 first.1));
    console = ap (λ o. console_of c.program (at_first c.program) before ++ console_at o) (get_raised top c.nodes 0 first.0 first.1)
        ∙ ap (λ o. console_of c.program (at_first c.program) before ++ console_at o) (sym first.1)
        ∙ sym s.console ∙ sym (append-nil (console_of c.program (at_first c.program) (kept ++ before)));
  }
