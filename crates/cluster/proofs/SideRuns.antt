-- What nodes have done side by side in a round goes on with the trace.
use Rattle.std.proofs.Common.{◌≡◌, ℕ, zero, suc, ◌<◌, ◌≤◌, inl, inr, List, [], ◌∷◌, ◌++◌, length, map, reverse, get_or, Some, Bool, true, false, cond, eqb, refl, sym, ap, ◌∙◌, subst, arith, append_assoc}
use Rattle.std.specs.Prelude.{slice_get}
use Rattle.std.proofs.lemmas.List.{length-append, length-reverse}
use Rattle.std.proofs.lemmas.Option.{slice_get_within, same_Some}
use Rattle.std.proofs.Math.Nat.{max-eq_right}
use Rattle.run_trace.specs.declared.entry.Act.TheVariants.{Take}
use Rattle.run_trace.specs.declared.entry.Entry.{Entry}
use Rattle.run_trace.specs.declared.packet.Packet.{Packet}
use Rattle.run_trace.specs.Cluster.{Net}
use Rattle.run_trace.specs.Histories.{IsHistory, Turn, clock, sent_to, taken_from}
use Rattle.run_trace.specs.Legality.{NoneAbove}
use Rattle.run_trace.specs.Local.{Local}
use Rattle.run_trace.specs.Program.{Program, nodes_of, processors_of}
use Rattle.trace_laws.specs.Gathers.{events_in, own_turns}
use Rattle.wires.specs.declared.ends.Ends.{Ends}
use Rattle.wires.proofs.Lemmas.{received_on-node, sent_on-node}
use Rattle.basics.proofs.Lemmas.{by_less, some_at}
use Rattle.node_loop.specs.Histories.{entries_of_turns}
use Rattle.node_loop.specs.Passes.{IsRound}
use Rattle.node_loop.specs.Rounds.{AreInRound, HasDone, HasRounded, Rounds, can_run, moments_in}
use Rattle.node_loop.specs.Turns.{can, entry_limit}
use Rattle.node_loop.specs.View.{NodeView, next_round, raised, with_ends}
use Rattle.node_loop.specs.declared.node.RoundEnd.{RoundEnd}
use Rattle.node_loop.specs.declared.node.RoundEnd.TheVariants.{Lost, Through}
use Rattle.cluster.specs.Gathering.{AreOfRound, GathersAfter, entries_in}
use Rattle.cluster.specs.Rounds.{HasRoomForRound, acts_in_round}
use Rattle.cluster.specs.SideBySide.{HasRun, HaveRounded, all_stand}
use Rattle.cluster.specs.Standing.{StandsFor, IsNodeOf, net_after}
use Rattle.cluster.specs.View.{ClusterView, greatest_clock, round_in, wires_of}
use Rattle.cluster.specs.Apart.{Fits, HasGoneOn, HaveGoneOn, StaysInPlace}
use Rattle.cluster.proofs.NodeTurns.{and_first, and_rest, of_round, own_low, rebased, rises}
use Rattle.cluster.proofs.Shells.{fit_after, still_before}
use Rattle.cluster.proofs.SideDriven.{ran_keep}
use Rattle.cluster.proofs.Together as together
use Rattle.cluster.proofs.Together.{entries_same}
use Rattle.run_trace.specs.Console.{console_of, printed}
use Rattle.run_trace.specs.Spots.{at_first}
use Rattle.cluster.specs.Rounds.{clock_of}
use Rattle.cluster.specs.View.{console_at, shell_of}
use Rattle.cluster.specs.Standing.{entries_at}
use Rattle.run_trace.specs.Histories.{own_entries, turn_state}
use Rattle.std.proofs.lemmas.List.{reverse-append, reverse-reverse}
use Rattle.std.proofs.Common.{◌⊎◌}
use Rattle.cluster.proofs.Acting.{get_raised, raised_length, read_some}
use Rattle.cluster.proofs.Clocks.{clock_within, greatest_within, next_not_below}
use Rattle.cluster.proofs.Lists.{wires-get}
use Rattle.cluster.proofs.Runs.{higher}
use Rattle.cluster.proofs.Weaving.{Rises, woven, woven_own, woven_past, woven_round}

-- ## One node

pub stands_at : (vs : List NodeView) → all_stand vs ≡ true → (n : ℕ) (v : NodeView) → slice_get vs n ≡ Some v → v.state.booted ≡ true
stands_at [] h n v e = absurd (cc e)
stands_at (u ∷ us) h zero v e = let same : u ≡ v = cc e in ap (λ (z : NodeView). z.state.booted) (sym same) ∙ and_first u.state.booted (all_stand us) h
stands_at (u ∷ us) h (suc n) v e = stands_at us (and_rest u.state.booted (all_stand us) h) n v e

-- a node that isn't lost has made its round
through : (v w : NodeView) → HasRun v w → w.state.booted ≡ true → HasRounded v acts_in_round w
through v w h b = by h.end h.rounds
  where
    by : (e : RoundEnd) → Rounds v acts_in_round w e → HasRounded v acts_in_round w
    by Through r = r
    by Lost r = absurd (cc (b, r.gone))

moments_length : (p : Program) (me : ℕ) (base : Local) (turns : List Turn) → length (moments_in p me base turns) ≡ length turns
moments_length p me base [] = refl
moments_length p me base (t ∷ before) = ap suc (moments_length p me base before)

clock_up : (c d : ℕ) → c ≤ d → (ts : List Turn) → clock c ts ≤ clock d ts
clock_up c d l [] = l
clock_up c d l (t ∷ before) = omega arith

clock_there : (c d k : ℕ) (ts : List Turn) → k ≡ clock d ts → (k ≤ clock c ts) ⊎ (k ≤ d)
clock_there c d k [] e = inr (omega (arith, e))
clock_there c d k (t ∷ before) e = inl (omega (arith, e))

module _ (c : ClusterView) (before kept : List Entry) (s : StandsFor c before kept) (nodes : List NodeView) (h : HaveRounded (greatest_clock c.nodes) c.rest c.nodes nodes) where
  abbrev pub p : Program
  p = c.program

  abbrev pub trace : List Entry
  trace = kept ++ before

  abbrev pub net : Net
  net = net_after p trace

  -- the clock and the number of the round
  abbrev pub top : ℕ
  top = greatest_clock c.nodes

  abbrev pub round : ℕ
  round = next_round (round_in c)

  abbrev pub many : ℕ
  many = nodes_of p

  abbrev pub es : List (Ends Packet)
  es = wires_of c

  pub old_count : length c.nodes ≡ many
  old_count = s.agrees.count

  pub ran_count : length h.ran ≡ many
  ran_count = h.count ∙ old_count

  pub new_count : length nodes ≡ many
  new_count = h.settled.nodes.count ∙ ran_count

  -- what node n was, what it was after its round, and what it is
  pub record NodeRound (n : ℕ) (turns : List Turn) : Type 0 where
    pub v : NodeView
    pub was : slice_get c.nodes n ≡ Some v
    pub w : NodeView
    pub ran : slice_get h.ran n ≡ Some w
    pub u : NodeView
    pub now : slice_get nodes n ≡ Some u
    pub is : u ≡ with_ends u.ends w
    pub done : HasDone (raised top v) turns w
    pub passes : IsRound (nodes_of v.program) (processors_of v.program) v.program.setup.quantum acts_in_round (can_run v.program v.me v.state) (λ i. can v (Take i)) (moments_in v.program v.me v.state turns)

  pub record AtNode (n : ℕ) : Type 0 where
    pub turns : List Turn
    pub here : n < many → NodeRound n turns
    pub past : many ≤ n → turns ≡ []

  node_round : (n : ℕ) → n < many → AtNode n
  node_round n l =
      let v = some_at c.nodes n (omega (arith, l, old_count)) in
      let w = some_at h.ran n (omega (arith, l, ran_count)) in
      let u = some_at nodes n (omega (arith, l, new_count)) in
      let up : get_or (map (raised top) c.nodes) n v.0 ≡ raised top v.0 = read_some (map (raised top) c.nodes) n v.0 (raised top v.0) (get_raised top c.nodes n v.0 v.1) in
      let run : HasRun (get_or (map (raised top) c.nodes) n v.0) (get_or h.ran n v.0) = h.each n v.0 (omega (arith, l, old_count, raised_length top c.nodes)) in
      let r : HasRounded (raised top v.0) acts_in_round w.0 = through (raised top v.0) w.0
      (subst (λ z. HasRun z w.0) up (subst (λ z. HasRun (get_or (map (raised top) c.nodes) n v.0) z) (read_some h.ran n v.0 w.0 w.1) run))
      (stands_at h.ran h.stand n w.0 w.1) in
      record {
        turns = r.turns;
        here = λ m. (record { v = v.0; was = v.1; w = w.0; ran = w.1; u = u.0; now = u.1; is = h.settled.nodes.each n w.0 u.0 w.1 u.1; done = r.done; passes = r.passes });
        past = λ m. absurd (omega (arith, l, m));
      }

  pub at_node : (n : ℕ) → AtNode n
  at_node n = by_less n many (λ l. node_round n l) (λ past. record { turns = []; here = λ m. absurd (omega (arith, past, m)); past = λ m. refl })

  -- the turns of each node
  abbrev pub each : ℕ → List Turn
  each n = (at_node n).turns

  is_node : (n : ℕ) (l : n < many) → IsNodeOf c trace n ((at_node n).here l).v
  is_node n l = let a = (at_node n).here l in s.agrees.node n a.v a.was

  pub clock_was : (n : ℕ) (l : n < many) → (raised top ((at_node n).here l).v).clock ≡ top
  clock_was n l = let a = (at_node n).here l in max-eq_right {n = a.v.clock} {m = top} (clock_within c.nodes n a.v a.was)

  pub round_was : (n : ℕ) (l : n < many) → (raised top ((at_node n).here l).v).round ≡ round
  round_was n l = let a = (at_node n).here l in ap next_round (s.agrees.one_round n a.v a.was)

  pub in_round : (n : ℕ) → n < many → AreInRound p n top round (each n)
  in_round n l =
      let a = (at_node n).here l in
      let i = is_node n l in
      subst (λ k. AreInRound p n top k (each n)) (round_was n l)
      (subst (λ k. AreInRound p n k (raised top a.v).round (each n)) (clock_was n l)
      (subst (λ m. AreInRound p m (raised top a.v).clock (raised top a.v).round (each n)) i.me
      (subst (λ (q : Program). AreInRound q a.v.me (raised top a.v).clock (raised top a.v).round (each n)) i.program a.done.one_round)))

  history : (n : ℕ) → n < many → IsHistory p n top (net.nodes n) (each n)
  history n l =
      let a = (at_node n).here l in
      let i = is_node n l in
      subst (λ (z : Local). IsHistory p n top z (each n)) (sym i.state)
      (subst (λ k. IsHistory p n k a.v.state (each n)) (clock_was n l)
      (subst (λ m. IsHistory p m (raised top a.v).clock a.v.state (each n)) i.me
      (subst (λ (q : Program). IsHistory q a.v.me (raised top a.v).clock a.v.state (each n)) i.program a.done.history.history)))

  all_rise : (n : ℕ) → Rises n (each n)
  all_rise n = by_less n many (λ l. rises p n top top round (net.nodes n) (each n) (history n l) (in_round n l)) (λ past. subst (λ ts. Rises n ts) (sym ((at_node n).past past)) tt)

  -- ## All turns

  abbrev pub turns : List Turn
  turns = woven each many

  pub own_is : (n : ℕ) → own_turns n turns ≡ each n
  own_is n = by_less n many (λ l. woven_own each all_rise many n l) (λ past. woven_past each all_rise many n past ∙ sym ((at_node n).past past))

  pub all_of_round : AreOfRound top round turns
  all_of_round = woven_round each top round many
      (λ n. by_less n many (λ l. of_round p n top round (each n) (in_round n l)) (λ past. subst (λ ts. AreOfRound top round ts) (sym ((at_node n).past past)) tt))

  pub same_at_place : (n : ℕ) (w : NodeView) (o : NodeRound n (each n)) → slice_get h.ran n ≡ Some w → o.w ≡ w
  same_at_place n w o e = same_Some o.w w (sym o.ran ∙ e)

  was_is : (n : ℕ) (l : n < many) (o : NodeRound n (each n)) → ((at_node n).here l).v ≡ o.v
  was_is n l o = same_Some ((at_node n).here l).v o.v (sym ((at_node n).here l).was ∙ o.was)

  pub clock_at : (n : ℕ) (o : NodeRound n (each n)) → n < many → (raised top o.v).clock ≡ top
  clock_at n o l = max-eq_right {n = o.v.clock} {m = top} (clock_within c.nodes n o.v o.was)

  pub round_at_was : (n : ℕ) (o : NodeRound n (each n)) → (raised top o.v).round ≡ round
  round_at_was n o = ap next_round (s.agrees.one_round n o.v o.was)

  pub rounds_low : NoneAbove round trace
  rounds_low = higher (round_in c) round (next_not_below (round_in c)) trace s.agrees.rounds

  few_entries_now : (room : HasRoomForRound c) (n : ℕ) (o : NodeRound n (each n)) → length o.w.entries ≤ entry_limit
  few_entries_now room n o =
      omega (arith, ap length o.done.history.entries, length-append o.v.entries (reverse (entries_of_turns (each n))), length-reverse (entries_of_turns (each n)), entries_many (each n), room n o.v o.was, o.passes.few, moments_length o.v.program o.v.me o.v.state (each n))
    where
      entries_many : (ts : List Turn) → length (entries_of_turns ts) ≡ length ts
      entries_many [] = refl
      entries_many (t ∷ before) = ap suc (entries_many before)

  -- ## A part of the round

  pub round_front : (later ts : List Turn) → turns ≡ later ++ ts → (n : ℕ) → AreInRound p n top round (own_turns n ts)
  round_front later ts part n = front later (subst (λ xs. AreInRound p n top round (own_turns n xs)) part (subst (λ xs. AreInRound p n top round xs) (sym (own_is n))
      (by_less n many (λ l. in_round n l) (λ past. subst (λ xs. AreInRound p n top round xs) (sym ((at_node n).past past)) tt))))
    where
      front : (xs : List Turn) → AreInRound p n top round (own_turns n (xs ++ ts)) → AreInRound p n top round (own_turns n ts)
      front [] o = o
      front (x ∷ xs) o = front xs (by (eqb x.event.node n) o)
        where
          by : (b : Bool) → AreInRound p n top round (cond b (x ∷ own_turns n (xs ++ ts)) (own_turns n (xs ++ ts))) → AreInRound p n top round (own_turns n (xs ++ ts))
          by true o = o.1
          by false o = o

  -- ## Each node has gone on by itself

  keeps : (n : ℕ) (v w : NodeView) → slice_get c.nodes n ≡ Some v → slice_get h.ran n ≡ Some w → StaysInPlace v w
  keeps n v w e g =
      let k = ran_keep top c.nodes (map (raised top) c.nodes) h.ran refl (omega (arith, h.count, raised_length top c.nodes)) h.each n v w e g in
      record { program = k.program; me = k.me; wired = k.wired }

  pub fits : Fits (shell_of c) h.ran
  fits = fit_after c before kept s.agrees h.ran h.count keeps

  module _ (room : HasRoomForRound c) where
    node_gone : (n : ℕ) (l : n < many) → HasGoneOn p before kept top round n (each n) ((at_node n).here l).w
    node_gone n l =
        let o = (at_node n).here l in
        let i : IsNodeOf c trace n o.v = is_node n l in
        let mine : own_entries n kept ≡ reverse o.v.entries = s.agrees.trace.entries n ∙ ap (λ x. reverse (entries_at x)) o.was in
        let here : slice_get es n ≡ Some o.v.ends = wires-get c.nodes c.rest n o.v o.was in
        let clk : o.w.clock ≡ clock top (each n) = o.done.clock ∙ ap (λ k. clock k (each n)) (clock_at n o l) in
        let low : clock_of n 0 trace ≤ top = own_low n top trace s.agrees.stamps in
        record {
          history = rebased p n top round top (clock_of n 0 trace) (omega arith) low (net.nodes n) (each n) (in_round n l) (history n l);
          one_round = in_round n l;
          state = ap (λ (z : Local). turn_state p n z (each n)) i.state
              ∙ ap (λ m. turn_state p m o.v.state (each n)) (sym i.me)
              ∙ ap (λ (q : Program). turn_state q o.v.me o.v.state (each n)) (sym i.program)
              ∙ o.done.history.state;
          booted = o.done.booted;
          entries = o.done.history.entries ∙ ap (λ xs. o.v.entries ++ reverse xs) (entries_same (each n))
              ∙ ap (λ ys. ys ++ reverse (entries_in (each n))) (sym (ap reverse mine ∙ reverse-reverse o.v.entries))
              ∙ sym (reverse-append (entries_in (each n)) (own_entries n kept));
          few = few_entries_now room n o;
          received = λ i. o.done.history.received i ∙ ap (λ ps. ps ++ taken_from i (events_in (each n))) (sym (received_on-node es i n o.v.ends here) ∙ s.agrees.carried.takes i n);
          sent = λ j lj. o.done.history.sent j (omega (arith, lj, o.done.history.wide)) ∙ ap (λ ps. ps ++ sent_to j (events_in (each n))) (sym (sent_on-node es n j o.v.ends here) ∙ s.agrees.carried.sends n j);
          in_round = o.done.round ∙ round_at_was n o;
          not_below = omega (arith, clk, clock_up (clock_of n 0 trace) top low (each n));
          not_above = clock_there (clock_of n 0 trace) top o.w.clock (each n) clk;
        }

    reached : top ≤ greatest_clock h.ran
    reached =
        let l : 0 < many = c.program.setup.geometry.some_node in
        let o = (at_node 0).here l in
        omega (arith, o.done.later, clock_at 0 o l, clock_within h.ran 0 o.w o.ran)

    console : console_of p (at_first p) before ++ console_at (slice_get h.ran 0) ≡ console_of p (at_first p) trace ++ printed (events_in (each 0))
    console =
        let o = (at_node 0).here c.program.setup.geometry.some_node in
        ap (λ x. console_of p (at_first p) before ++ console_at x) o.ran ∙ ap (λ bs. console_of p (at_first p) before ++ bs) o.done.console
        ∙ sym (append_assoc (console_of p (at_first p) before) o.v.console (printed (events_in (each 0))))
        ∙ ap (λ bs. bs ++ printed (events_in (each 0))) (sym (s.agrees.console ∙ ap (λ x. console_of p (at_first p) before ++ console_at x) o.was))

    pub gone : HaveGoneOn (shell_of c) h.ran before kept top round each
    gone = record {
      legal = s.agrees.legal;
      still = still_before c before kept s.agrees;
      each = λ n w e.
          let l : n < many = omega (arith, ran_count, slice_get_within h.ran n w e) in
          subst (λ z. HasGoneOn p before kept top round n (each n) z) (same_at_place n w ((at_node n).here l) e) (node_gone n l);
      none = λ n past. (at_node n).past past;
      rounds = rounds_low;
      stamps = s.agrees.stamps;
      low = greatest_within c before kept s.agrees;
      reached = reached;
      console = console;
    }

    pub gather : GathersAfter p trace top round (λ n. top) turns
    gather = together.gather (shell_of c) h.ran fits before kept top round each gone nodes h.settled
