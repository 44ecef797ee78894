-- What each node did in its round, and its stamps, in the words of the trace.
use Rattle.std.proofs.Common.{◌≡◌, ℕ, suc, ◌+◌, ◌<◌, ◌≤◌, inl, inr, max, List, [], ◌∷◌, ◌++◌, length, map, filter, Option, Some, None, Bool, true, false, cond, eqb, is_some, refl, sym, ap, ◌∙◌, subst, arith, append_assoc}
use Rattle.std.specs.Prelude.{◌&&◌, nat_lt, nat_le, flat_map}
use Rattle.std.proofs.lemmas.Bool.{eq-eqb, lt-ltb, le-leb, le-ltb}
use Rattle.std.proofs.Math.Path.{fun_ext}
use Rattle.std.proofs.Math.Nat.{le-max_left, max-eq_right}
use Rattle.slot_space.specs.Sets.{run}
use Rattle.run_trace.specs.declared.entry.Act.{Act}
use Rattle.run_trace.specs.declared.entry.Act.TheVariants.{Boot, Run, Take, Move}
use Rattle.run_trace.specs.declared.entry.Entry.{Entry}
use Rattle.run_trace.specs.Cluster as net_specs
use Rattle.run_trace.specs.Cluster.{Net, Runs, fresh_net, next_packet, state}
use Rattle.run_trace.specs.Histories.{IsHistory, IsStamped, Turn, clock, seen, turn_state}
use Rattle.run_trace.specs.Local.{Local, EventSoFar, nothing, fresh}
use Rattle.run_trace.specs.Machine.{local_event, is_range, acts, chooses, choice_limit}
use Rattle.levels.specs.Trees.{Tree}
use Rattle.levels.specs.Choice.{has_ready}
use Rattle.run_trace.specs.Program.{Program, nodes_of, processors_of, quantum_limit, tree_of}
use Rattle.run_trace.specs.Rules.{spots_of}
use Rattle.run_trace.specs.Spots.{Spots, at_first}
use Rattle.run_trace.specs.Stands.{Stands}
use Rattle.run_trace.specs.Telling.{world_of}
use Rattle.run_trace.specs.Trace.{IsRun}
use Rattle.run_trace.specs.World.{World}
use Rattle.trace_laws.specs.Obeys.{world_at}
use Rattle.trace_laws.specs.Gathers.{Gathers, events_in, own_turns}
use Rattle.trace_laws.proofs.Lemmas.{gathered, gathers_state, own_events, determined, node_is, run_inside, choice_ready, run_there, tree_there, starts, told_after, stands_after}
use Rattle.basics.proofs.Lemmas.{by_less}
use Rattle.node_loop.specs.Passes.{HasTake, IsRound, Moment, acts_in, first_pass, ready_after}
use Rattle.node_loop.specs.Rounds.{AreInRound, can_run, moments_in}
use Rattle.node_loop.specs.Turns.{IsActInRange, can}
use Rattle.node_loop.specs.View.{NodeView, next_round}
use Rattle.cluster.specs.Acts.{acts_of, has_pick, holds, takes_of}
use Rattle.cluster.specs.Gathering.{AreGathered, AreOfRound, entries_in}
use Rattle.cluster.specs.Outcomes.{GoesOn}
use Rattle.cluster.specs.Rounds.{AreOfOneRound, AreStamped, GoesInPasses, HasRoomForRound, acts_in_round, clock_of, moments_of}
use Rattle.cluster.specs.SideBySide.{HaveRounded}
use Rattle.cluster.specs.Standing.{StandsFor, IsNodeOf, net_after}
use Rattle.cluster.specs.View.{ClusterView, greatest_clock, round_in}
use Rattle.cluster.proofs.Gathered.{gathers}
use Rattle.cluster.proofs.Linking.{can_is}
use Rattle.cluster.proofs.NodeTurns.{AreInRange, ranges, stamped_above}
use Rattle.cluster.proofs.Runs.{net_joined}
use Rattle.cluster.proofs.SideRuns as side

-- ## A processor can run a thread where it has a pick

picks : (p : Program) (n vp : ℕ) (s : Local) → n < nodes_of p → s.booted ≡ true → vp < processors_of p → 0 < p.setup.quantum → p.setup.quantum ≤ quantum_limit
    → local_event p n s (Run vp p.setup.quantum) None ≡ chooses p n vp p.setup.quantum (choice_limit s.forest) (nothing s)
unfolding local_event is_range
picks p n vp s l b v q m =
    let range : (nat_lt n (nodes_of p) && (s.booted && (nat_lt vp (processors_of p) && (nat_lt 0 p.setup.quantum && nat_le p.setup.quantum quantum_limit)))) ≡ true =
    rw (lt-ltb n (nodes_of p) l, b, lt-ltb vp (processors_of p) v, lt-ltb 0 p.setup.quantum q, le-leb p.setup.quantum quantum_limit m) refl in
    ap (λ z. cond z (acts p n s (Run vp p.setup.quantum) None) None) range

-- no other number is a processor
no_processor : (p : Program) (n vp : ℕ) (s : Local) → n < nodes_of p → s.booted ≡ true → processors_of p ≤ vp → local_event p n s (Run vp p.setup.quantum) None ≡ None
unfolding local_event is_range
no_processor p n vp s l b past =
    let range : (nat_lt n (nodes_of p) && (s.booted && (nat_lt vp (processors_of p) && (nat_lt 0 p.setup.quantum && nat_le p.setup.quantum quantum_limit)))) ≡ false =
    rw (lt-ltb n (nodes_of p) l, b, le-ltb vp (processors_of p) past) refl in
    ap (λ z. cond z (acts p n s (Run vp p.setup.quantum) None) None) range

pub runs_listed : (p : Program) (xs : List Entry) → IsRun p (fresh_net p) xs → (n : ℕ) → n < nodes_of p → ((net_after p xs).nodes n).booted ≡ true → 0 < p.setup.quantum → p.setup.quantum ≤ quantum_limit
    → can_run p n ((net_after p xs).nodes n) ≡ (λ vp. has_pick p (net_after p xs) n vp)
runs_listed p xs r n l b q m = fun_ext (λ vp. by_less vp (processors_of p) (one vp) (none vp))
  where
    s : Local
    s = (net_after p xs).nodes n

    stands : Stands p (spots_of p (at_first p) xs) (net_after p xs)
    stands = stands_after p xs r

    none : (vp : ℕ) → processors_of p ≤ vp → can_run p n s vp ≡ has_pick p (net_after p xs) n vp
    none vp past = ap is_some (no_processor p n vp s l b past) ∙ sym (ap (λ z. z && has_ready s.forest.lists.tree vp s.forest.lists.rows) (le-ltb vp (processors_of p) past))

    one : (vp : ℕ) → vp < processors_of p → can_run p n s vp ≡ has_pick p (net_after p xs) n vp
    one vp v = by (has_ready s.forest.lists.tree vp s.forest.lists.rows) refl ∙ sym (ap (λ z. z && has_ready s.forest.lists.tree vp s.forest.lists.rows) (lt-ltb vp (processors_of p) v))
      where
        event : local_event p n s (Run vp p.setup.quantum) None ≡ chooses p n vp p.setup.quantum (choice_limit s.forest) (nothing s)
        event = picks p n vp s l b v q m

        none_runs : (o : Option EventSoFar) → chooses p n vp p.setup.quantum (choice_limit s.forest) (nothing s) ≡ o → has_ready s.forest.lists.tree vp s.forest.lists.rows ≡ false → is_some o ≡ false
        none_runs None h e = refl
        none_runs (Some d) h e = absurd (cc (choice_ready p n vp p.setup.quantum (choice_limit s.forest) (nothing s) d h, e))

        by : (o : Bool) → has_ready s.forest.lists.tree vp s.forest.lists.rows ≡ o → can_run p n s vp ≡ has_ready s.forest.lists.tree vp s.forest.lists.rows
        by false e = ap is_some event ∙ none_runs (chooses p n vp p.setup.quantum (choice_limit s.forest) (nothing s)) refl e ∙ sym e
        by true e =
            let ready : has_ready (tree_of p) vp s.forest.lists.rows ≡ true = ap (λ (z : Tree). has_ready z vp s.forest.lists.rows) (sym (tree_there p (spots_of p (at_first p) xs) (net_after p xs) stands n)) ∙ e in
            ap is_some (event ∙ (run_there p (spots_of p (at_first p) xs) (net_after p xs) stands n vp p.setup.quantum v ready).1) ∙ sym e

-- a node that has begun stays so
begun_more : (p : Program) (w : World) (old new : List Entry) (n : ℕ) → (world_of p w old).begun n ≡ true → (world_of p w (new ++ old)).begun n ≡ true
begun_more p w old [] n h = h
begun_more p w old (x ∷ new) n h = by (eqb x.node n) (begun_more p w old new n h)
  where
    by : (b : Bool) → (world_of p w (new ++ old)).begun n ≡ true → cond b true ((world_of p w (new ++ old)).begun n) ≡ true
    by true e = refl
    by false e = e

booted_after : (p : Program) (old new : List Entry) (n : ℕ) → IsRun p (fresh_net p) old → IsRun p (fresh_net p) (new ++ old) → ((net_after p old).nodes n).booted ≡ true → ((net_after p (new ++ old)).nodes n).booted ≡ true
booted_after p old new n r now b =
    (told_after p (at_first p) (fresh_net p) (starts p) (new ++ old) now).begun n
    ∙ begun_more p (world_at (at_first p) (fresh_net p)) old new n (sym ((told_after p (at_first p) (fresh_net p) (starts p) old r).begun n) ∙ b)

clocks_same : (n clk : ℕ) (ts : List Turn) → clock_of n clk (entries_in ts) ≡ clock clk (own_turns n ts)
clocks_same n clk [] = refl
clocks_same n clk (t ∷ before) = by (eqb t.event.node n) (clocks_same n clk before)
  where
    by : (b : Bool) → clock_of n clk (entries_in before) ≡ clock clk (own_turns n before) → cond b t.event.stamp (clock_of n clk (entries_in before)) ≡ clock clk (cond b (t ∷ own_turns n before) (own_turns n before))
    by true e = refl
    by false e = e

pub clock_low : (n clk : ℕ) (p : Program) (base : Local) (ts : List Turn) → IsHistory p n clk base ts → AreInRange p n ts → clk ≤ clock clk ts
clock_low n clk p base [] h o = omega arith
clock_low n clk p base (t ∷ before) h o = omega (arith, clock_low n clk p base before h.0 o.1, stamped_above t p n (clock clk before) t.event.act o.0 h.1.stamp)

module _ (c : ClusterView) (before kept : List Entry) (s : StandsFor c before kept) (room : HasRoomForRound c) (nodes : List NodeView) (h : HaveRounded (greatest_clock c.nodes) c.rest c.nodes nodes)
    (a : AreGathered c.program (kept ++ before) (side.turns c before kept s nodes h)) where
  abbrev p : Program
  p = c.program

  abbrev trace : List Entry
  trace = kept ++ before

  abbrev net : Net
  net = net_after p trace

  abbrev top : ℕ
  top = greatest_clock c.nodes

  abbrev round : ℕ
  round = next_round (round_in c)

  abbrev turns : List Turn
  turns = side.turns c before kept s nodes h

  abbrev each : ℕ → List Turn
  each = side.each c before kept s nodes h

  g : Gathers p net top (λ n. top) turns
  g = gathers p trace top round (λ n. top) turns (side.gather c before kept s nodes h room)

  -- ## At each place of the round

  runs_front : (later ts : List Turn) → Runs p net (events_in (later ++ ts)) → Runs p net (events_in ts)
  runs_front [] ts r = r
  runs_front (x ∷ later) ts r = runs_front later ts r.0

  run_front : (later ts : List Turn) → IsRun p (fresh_net p) (entries_in (later ++ ts) ++ trace) → IsRun p (fresh_net p) (entries_in ts ++ trace)
  run_front [] ts r = r
  run_front (x ∷ later) ts r = run_front later ts r.0

  history_front : (n : ℕ) (later ts : List Turn) → IsHistory p n top (net.nodes n) (own_turns n (later ++ ts)) → IsHistory p n top (net.nodes n) (own_turns n ts)
  history_front n [] ts k = k
  history_front n (x ∷ later) ts k = history_front n later ts (by (eqb x.event.node n) k)
    where
      by : (b : Bool) → IsHistory p n top (net.nodes n) (cond b (x ∷ own_turns n (later ++ ts)) (own_turns n (later ++ ts))) → IsHistory p n top (net.nodes n) (own_turns n (later ++ ts))
      by true k = k.0
      by false k = k

  module _ (later ts : List Turn) (part : turns ≡ later ++ ts) where
    runs_here : Runs p net (events_in ts)
    runs_here = runs_front later ts (subst (λ xs. Runs p net (events_in xs)) part (gathered p net top (λ n. top) turns g))

    run_here : IsRun p (fresh_net p) (entries_in ts ++ trace)
    run_here = run_front later ts (subst (λ xs. IsRun p (fresh_net p) (entries_in xs ++ trace)) part a.legal.runs)

    net_here : net_after p (entries_in ts ++ trace) ≡ net_specs.net_of p net (events_in ts)
    net_here = sym (net_joined p (fresh_net p) trace (entries_in ts)) ∙ ap (net_specs.net_of p net) (determined p net (events_in ts) runs_here)

    history_here : (n : ℕ) → IsHistory p n top (net.nodes n) (own_turns n ts)
    history_here n = history_front n later ts (subst (λ xs. IsHistory p n top (net.nodes n) (own_turns n xs)) part (g.local n))

    state_here : (n : ℕ) → (net_after p (entries_in ts ++ trace)).nodes n ≡ turn_state p n (net.nodes n) (own_turns n ts)
    state_here n =
        ap (λ (z : Net). z.nodes n) net_here ∙ node_is p net (events_in ts) n ∙ ap (state p n (net.nodes n)) (own_events n ts)
        ∙ sym (gathers_state p net top (λ k. top) turns g later ts part n)

    ready_here : (n : ℕ) → n < nodes_of p → (λ vp. has_pick p (net_after p (entries_in ts ++ trace)) n vp) ≡ can_run p n (turn_state p n (net.nodes n) (own_turns n ts))
    ready_here n l =
        let o = (side.at_node c before kept s nodes h n).here l in
        let i : IsNodeOf c trace n o.v = s.agrees.node n o.v o.was in
        let begun : (net.nodes n).booted ≡ true = ap (λ (z : Local). z.booted) i.state ∙ i.booted in
        let here : ((net_after p (entries_in ts ++ trace)).nodes n).booted ≡ true = booted_after p trace (entries_in ts) n s.agrees.legal.runs run_here begun in
        sym (runs_listed p (entries_in ts ++ trace) run_here n l here s.agrees.some_quantum s.agrees.bounded_quantum) ∙ ap (can_run p n) (state_here n)

  more : (later : List Turn) (t : Turn) (ts : List Turn) → turns ≡ later ++ (t ∷ ts) → turns ≡ (later ++ t ∷ []) ++ ts
  more later t ts e = e ∙ sym (append_assoc later (t ∷ []) ts)

  moments_are : (n : ℕ) → n < nodes_of p → (later ts : List Turn) → turns ≡ later ++ ts → moments_of p n trace (entries_in ts) ≡ moments_in p n (net.nodes n) (own_turns n ts)
  moments_are n l later [] part = refl
  moments_are n l later (t ∷ ts) part = by (eqb t.event.node n) refl (moments_are n l (later ++ t ∷ []) ts (more later t ts part))
    where
      ready : (λ vp. has_pick p (net_after p (entries_in (t ∷ ts) ++ trace)) n vp) ≡ can_run p n (turn_state p n (net.nodes n) (own_turns n (t ∷ ts)))
      ready = ready_here later (t ∷ ts) part n l

      by : (b : Bool) → eqb t.event.node n ≡ b → moments_of p n trace (entries_in ts) ≡ moments_in p n (net.nodes n) (own_turns n ts)
          → cond b ((record { act = t.event.act; ready = λ vp. has_pick p (net_after p (entries_in (t ∷ ts) ++ trace)) n vp }) ∷ moments_of p n trace (entries_in ts)) (moments_of p n trace (entries_in ts))
          ≡ moments_in p n (net.nodes n) (cond b (t ∷ own_turns n ts) (own_turns n ts))
      by true e rest =
          ap (λ z. (record { act = t.event.act; ready = z }) ∷ moments_of p n trace (entries_in ts)) (ready ∙ ap (λ z. can_run p n (turn_state p n (net.nodes n) (cond z (t ∷ own_turns n ts) (own_turns n ts)))) e)
          ∙ ap (λ ms. (record { act = t.event.act; ready = can_run p n (turn_state p n (net.nodes n) (t ∷ own_turns n ts)) }) ∷ ms) rest
      by false e rest = rest

  pub goes_in_passes : (n : ℕ) → n < nodes_of p → GoesInPasses p n trace (entries_in turns)
  goes_in_passes n l =
      let o = (side.at_node c before kept s nodes h n).here l in
      let i : IsNodeOf c trace n o.v = s.agrees.node n o.v o.was in
      let own : moments_of p n trace (entries_in turns) ≡ moments_in p n (net.nodes n) (each n) = moments_are n l [] turns refl ∙ ap (moments_in p n (net.nodes n)) (side.own_is c before kept s nodes h n) in
      let acts_are : moments_in o.v.program o.v.me o.v.state (each n) ≡ moments_of p n trace (entries_in turns) =
      ap (λ (q : Program). moments_in q o.v.me o.v.state (each n)) i.program ∙ ap (λ m. moments_in p m o.v.state (each n)) i.me ∙ ap (λ (z : Local). moments_in p n z (each n)) (sym i.state) ∙ sym own in
      let begun : (net.nodes n).booted ≡ true = ap (λ (z : Local). z.booted) i.state ∙ i.booted in
      let ready : can_run o.v.program o.v.me o.v.state ≡ (λ vp. has_pick p net n vp) =
      ap (λ (q : Program). can_run q o.v.me o.v.state) i.program ∙ ap (λ m. can_run p m o.v.state) i.me ∙ ap (λ (z : Local). can_run p n z) (sym i.state)
      ∙ runs_listed p trace s.agrees.legal.runs n l begun s.agrees.some_quantum s.agrees.bounded_quantum in
      let r : IsRound (nodes_of p) (processors_of p) p.setup.quantum acts_in_round (λ vp. has_pick p net n vp) (λ k. can o.v (Take k)) (moments_of p n trace (entries_in turns)) =
      subst (λ ms. IsRound (nodes_of p) (processors_of p) p.setup.quantum acts_in_round (λ vp. has_pick p net n vp) (λ k. can o.v (Take k)) ms) acts_are
      (subst (λ b. IsRound (nodes_of p) (processors_of p) p.setup.quantum acts_in_round b (λ k. can o.v (Take k)) (moments_in o.v.program o.v.me o.v.state (each n))) ready
      (subst (λ (q : Program). IsRound (nodes_of q) (processors_of q) q.setup.quantum acts_in_round (can_run o.v.program o.v.me o.v.state) (λ k. can o.v (Take k)) (moments_in o.v.program o.v.me o.v.state (each n))) i.program o.passes)) in
      record {
        passes = r.passes;
        last = r.last;
        reach = r.reach;
        whole = r.whole;
        each = r.each;
        within = r.within;
        cut = r.cut;
        few = r.few;
        ends = r.ends;
        first = λ k m held. r.first k m (can_is c before kept s n o.v o.was l (Take k) m ∙ held);
      }

  -- ## Stamps

  restamped : (t : Turn) (last : ℕ) (act : Act) → IsActInRange p t.event.node act → t.began ≡ top → top ≤ last → IsStamped last t act → t.event.stamp ≡ suc (max last (seen t.event.took))
  restamped t last act r b l k = by act r k
    where
      same : t.event.stamp ≡ 1 + max t.began (max last (seen t.event.took)) → t.event.stamp ≡ suc (max last (seen t.event.took))
      same e = omega (arith, e, max-eq_right {n = t.began} {m = max last (seen t.event.took)} (omega (arith, b, l, le-max_left last (seen t.event.took))))

      by : (z : Act) → IsActInRange p t.event.node z → IsStamped last t z → t.event.stamp ≡ suc (max last (seen t.event.took))
      by Boot m e = absurd m
      by (Run vp quantum) m e = same e
      by (Take from) m e = same e
      by (Move u to) m e = same e

  pub stamped : (later ts : List Turn) → turns ≡ later ++ ts → AreOfRound top round ts → AreStamped p top round trace (entries_in ts)
  stamped later [] part o = tt
  stamped later (t ∷ ts) part o =
      let n : ℕ = t.event.node in
      let front : turns ≡ (later ++ t ∷ []) ++ ts = more later t ts part in
      let own : own_turns n (t ∷ ts) ≡ t ∷ own_turns n ts = ap (λ b. cond b (t ∷ own_turns n ts) (own_turns n ts)) (eq-eqb n n refl) in
      let k : IsHistory p n top (net.nodes n) (t ∷ own_turns n ts) = subst (λ xs. IsHistory p n top (net.nodes n) xs) own (history_here later (t ∷ ts) part n) in
      let r : AreInRound p n top round (t ∷ own_turns n ts) = subst (λ xs. AreInRound p n top round xs) own (side.round_front c before kept s nodes h later (t ∷ ts) part n) in
      let low : top ≤ clock top (own_turns n ts) = clock_low n top p (net.nodes n) (own_turns n ts) k.0 (ranges p n top round (own_turns n ts) r.1) in
      let took : t.event.took ≡ next_packet (net_after p (entries_in ts ++ trace)) n t.event.act = (runs_here later (t ∷ ts) part).1.first ∙ ap (λ (z : Net). next_packet z n t.event.act) (sym (net_here (later ++ t ∷ []) ts front)) in
      let stamp : t.event.stamp ≡ suc (max (clock top (own_turns n ts)) (seen t.event.took)) = restamped t (clock top (own_turns n ts)) t.event.act r.0.3 o.0.0 low k.1.stamp in (
        o.0.1,
        stamp ∙ ap (λ m. suc (max m (seen t.event.took))) (sym (clocks_same n top ts)) ∙ ap (λ q. suc (max (clock_of n top (entries_in ts)) (seen q))) took,
        stamped (later ++ t ∷ []) ts front o.1,
      )

  pub is_round : AreOfOneRound p top round trace (entries_in turns)
  is_round = record { passes = goes_in_passes; stamped = stamped [] turns refl (side.all_of_round c before kept s nodes h) }

  -- ## Something was done where something was to be done

  none_taken : (k : ℕ) (xs : List Moment) → xs ≡ [] → HasTake k xs → ⊥
  none_taken k [] e t = t
  none_taken k (x ∷ xs) e t = absurd (cc e)

  nothing_here : entries_in turns ≡ [] → (n : ℕ) → n < nodes_of p → ((vp : ℕ) → has_pick p net n vp ≡ false) × ((i : ℕ) → i < nodes_of p → holds (net.links i n) ≡ false)
  nothing_here none n l =
      let r : GoesInPasses p n trace (entries_in turns) = goes_in_passes n l in
      let empty : moments_of p n trace (entries_in turns) ≡ [] = ap (moments_of p n trace) none in
      let long : length (moments_of p n trace (entries_in turns)) ≡ 0 = ap length empty in (
        λ vp. by_less vp (processors_of p)
            (λ below. elim r.ends as (λ z. has_pick p net n vp ≡ false) [
              | inl e ↦ absurd (omega (arith, e, long))
              | inr e ↦ ap (λ ms. ready_after (λ vp. has_pick p net n vp) ms vp) (sym empty) ∙ e.1 vp below
            ])
            (λ past. ap (λ z. z && has_ready (net.nodes n).forest.lists.tree vp (net.nodes n).forest.lists.rows) (le-ltb vp (processors_of p) past)),
        λ i m. by_test (holds (net.links i n)) (λ held. elim (r.first i m held) as (λ z. ⊥) [
          | inl t ↦ none_taken i (first_pass r.last r.passes) (first_none r.last r.passes (sym r.whole ∙ empty)) t
          | inr e ↦ (let f : length (first_pass r.last r.passes) ≡ 0 = ap length (first_none r.last r.passes (sym r.whole ∙ empty)) in omega (arith, e, f))
        ]),
      )
    where
      by_test : (x : Bool) → (x ≡ true → ⊥) → x ≡ false
      by_test true k = absurd (k refl)
      by_test false k = refl

      split : (xs ys : List Moment) → xs ++ ys ≡ [] → (xs ≡ []) × (ys ≡ [])
      split [] ys e = (refl, e)
      split (x ∷ xs) ys e = absurd (cc e)

      first_none : (last : List Moment) (passes : List (List Moment)) → last ++ acts_in passes ≡ [] → first_pass last passes ≡ []
      first_none last [] e = (split last [] e).0
      first_none last (x ∷ xs) e = first_none x xs (split last (x ++ acts_in xs) e).1

  -- by what is outside the nodes, nothing can be done anywhere
  no_acts : entries_in turns ≡ [] → (n : ℕ) → acts_of false p net n ≡ []
  no_acts none n = by_less n (nodes_of p)
      (λ l. (let k = nothing_here none n l in idle n k.0 (λ i. by_less i (nodes_of p) (λ m. k.1 i m) (λ past. ap holds ((run_inside p trace s.agrees.legal.runs).links i n (inl past))))))
      (λ past. idle n (λ vp. no_pick vp (nat_lt vp (processors_of p)) ((run_inside p trace s.agrees.legal.runs).nodes n past)) (λ i. ap holds ((run_inside p trace s.agrees.legal.runs).links i n (inr past))))
    where
      -- a node that is none of these has nobody on its run lists
      no_pick : (vp : ℕ) (b : Bool) → net.nodes n ≡ fresh p n → (b && has_ready (net.nodes n).forest.lists.tree vp (net.nodes n).forest.lists.rows) ≡ false
      no_pick vp true e = ap (λ (z : Local). has_ready z.forest.lists.tree vp z.forest.lists.rows) e
      no_pick vp false e = refl

      none_of : (act : ℕ → ℕ × Act) (test : ℕ → Bool) (xs : List ℕ) → ((k : ℕ) → test k ≡ false) → map act (filter test xs) ≡ []
      none_of act test [] k = refl
      none_of act test (x ∷ xs) k = ap (λ b. map act (cond b (x ∷ filter test xs) (filter test xs))) (k x) ∙ none_of act test xs k

      idle : (n : ℕ) → ((vp : ℕ) → has_pick p net n vp ≡ false) → ((i : ℕ) → holds (net.links i n) ≡ false) → acts_of false p net n ≡ []
      idle n r k =
          ap (λ xs. xs ++ (takes_of p net n ++ [])) (none_of (λ vp. (n, Run vp p.setup.quantum)) (λ vp. has_pick p net n vp) (run 0 (processors_of p)) r)
          ∙ ap (λ xs. xs ++ []) (none_of (λ i. (n, Take i)) (λ i. holds (net.links i n)) (run 0 (nodes_of p)) k)

  pub goes_on : GoesOn p trace → 0 < length (entries_in turns)
  goes_on go = by (entries_in turns) refl
    where
      none : ((n : ℕ) → acts_of false p net n ≡ []) → (xs : List ℕ) → flat_map (λ n. acts_of false p net n) xs ≡ []
      none k [] = refl
      none k (x ∷ xs) = ap (λ ys. ys ++ flat_map (λ n. acts_of false p net n) xs) (k x) ∙ none k xs

      by : (xs : List Entry) → entries_in turns ≡ xs → 0 < length (entries_in turns)
      by [] e = absurd (go.possible false (none (no_acts e) (run 0 (nodes_of p))))
      by (x ∷ xs) e = omega (arith, ap length e)
