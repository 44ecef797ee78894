-- What nodes do after a legal trace goes on with it.
use Rattle.std.proofs.Common.{◌≡◌, ◌≢◌, ℕ, ◌<◌, max, List, [], ◌∷◌, ◌++◌, Some, map, Bool, true, false, eqb, cond, refl, sym, ap, ◌∙◌, subst, arith, inl, inr, append_assoc}
use Rattle.std.proofs.lemmas.Bool.{eq-eqb}
use Rattle.std.proofs.Math.Nat.{le-max_left}
use Rattle.run_trace.specs.declared.entry.Act.{Act}
use Rattle.run_trace.specs.declared.entry.Act.TheVariants.{Boot, Run, Take, Move}
use Rattle.run_trace.specs.declared.entry.Entry.{Entry}
use Rattle.run_trace.specs.Cluster.{Event, Happens, IsAbove, IsDescending, Merges, Net, Runs, fresh_net, net_of, own, received, state}
use Rattle.run_trace.specs.Histories.{IsEntryAbove, IsHistory, IsInOrder, IsStamped, Turn, clock, seen, sent_to, taken_from}
use Rattle.run_trace.specs.Legality.{AreRising, Begins, Legal, NoneAbove, boot_entries}
use Rattle.run_trace.specs.Program.{Program, nodes_of}
use Rattle.run_trace.specs.Trace.{IsRun, entry_of, event_of, events_of, net_after_trace}
use Rattle.trace_laws.specs.Gathers.{Gathers, RoundsReached, IsReached, events_in, own_turns}
use Rattle.trace_laws.proofs.Lemmas.{gathers_merges, determined, whole, node_is, link_is}
use Rattle.cluster.specs.Gathering.{AreGathered, AreJoined, AreOfRound, GathersAfter, JoinsAfter, entries_in}
use Rattle.cluster.specs.Standing.{AgreesWith, IsNodeOf, NoneLater, net_after, turn_in}
use Rattle.cluster.specs.View.{ClusterView}
use Rattle.node_loop.specs.Histories.{HasHistory}
use Rattle.node_loop.specs.View.{NodeView}
use Rattle.run_trace.specs.Local.{Local}
use Rattle.std.specs.Prelude.{slice_get}
use Rattle.cluster.proofs.Runs.{above, links_within, net_joined}

-- ## One run after another

runs_on : (p : Program) (base : Net) (old new : List Entry) → IsRun p base old → IsRun p (net_after_trace p base old) new → IsRun p base (new ++ old)
runs_on p base old [] r n = r
runs_on p base old (x ∷ new) r n = (runs_on p base old new r n.0, subst (λ net. Happens p net (event_of p net x)) (net_joined p base old new) n.1)

begins_on : (p : Program) (old new : List Entry) → old ≢ [] → Begins p old → Begins p (new ++ old)
begins_on p old new some b = elim b as (λ z. Begins p (new ++ old)) [
  | inl none ↦ absurd (some none)
  | inr h ↦ inr (new ++ h.0, ap (λ xs. new ++ xs) h.1 ∙ sym (append_assoc new h.0 (boot_entries p (nodes_of p))))
]

legal_on : (p : Program) (old new : List Entry) → Legal p old → old ≢ [] → IsInOrder (new ++ old) → AreRising (new ++ old) → IsRun p (net_after p old) new → Legal p (new ++ old)
legal_on p old new l some order rising run = whole p (new ++ old) order (begins_on p old new some l.begins) rising (runs_on p (fresh_net p) old new l.runs run)

pub are_joined : (p : Program) (old trace : List Entry) (histories : ℕ → List Event) → JoinsAfter p old trace histories
    → IsRun p (net_after p old) trace
    → ((n : ℕ) → (net_after_trace p (net_after p old) trace).nodes n ≡ state p n ((net_after p old).nodes n) (histories n))
    → ((i j : ℕ) → taken_from i (histories j) ++ (net_after_trace p (net_after p old) trace).links i j ≡ (net_after p old).links i j ++ sent_to j (histories i))
    → AreJoined p old trace histories
are_joined p old trace histories j run nodes links = record {
  legal = legal_on p old trace j.legal j.begun j.order j.rounds run;
  nodes = λ n. ap (λ (net : Net). net.nodes n) (sym (net_joined p (fresh_net p) old trace)) ∙ nodes n;
  links = λ i k. ap (λ (net : Net). taken_from i (histories k) ++ net.links i k) (sym (net_joined p (fresh_net p) old trace)) ∙ links i k;
}

-- ## The turns of a node

pub from_the_trace : (c : ClusterView) (before kept : List Entry) → AgreesWith c before kept → (n : ℕ) (v new : NodeView) → slice_get c.nodes n ≡ Some v → (turns : List Turn) → HasHistory v turns new
    → IsHistory c.program n v.clock ((net_after c.program (kept ++ before)).nodes n) turns
from_the_trace c before kept s n v new at turns h =
    let node : IsNodeOf c (kept ++ before) n v = s.node n v at in
    subst (λ (l : Local). IsHistory c.program n v.clock l turns) (sym node.state)
    (subst (λ m. IsHistory c.program m v.clock v.state turns) node.me
    (subst (λ (q : Program). IsHistory q v.me v.clock v.state turns) node.program h.history))

-- ## The turns of a round

module _ (p : Program) (clocks : ℕ → ℕ) (base : Net) where
  before_it : (n : ℕ) (t : Turn) (before : List Turn) → IsHistory p n (clocks n) (base.nodes n) (own_turns n (t ∷ before)) → IsHistory p n (clocks n) (base.nodes n) (own_turns n before)
  before_it n t before = by (eqb t.event.node n)
    where
      by : (b : Bool) → IsHistory p n (clocks n) (base.nodes n) (cond b (t ∷ own_turns n before) (own_turns n before)) → IsHistory p n (clocks n) (base.nodes n) (own_turns n before)
      by true h = h.0
      by false h = h

  -- a turn's stamp is above the clock with which its round began
  later : (t : Turn) (last : ℕ) (a : Act) → turn_in a ≡ 1 → IsStamped last t a → t.began < t.event.stamp
  later t last Boot e s = absurd (cc e)
  later t last (Run vp quantum) e s = omega (arith, s, le-max_left t.began (max last (seen t.event.took)))
  later t last (Take from) e s = omega (arith, s, le-max_left t.began (max last (seen t.event.took)))
  later t last (Move u to) e s = omega (arith, s, le-max_left t.began (max last (seen t.event.took)))

  newest_later : (t : Turn) (before : List Turn) → turn_in t.event.act ≡ 1 → IsHistory p t.event.node (clocks t.event.node) (base.nodes t.event.node) (own_turns t.event.node (t ∷ before)) → t.began < t.event.stamp
  newest_later t before e h =
      let n : ℕ = t.event.node in
      let k : IsHistory p n (clocks n) (base.nodes n) (t ∷ own_turns n before) =
      subst (λ b. IsHistory p n (clocks n) (base.nodes n) (cond b (t ∷ own_turns n before) (own_turns n before))) (eq-eqb n n refl) h in
      later t (clock (clocks n) (own_turns n before)) t.event.act e k.1.stamp

front_above : (e : Event) (es : List Event) (old : List Entry) → IsAbove e es → IsEntryAbove (entry_of e) old → IsEntryAbove (entry_of e) (map entry_of es ++ old)
front_above e [] old h k = k
front_above e (x ∷ xs) old h k = (h.0, front_above e xs old h.1 k)

module _ (p : Program) (old : List Entry) (top round : ℕ) (clocks : ℕ → ℕ) (stamps : NoneLater top old) (legal : Legal p old) (rounds : NoneAbove round old) where
  in_order : (turns : List Turn) → AreOfRound top round turns → IsDescending (events_in turns)
      → ((n : ℕ) → IsHistory p n (clocks n) ((net_after p old).nodes n) (own_turns n turns)) → IsInOrder (entries_in turns ++ old)
  in_order [] o d h = legal.order
  in_order (t ∷ before) o d h =
      let late : t.began < t.event.stamp = newest_later p clocks (net_after p old) t before o.0.2 (h t.event.node) in (
        front_above t.event (events_in before) old d.0 (above top (entry_of t.event) (omega (arith, late, o.0.0)) old stamps),
        in_order before o.1 d.1 (λ n. before_it p clocks (net_after p old) n t before (h n)),
      )

  none_above : (turns : List Turn) → AreOfRound top round turns → NoneAbove round (entries_in turns ++ old)
  none_above [] o = rounds
  none_above (t ∷ before) o = (omega (arith, o.0.1), none_above before o.1)

  rising : (turns : List Turn) → AreOfRound top round turns → AreRising (entries_in turns ++ old)
  rising [] o = legal.rounds
  rising (t ∷ before) o = (subst (λ r. NoneAbove r (entries_in before ++ old)) (sym o.0.1) (none_above before o.1), rising before o.1)

reached : (top : ℕ) (turns : List Turn) → IsReached top top turns
reached top [] = omega arith
reached top (t ∷ before) = inr (reached top before)

all_reached : (top round : ℕ) (turns : List Turn) → AreOfRound top round turns → RoundsReached top turns
all_reached top round [] o = tt
all_reached top round (t ∷ before) o = (subst (λ k. IsReached top k before) (sym o.0.0) (reached top before), all_reached top round before o.1)

own_events : (n : ℕ) (turns : List Turn) → own n (events_in turns) ≡ events_in (own_turns n turns)
own_events n [] = refl
own_events n (t ∷ before) = by (eqb t.event.node n) (own_events n before)
  where
    by : (b : Bool) → own n (events_in before) ≡ events_in (own_turns n before) → cond b (t.event ∷ own n (events_in before)) (own n (events_in before)) ≡ events_in (cond b (t ∷ own_turns n before) (own_turns n before))
    by true e = ap (λ xs. t.event ∷ xs) e
    by false e = e

module _ (p : Program) (old : List Entry) (top round : ℕ) (clocks : ℕ → ℕ) (turns : List Turn) (g : GathersAfter p old top round clocks turns) where
  abbrev base : Net
  base = net_after p old

  pub gathers : Gathers p base top clocks turns
  gathers = record {
    order = g.order;
    local = g.local;
    links = g.links;
    clocks_within = g.clocks_within;
    packets_within = links_within p top old g.stamps;
    rounds = all_reached top round turns g.one_round;
    few = g.few;
  }

  pub merges : Merges p base (events_in turns)
  merges = gathers_merges p base top clocks turns gathers

  pub are_gathered : Runs p base (events_in turns) → IsRun p base (entries_in turns) → AreGathered p old turns
  are_gathered runs run = record {
    legal = legal_on p old (entries_in turns) g.legal g.begun (in_order p old top round clocks g.stamps g.legal g.rounds turns g.one_round g.order g.local)
        (rising p old top round clocks g.stamps g.legal g.rounds turns g.one_round) run;
    nodes = λ n. ap (λ (net : Net). net.nodes n) left ∙ node_is p base (events_in turns) n ∙ ap (λ es. state p n (base.nodes n) es) (own_events n turns);
    links = λ i j. ap (λ (net : Net). received i j (events_in turns) ++ net.links i j) left ∙ link_is p base (events_in turns) runs i j;
  }
    where
      same : events_of p base (entries_in turns) ≡ events_in turns
      same = determined p base (events_in turns) runs

      left : net_after p (entries_in turns ++ old) ≡ net_of p base (events_in turns)
      left = sym (net_joined p (fresh_net p) old (entries_in turns)) ∙ ap (net_of p base) same
