-- After want of memory in a round the nodes keep the entries that they had and those that they made before it.
use Rattle.std.proofs.Common.{◌≡◌, ℕ, ◌<◌, ◌≤◌, inl, List, [], ◌∷◌, ◌++◌, length, map, reverse, get_or, Some, refl, sym, ap, ◌∙◌, subst, arith}
use Rattle.std.specs.Prelude.{slice_get}
use Rattle.std.proofs.lemmas.List.{reverse-append, reverse-reverse}
use Rattle.std.proofs.lemmas.Option.{slice_get_past}
use Rattle.std.proofs.Math.Nat.{max-eq_right}
use Rattle.run_trace.specs.declared.entry.Entry.{Entry}
use Rattle.run_trace.specs.Cluster.{Event, IsAbove, IsDescending}
use Rattle.run_trace.specs.Histories.{IsEntryAbove, IsHistory, IsInOrder, Turn, clock, own_entries}
use Rattle.run_trace.specs.Local.{Local}
use Rattle.run_trace.specs.Program.{Program, nodes_of}
use Rattle.run_trace.specs.Trace.{entry_of}
use Rattle.trace_laws.specs.Gathers.{events_in, own_turns}
use Rattle.basics.proofs.Lemmas.{by_less, some_at}
use Rattle.node_loop.specs.Histories.{entries_of_turns}
use Rattle.node_loop.specs.Rounds.{AreInRound, HasDone, Rounds}
use Rattle.node_loop.specs.View.{NodeView, raised}
use Rattle.node_loop.specs.declared.node.RoundEnd.{RoundEnd}
use Rattle.node_loop.specs.declared.node.RoundEnd.TheVariants.{Lost, Through}
use Rattle.cluster.specs.Gathering.{entries_in}
use Rattle.cluster.specs.Rounds.{LosesRound, acts_in_round}
use Rattle.cluster.specs.SideBySide.{HasRun, HaveStopped}
use Rattle.cluster.specs.Standing.{StandsFor, HasTrace, NoneLater, entries_at}
use Rattle.cluster.specs.View.{ClusterView, greatest_clock, view_of}
use Rattle.cluster.proofs.Acting.{get_raised, raised_length, read_some}
use Rattle.cluster.proofs.Clocks.{clock_within}
use Rattle.cluster.proofs.Runs.{later_front}
use Rattle.cluster.proofs.SideDriven.{ran_wired}
use Rattle.cluster.proofs.SidePasses.{clock_low}
use Rattle.cluster.proofs.NodeTurns.{ranges, rises, stamped_above}
use Rattle.cluster.proofs.Together.{entries_same, own_in, own_joined}
use Rattle.cluster.proofs.Weaving.{AreAfter, Rises, woven, woven_after, woven_descends, woven_own, woven_past}

-- it has done these turns, and keeps their entries
record HasMade (v w : NodeView) (turns : List Turn) : Type 0 where
  pub last : NodeView
  pub done : HasDone v turns last
  pub entries : w.entries ≡ last.entries

made : (v w : NodeView) → HasRun v w → (turns : List Turn) × HasMade v w turns
made v w h = by h.end h.rounds
  where
    by : (e : RoundEnd) → Rounds v acts_in_round w e → (turns : List Turn) × HasMade v w turns
    by Through r = (r.turns, record { last = w; done = r.done; entries = refl })
    by Lost r = (r.turns, record { last = r.last; done = r.done; entries = r.lost.entries })

all_after : (p : Program) (n d began round : ℕ) (base : Local) (ts : List Turn) → IsHistory p n d base ts → AreInRound p n began round ts → AreAfter d ts
all_after p n d began round base [] h o = tt
all_after p n d began round base (t ∷ before) h o = (
  omega (arith, clock_low n d p base before h.0 (ranges p n began round before o.1), stamped_above t p n (clock d before) t.event.act o.0.3 h.1.stamp),
  all_after p n d began round base before h.0 o.1,
)

-- ## The order of stamps and nodes

above_old : (clock : ℕ) (e : Event) (old : List Entry) → clock < e.stamp → NoneLater clock old → IsEntryAbove (entry_of e) old
above_old clock e [] l h = tt
above_old clock e (x ∷ xs) l h = (inl (omega (arith, l, h.0)), above_old clock e xs l h.1)

above_both : (e : Event) (ts : List Turn) (old : List Entry) → IsAbove e (events_in ts) → IsEntryAbove (entry_of e) old → IsEntryAbove (entry_of e) (entries_in ts ++ old)
above_both e [] old a o = o
above_both e (x ∷ ts) old a o = (a.0, above_both e ts old a.1 o)

in_order : (clock : ℕ) (ts : List Turn) (old : List Entry) → IsDescending (events_in ts) → AreAfter clock ts → NoneLater clock old → IsInOrder old → IsInOrder (entries_in ts ++ old)
in_order clock [] old d a l o = o
in_order clock (t ∷ ts) old d a l o = (above_both t.event ts old d.0 (above_old clock t.event old a.0 l), in_order clock ts old d.1 a.1 l o)

module _ (c : ClusterView) (before kept : List Entry) (s : StandsFor c before kept) (nodes : List NodeView) (h : HaveStopped (greatest_clock c.nodes) c.nodes nodes) where
  abbrev p : Program
  p = c.program

  abbrev top : ℕ
  top = greatest_clock c.nodes

  abbrev many : ℕ
  many = nodes_of p

  now_count : length nodes ≡ many
  now_count = h.count ∙ s.agrees.count

  -- what node n was, and what it is
  record NodeMade (n : ℕ) (turns : List Turn) : Type 0 where
    pub v : NodeView
    pub was : slice_get c.nodes n ≡ Some v
    pub w : NodeView
    pub now : slice_get nodes n ≡ Some w
    pub made : HasMade (raised top v) w turns

  record AtNode (n : ℕ) : Type 0 where
    pub turns : List Turn
    pub here : n < many → NodeMade n turns
    pub past : many ≤ n → turns ≡ []

  node_made : (n : ℕ) → n < many → AtNode n
  node_made n l =
      let v = some_at c.nodes n (omega (arith, l, s.agrees.count)) in
      let w = some_at nodes n (omega (arith, l, now_count)) in
      let up : get_or (map (raised top) c.nodes) n v.0 ≡ raised top v.0 = read_some (map (raised top) c.nodes) n v.0 (raised top v.0) (get_raised top c.nodes n v.0 v.1) in
      let run : HasRun (get_or (map (raised top) c.nodes) n v.0) (get_or nodes n v.0) = h.each n v.0 (omega (arith, l, s.agrees.count, raised_length top c.nodes)) in
      let m = made (raised top v.0) w.0 (subst (λ z. HasRun z w.0) up (subst (λ z. HasRun (get_or (map (raised top) c.nodes) n v.0) z) (read_some nodes n v.0 w.0 w.1) run)) in
      record {
        turns = m.0;
        here = λ k. (record { v = v.0; was = v.1; w = w.0; now = w.1; made = m.1 });
        past = λ k. absurd (omega (arith, l, k));
      }

  at_node : (n : ℕ) → AtNode n
  at_node n = by_less n many (λ l. node_made n l) (λ past. record { turns = []; here = λ m. absurd (omega (arith, past, m)); past = λ m. refl })

  abbrev each : ℕ → List Turn
  each n = (at_node n).turns

  rise_at : (n : ℕ) → n < many → Rises n (each n)
  rise_at n l =
      let o = (at_node n).here l in
      subst (λ m. Rises m (each n)) (s.agrees.node n o.v o.was).me
      (rises o.v.program o.v.me (raised top o.v).clock (raised top o.v).clock (raised top o.v).round o.v.state (each n) o.made.done.history.history o.made.done.one_round)

  after_at : (n : ℕ) → n < many → AreAfter top (each n)
  after_at n l =
      let o = (at_node n).here l in
      let same : (raised top o.v).clock ≡ top = max-eq_right {n = o.v.clock} {m = top} (clock_within c.nodes n o.v o.was) in
      subst (λ k. AreAfter k (each n)) same
      (all_after o.v.program o.v.me (raised top o.v).clock (raised top o.v).clock (raised top o.v).round o.v.state (each n) o.made.done.history.history o.made.done.one_round)

  all_rise : (n : ℕ) → Rises n (each n)
  all_rise n = by_less n many (λ l. rise_at n l) (λ past. subst (λ ts. Rises n ts) (sym ((at_node n).past past)) tt)

  each_after : (n : ℕ) → AreAfter top (each n)
  each_after n = by_less n many (λ l. after_at n l) (λ past. subst (λ ts. AreAfter top ts) (sym ((at_node n).past past)) tt)

  abbrev turns : List Turn
  turns = woven each many

  own_is : (n : ℕ) → own_turns n turns ≡ each n
  own_is n = by_less n many (λ l. woven_own each all_rise many n l) (λ past. woven_past each all_rise many n past ∙ sym ((at_node n).past past))

  entries_are : (n : ℕ) → own_entries n (entries_in turns ++ kept) ≡ reverse (entries_at (slice_get nodes n))
  entries_are n = own_joined n kept (entries_in turns) ∙ ap (λ xs. xs ++ own_entries n kept) (own_in n turns ∙ ap entries_in (own_is n)) ∙ by_less n many
      (λ l.
      let o = (at_node n).here l in
      let mine : own_entries n kept ≡ reverse o.v.entries = s.agrees.trace.entries n ∙ ap (λ x. reverse (entries_at x)) o.was in
      let now : o.w.entries ≡ o.v.entries ++ reverse (entries_of_turns (each n)) = o.made.entries ∙ o.made.done.history.entries in
      ap (λ xs. xs ++ own_entries n kept) (sym (entries_same (each n)) ∙ sym (reverse-reverse (entries_of_turns (each n))))
      ∙ ap (λ xs. reverse (reverse (entries_of_turns (each n))) ++ xs) mine
      ∙ sym (reverse-append o.v.entries (reverse (entries_of_turns (each n)))) ∙ ap reverse (sym now) ∙ ap (λ x. reverse (entries_at x)) (sym o.now))
      (λ l.
      ap (λ ts. entries_in ts ++ own_entries n kept) ((at_node n).past l) ∙ s.agrees.trace.entries n
      ∙ ap (λ x. reverse (entries_at x)) (slice_get_past c.nodes n (omega (arith, l, s.agrees.count)) ∙ sym (slice_get_past nodes n (omega (arith, l, now_count)))))

  trace : HasTrace (view_of p c.turns nodes c.rest) (entries_in turns ++ kept)
  trace = record {
    order = in_order top turns kept (woven_descends each all_rise many) (woven_after each top many each_after) (later_front top kept before s.agrees.stamps) s.agrees.trace.order;
    entries = entries_are;
    wired = ran_wired top c.nodes (map (raised top) c.nodes) nodes c.rest refl (omega (arith, h.count, raised_length top c.nodes)) h.each s.agrees.trace.wired;
  }

  pub loses : LosesRound c (view_of p c.turns nodes c.rest) kept
  loses = record { program = refl; entries = entries_in turns; trace = trace }
