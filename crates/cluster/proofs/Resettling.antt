-- A cluster whose links are settled agrees with the same trace.
use Rattle.std.proofs.Common.{◌≡◌, ℕ, List, ◌++◌, length, reverse, Option, Some, refl, sym, ap, ◌∙◌, subst, arith}
use Rattle.std.specs.Prelude.{slice_get}
use Rattle.std.proofs.lemmas.Option.{slice_get_past, slice_get_within}
use Rattle.run_trace.specs.declared.entry.Entry.{Entry}
use Rattle.run_trace.specs.declared.packet.Packet.{Packet}
use Rattle.run_trace.specs.Console.{console_of}
use Rattle.run_trace.specs.Legality.{NoneAbove}
use Rattle.run_trace.specs.Program.{Program}
use Rattle.run_trace.specs.Spots.{at_first}
use Rattle.wires.specs.declared.ends.Ends.{Ends}
use Rattle.basics.proofs.Lemmas.{by_less, some_at}
use Rattle.node_loop.specs.View.{NodeView, with_ends}
use Rattle.cluster.specs.Between.{AllOf, AreNumbered, KeepNodes, SettlesAll}
use Rattle.cluster.specs.Standing.{AgreesWith, NoneLater, StandsFor, entries_at, net_after}
use Rattle.cluster.specs.View.{ClusterView, console_at, greatest_clock, round_at, view_of}
use Rattle.cluster.proofs.Acting.{all_still}
use Rattle.cluster.proofs.Clocks.{clock_within, greatest_most}
use Rattle.cluster.proofs.TheStep.{numbered_all}

module _ (vs ws : List NodeView) (k : KeepNodes vs ws) where
  record Was (n : ℕ) (w : NodeView) : Type 0 where
    old : NodeView
    was : slice_get vs n ≡ Some old
    is : w ≡ with_ends w.ends old

  was_at : (n : ℕ) (w : NodeView) → slice_get ws n ≡ Some w → Was n w
  was_at n w e =
      let v = some_at vs n (omega (arith, k.count, slice_get_within ws n w e)) in
      record { old = v.0; was = v.1; is = k.each n v.0 w v.1 e }

  pub same_at : {A : Type 0} (f : Option NodeView → A) → ((v : NodeView) (es : Ends Packet) → f (Some (with_ends es v)) ≡ f (Some v)) → (m : ℕ) → f (slice_get ws m) ≡ f (slice_get vs m)
  same_at f h m = by_less m (length vs)
      (λ l.
      let w = some_at ws m (omega (arith, k.count, l)) in
      let o : Was m w.0 = was_at m w.0 w.1 in
      ap f w.1 ∙ ap (λ z. f (Some z)) o.is ∙ h o.old w.0.ends ∙ ap f (sym o.was))
      (λ past. ap f (slice_get_past ws m (omega (arith, past, k.count))) ∙ sym (ap f (slice_get_past vs m past)))

  pub same_clocks : greatest_clock ws ≡ greatest_clock vs
  same_clocks = omega (
    arith,
    greatest_most (greatest_clock vs) ws (λ n w e. let o : Was n w = was_at n w e in omega (arith, ap (λ (z : NodeView). z.clock) o.is, clock_within vs n o.old o.was)),
    greatest_most (greatest_clock ws) vs (λ n v e.
        let w = some_at ws n (omega (arith, k.count, slice_get_within vs n v e)) in
        omega (arith, ap (λ (z : NodeView). z.clock) (k.each n v w.0 e w.1), clock_within ws n w.0 w.1)),
  )

pub settled_stands : (p : Program) (turns : ℕ) (vs ws : List NodeView) (rest : List (Ends Packet)) (before kept : List Entry) → AgreesWith (view_of p turns vs rest) before kept → SettlesAll rest vs ws
    → StandsFor (view_of p turns ws rest) before kept
settled_stands p turns vs ws rest before kept s h = record {
  agrees = record {
    legal = s.legal;
    trace = record {
      order = s.trace.order;
      entries = λ n. s.trace.entries n ∙ ap reverse (sym (same_at vs ws h.nodes entries_at (λ v es. refl) n));
      wired = h.wired;
    };
    count = h.nodes.count ∙ s.count;
    turns = s.turns;
    node = λ n w e.
        let o : Was vs ws h.nodes n w = was_at vs ws h.nodes n w e in
        let was = s.node n o.old o.was in
        record {
          program = ap (λ (z : NodeView). z.program) o.is ∙ was.program;
          me = ap (λ (z : NodeView). z.me) o.is ∙ was.me;
          state = was.state ∙ sym (ap (λ (z : NodeView). z.state) o.is);
          booted = ap (λ (z : NodeView). z.state.booted) o.is ∙ was.booted;
          few = omega (arith, ap (λ (z : NodeView). length z.entries) o.is, was.few);
        };
    one_round = λ n w e.
        let o : Was vs ws h.nodes n w = was_at vs ws h.nodes n w e in
        ap (λ (z : NodeView). z.round) o.is ∙ s.one_round n o.old o.was ∙ sym round;
    rounds = subst (λ r. NoneAbove r (kept ++ before)) (sym round) s.rounds;
    stamps = subst (λ g. NoneLater g (kept ++ before)) (sym (same_clocks vs ws h.nodes)) s.stamps;
    clocks = λ n w e.
        let o : Was vs ws h.nodes n w = was_at vs ws h.nodes n w e in
        omega (arith, ap (λ (z : NodeView). z.clock) o.is, s.clocks n o.old o.was);
    carried = record {
      sends = λ i j. h.same.same_sent i j ∙ s.carried.sends i j;
      takes = λ i j. h.same.same_received i j ∙ s.carried.takes i j;
    };
    under_way = λ i j. ap (λ ps. ps ++ (net_after p (kept ++ before)).links i j) (h.same.same_received i j) ∙ s.under_way i j ∙ sym (h.same.same_sent i j);
    console = s.console ∙ ap (λ bs. console_of p (at_first p) before ++ bs) (sym (same_at vs ws h.nodes console_at (λ v es. refl) 0));
    some_quantum = s.some_quantum;
    bounded_quantum = s.bounded_quantum;
    aligned = s.aligned;
  };
  settled = λ i j x y li lj f g. h.settled i j x y (omega (arith, li, s.count)) (omega (arith, lj, s.count)) f g;
}
  where
    round : round_at (slice_get ws 0) ≡ round_at (slice_get vs 0)
    round = same_at vs ws h.nodes round_at (λ v es. refl) 0

-- ## In the words of the code: us and rs are the parts of the cluster on the way, and ws what the nodes become

module _ (p : Program) (turns : ℕ) (vs : List NodeView) (rest : List (Ends Packet)) (now : ClusterView) (is : view_of p turns vs rest ≡ now)
    (us ws items : List NodeView) (rs : List (Ends Packet)) (same : us ≡ vs) (left : rs ≡ rest) (h : SettlesAll rs us ws) (written : items ≡ ws) where
  settles : SettlesAll rest vs items
  settles = subst (λ zs. SettlesAll rest vs zs) (sym written) (subst (λ es. SettlesAll es vs ws) left (subst (λ zs. SettlesAll rs zs ws) same h))

  pub right_stands : (before kept : List Entry) → AgreesWith now before kept → StandsFor (view_of p turns items rest) before kept
  right_stands before kept s = settled_stands p turns vs items rest before kept (subst (λ o. AgreesWith o before kept) (sym is) s) settles

  pub right_same : (p ≡ now.program) × (turns ≡ now.turns) × KeepNodes now.nodes items
  right_same = (ap (λ (o : ClusterView). o.program) is, ap (λ (o : ClusterView). o.turns) is, subst (λ (o : ClusterView). KeepNodes o.nodes items) is settles.nodes)

  pub right_all : AllOf p vs → AllOf p items
  right_all a = all_still p vs items a settles.nodes

pub still_numbered : (p : Program) (turns : ℕ) (vs : List NodeView) (rest : List (Ends Packet)) (now : ClusterView) → view_of p turns vs rest ≡ now
    → (us : List NodeView) → us ≡ vs → (before kept : List Entry) → AgreesWith now before kept → AreNumbered us
still_numbered p turns vs rest now is us same before kept s =
    subst (λ zs. AreNumbered zs) (sym (same ∙ ap (λ (o : ClusterView). o.nodes) is)) (numbered_all now before kept s)
