-- What a step of the cluster asks, and what comes of it.
use Rattle.std.proofs.Common.{◌≡◌, ℕ, suc, ◌+◌, ◌^◌, ◌<◌, ◌↔◌, List, ◌++◌, length, reverse, map, min, get_or, Some, Bool, true, false, refl, sym, ap, ◌∙◌, subst, arith, length-set}
use Rattle.std.specs.Prelude.{slice_get}
use Rattle.std.proofs.Math.Nat.{min-eq_left}
use Rattle.std.proofs.lemmas.Option.{slice_get_past, slice_get_within, same_Some}
use Rattle.run_trace.specs.declared.entry.Act.{Act}
use Rattle.run_trace.specs.declared.entry.Entry.{Entry}
use Rattle.run_trace.specs.declared.packet.Packet.{Packet}
use Rattle.run_trace.specs.Program.{Program, nodes_of}
use Rattle.wires.specs.declared.ends.Ends.{Ends}
use Rattle.wires.specs.Wires.{AreWired}
use Rattle.basics.proofs.Lemmas.{by_eq, by_less, some_at, get_set_same, get_set_other}
use Rattle.node_loop.specs.View.{NodeView, raised}
use Rattle.node_loop.specs.Turns.{IsActInRange, IsInRange, can, entry_limit}
use Rattle.node_loop.specs.declared.node.Turned.{Turned}
use Rattle.node_loop.specs.declared.node.Turned.TheVariants.{Did, Idle}
use Rattle.cluster.specs.Acts.{is_possible}
use Rattle.cluster.specs.Between.{AllOf, AreNumbered, HasActed, HasFailed, IsReady, raised_but, wires_in}
use Rattle.cluster.specs.Standing.{StandsFor, AgreesWith, IsStanding, HasRoom, HasTrace, Loses, Steps, entries_at, net_after}
use Rattle.cluster.specs.View.{ClusterView, greatest_clock, last_clock, view_of}
use Rattle.cluster.proofs.Acting.{get_raised, raised_length, mid_wired, mid_all, all_still, turn_keeps, lost_keeps, read_some}
use Rattle.cluster.proofs.Linking.{can_is}
use Rattle.cluster.proofs.OneMore.{adds}
use Rattle.cluster.proofs.Possible.{never_idle}
use Rattle.cluster.proofs.Clocks.{clocks_low, few_entries}
use Rattle.cluster.proofs.Runs.{few_turns}

pub numbered_all : (c : ClusterView) (before kept : List Entry) → AgreesWith c before kept → AreNumbered c.nodes
numbered_all c before kept s n v at = (s.node n v at).me

pub ready_for : (c : ClusterView) (before kept : List Entry) → StandsFor c before kept → (n : ℕ) (v : NodeView) → slice_get c.nodes n ≡ Some v
    → length v.entries < entry_limit → (act : Act) → IsActInRange c.program n act → IsReady v act
ready_for c before kept s n v at room act range =
    let node = s.agrees.node n v at in
    record {
      entries = room;
      booted = node.booted;
      range = subst (λ (q : Program). IsActInRange q v.me act) (sym node.program) (subst (λ m. IsActInRange c.program m act) (sym node.me) range);
    }

module _ (c : ClusterView) (before kept : List Entry) (s : StandsFor c before kept) (n : ℕ) (inside : n < nodes_of c.program) (room : HasRoom c n)
    (act : Act) (range : IsActInRange c.program n act) (able : (v : NodeView) → slice_get c.nodes n ≡ Some v → can v act ≡ true)
    (nodes : List NodeView) where
  pub stepped : (t : Turned) → HasActed (greatest_clock c.nodes) n act c.rest c.nodes nodes t → Steps c before kept n act (view_of c.program (suc c.turns) nodes c.rest) t
  stepped Did h = adds c before kept s n inside h.node h.was (room h.node h.was) act range (able h.node h.was) h.new h.turns h.booted nodes h.settled
  stepped Idle h = absurd (never_idle c before kept s n inside h.node h.was (greatest_clock c.nodes) act h.new range (able h.node h.was) h.turns)

  -- what is done was possible
  pub did_exact : (t : Turned) → HasActed (greatest_clock c.nodes) n act c.rest c.nodes nodes t → (t ≡ Idle) ↔ (is_possible c.program (net_after c.program (kept ++ before)) n act ≡ false)
  did_exact Did h =
      let could : can h.node act ≡ is_possible c.program (net_after c.program (kept ++ before)) n act = can_is c before kept s n h.node h.was inside act range in
      (λ e. absurd (cc e), λ e. absurd (cc (e, could, able h.node h.was)))
  did_exact Idle h = absurd (never_idle c before kept s n inside h.node h.was (greatest_clock c.nodes) act h.new range (able h.node h.was) h.turns)

-- a cluster that stands raises to the greatest clock itself
pub raised_to : (c : ClusterView) (before kept : List Entry) → StandsFor c before kept → (us : List NodeView) (clock : ℕ) → us ≡ c.nodes → clock ≡ min (greatest_clock us) last_clock → clock ≡ greatest_clock c.nodes
raised_to c before kept st us clock e k =
    k ∙ ap (λ ys. min (greatest_clock ys) last_clock) e
    ∙ min-eq_left {n = greatest_clock c.nodes} {m = last_clock} (let low : greatest_clock c.nodes < last_clock = clocks_low c before kept st.agrees in omega (arith, low))

-- what isn't done isn't possible
pub idle_exact : (c : ClusterView) (before kept : List Entry) → StandsFor c before kept → (n : ℕ) → n < nodes_of c.program → (v : NodeView) → slice_get c.nodes n ≡ Some v
    → (act : Act) → IsActInRange c.program n act → can v act ≡ false → (Idle ≡ Idle) ↔ (is_possible c.program (net_after c.program (kept ++ before)) n act ≡ false)
idle_exact c before kept s n inside v at act range not =
    (λ e. sym (can_is c before kept s n v at inside act range) ∙ not, λ e. refl)

-- after want of memory the trace is there
pub failed : (c : ClusterView) (kept : List Entry) → HasTrace c kept → (clock n : ℕ) (nodes : List NodeView) → HasFailed clock n c.nodes nodes
    → HasTrace (view_of c.program c.turns nodes c.rest) kept
failed c kept trace clock n nodes h = record {
  order = trace.order;
  entries = λ m. trace.entries m ∙ ap reverse (same m);
  wired = subst (λ us. AreWired (wires_in us c.rest)) (sym h.is) (mid_wired clock n c.nodes h.node h.new h.was (lost_keeps (raised clock h.node) h.new h.lost) c.rest trace.wired);
}
  where
    long : length (map (raised clock) c.nodes) ≡ length c.nodes
    long = raised_length clock c.nodes

    longer : length nodes ≡ length c.nodes
    longer = ap length h.is ∙ length-set (map (raised clock) c.nodes) n h.new ∙ long

    at : (m : ℕ) (v : NodeView) → slice_get c.nodes m ≡ Some v → entries_at (slice_get c.nodes m) ≡ entries_at (slice_get (raised_but clock n h.new c.nodes) m)
    at m v e = by_eq m n
        (λ k.
        let same_node : h.node ≡ v = same_Some h.node v (sym h.was ∙ subst (λ i. slice_get c.nodes i ≡ Some v) k e) in
        let there : slice_get (raised_but clock n h.new c.nodes) m ≡ Some h.new =
        ap (slice_get (raised_but clock n h.new c.nodes)) k ∙ get_set_same (map (raised clock) c.nodes) n h.new (omega (arith, long, slice_get_within c.nodes m v e, k)) in
        ap entries_at e ∙ ap (λ (z : NodeView). z.entries) (sym same_node) ∙ sym h.lost.entries ∙ sym (ap entries_at there))
        (λ ne.
        let there : slice_get (raised_but clock n h.new c.nodes) m ≡ Some (raised clock v) = get_set_other (map (raised clock) c.nodes) m n h.new ne ∙ get_raised clock c.nodes m v e in
        ap entries_at e ∙ sym (ap entries_at there))

    same : (m : ℕ) → entries_at (slice_get c.nodes m) ≡ entries_at (slice_get nodes m)
    same m = by_less m (length c.nodes)
        (λ l. let v = some_at c.nodes m l in at m v.0 v.1 ∙ ap (λ us. entries_at (slice_get us m)) (sym h.is))
        (λ past. ap entries_at (slice_get_past c.nodes m past) ∙ sym (ap entries_at (slice_get_past nodes m (omega (arith, past, longer)))))

-- the programs stay
pub acted_all : (p : Program) (clock n : ℕ) (act : Act) (rest : List (Ends Packet)) (old now : List NodeView) (t : Turned)
    → AllOf p old → HasActed clock n act rest old now t → AllOf p now
acted_all p clock n act rest old now t a h =
    all_still p (raised_but clock n h.new old) now (mid_all clock n old h.node h.new h.was (turn_keeps (raised clock h.node) h.new act t h.turns) p a) h.settled.nodes

pub failed_all : (p : Program) (clock n : ℕ) (old now : List NodeView) → AllOf p old → HasFailed clock n old now → AllOf p now
failed_all p clock n old now a h = subst (λ us. AllOf p us) (sym h.is) (mid_all clock n old h.node h.new h.was (lost_keeps (raised clock h.node) h.new h.lost) p a)

pub acted_long : (clock n : ℕ) (act : Act) (rest : List (Ends Packet)) (old now : List NodeView) (t : Turned) → HasActed clock n act rest old now t → length now ≡ length old
acted_long clock n act rest old now t h = h.settled.nodes.count ∙ length-set (map (raised clock) old) n h.new ∙ raised_length clock old

pub failed_long : (clock n : ℕ) (old now : List NodeView) → HasFailed clock n old now → length now ≡ length old
failed_long clock n old now h = ap length h.is ∙ length-set (map (raised clock) old) n h.new ∙ raised_length clock old

-- ## In the words of the code: p, turns, vs and rest are the parts of the cluster, and us, rs and ws the same on the way

module _ (p : Program) (turns : ℕ) (vs : List NodeView) (rest : List (Ends Packet)) (now : ClusterView) (is : view_of p turns vs rest ≡ now)
    (n : ℕ) (inside : n < nodes_of now.program) (act : Act) (range : IsActInRange now.program n act) (room : HasRoom now n)
    (at : ℕ) (place : at ≡ n) (read d : NodeView) (reads : read ≡ get_or vs at d) where
  abbrev parts : ClusterView
  parts = view_of p turns vs rest

  -- what is asked of the cluster is asked of its parts
  abbrev Asked : (ClusterView → Type 0) → ClusterView → Type 0
  Asked Q o = n < nodes_of o.program → IsActInRange o.program n act → HasRoom o n → Q o

  by_parts : (Q : ClusterView → Type 0) → Asked Q parts → Q now
  by_parts Q h = (subst (λ o. Asked Q o) is h) inside range room

  read_is : (v : NodeView) → slice_get vs n ≡ Some v → read ≡ v
  read_is v e = reads ∙ ap (λ k. get_or vs k d) place ∙ read_some vs n d v e

  pub asks_ready : (us : List NodeView) → us ≡ vs → IsStanding now → (v : NodeView) → slice_get us at ≡ Some v → IsReady v act
  asks_ready us e s v h = by_parts (λ o. IsStanding o → IsReady v act)
      (λ i r few st.
      let here : slice_get vs n ≡ Some v = ap (slice_get vs) (sym place) ∙ subst (λ ys. slice_get ys at ≡ Some v) e h in
      ready_for parts st.0 st.1 st.2 n v here (few v here) act r) s

  pub asks_range : IsStanding now → IsInRange read act
  asks_range s = by_parts (λ o. IsStanding o → IsInRange read act)
      (λ i r few st.
      let v = some_at vs n (omega (arith, i, st.2.agrees.count)) in
      subst (λ z. IsInRange z act) (sym (read_is v.0 v.1)) (ready_for parts st.0 st.1 st.2 n v.0 v.1 (few v.0 v.1) act r).range) s

  pub right_idle : (b : Bool) → b ≡ can read act → b ≡ false → (before kept : List Entry) → StandsFor now before kept
      → (Idle ≡ Idle) ↔ (is_possible now.program (net_after now.program (kept ++ before)) n act ≡ false)
  right_idle b e not before kept s = by_parts (λ o. StandsFor o before kept → (Idle ≡ Idle) ↔ (is_possible o.program (net_after o.program (kept ++ before)) n act ≡ false))
      (λ i r few st.
      let v = some_at vs n (omega (arith, i, st.agrees.count)) in
      idle_exact parts before kept st n i v.0 v.1 act r (ap (λ z. can z act) (sym (read_is v.0 v.1)) ∙ sym e ∙ not)) s

  able : (b : Bool) → b ≡ can read act → b ≡ true → (v : NodeView) → slice_get vs n ≡ Some v → can v act ≡ true
  able b e could v h = ap (λ z. can z act) (sym (read_is v h)) ∙ sym e ∙ could

  raises : (before kept : List Entry) → StandsFor parts before kept → (us : List NodeView) (clock : ℕ) → us ≡ vs → clock ≡ min (greatest_clock us) last_clock → clock ≡ greatest_clock vs
  raises before kept st us clock e k = raised_to parts before kept st us clock e k

  as_acted : (us : List NodeView) (rs : List (Ends Packet)) (ws : List NodeView) (t : Turned) (clock : ℕ) → us ≡ vs → rs ≡ rest → clock ≡ greatest_clock vs
      → HasActed clock at act rs us ws t → HasActed (greatest_clock vs) n act rest vs ws t
  as_acted us rs ws t clock e g k h =
      subst (λ c. HasActed c n act rest vs ws t) k (subst (λ m. HasActed clock m act rest vs ws t) place
      (subst (λ z. HasActed clock at act z vs ws t) g (subst (λ z. HasActed clock at act rs z ws t) e h)))

  pub right_steps : (b : Bool) → b ≡ can read act → b ≡ true → (us : List NodeView) (rs : List (Ends Packet)) (ws items : List NodeView) (t : Turned) (ys : List NodeView) (clock : ℕ)
      → us ≡ vs → rs ≡ rest → ys ≡ vs → clock ≡ min (greatest_clock ys) last_clock → HasActed clock at act rs us ws t → items ≡ ws
      → (before kept : List Entry) → StandsFor now before kept → Steps now before kept n act (view_of p (turns + 1) items rest) t
  right_steps b e could us rs ws items t ys clock ue re ye k h same before kept s = by_parts (λ o. StandsFor o before kept → Steps o before kept n act (view_of p (turns + 1) items rest) t)
      (λ i r few st.
      let next : suc turns ≡ turns + 1 = omega arith in
      subst (λ zs. Steps parts before kept n act (view_of p (turns + 1) zs rest) t) (sym same)
      (subst (λ m. Steps parts before kept n act (view_of p m ws rest) t) next
      (stepped parts before kept st n i few act r (able b e could) ws t (as_acted us rs ws t clock ue re (raises before kept st ys clock ye k) h)))) s

  pub right_exact : (b : Bool) → b ≡ can read act → b ≡ true → (us : List NodeView) (rs : List (Ends Packet)) (ws : List NodeView) (t : Turned) (ys : List NodeView) (clock : ℕ)
      → us ≡ vs → rs ≡ rest → ys ≡ vs → clock ≡ min (greatest_clock ys) last_clock → HasActed clock at act rs us ws t
      → (before kept : List Entry) → StandsFor now before kept → (t ≡ Idle) ↔ (is_possible now.program (net_after now.program (kept ++ before)) n act ≡ false)
  right_exact b e could us rs ws t ys clock ue re ye k h before kept s = by_parts (λ o. StandsFor o before kept → (t ≡ Idle) ↔ (is_possible o.program (net_after o.program (kept ++ before)) n act ≡ false))
      (λ i r few st. did_exact parts before kept st n i few act r (able b e could) ws t (as_acted us rs ws t clock ue re (raises before kept st ys clock ye k) h)) s

  pub right_err : (us ws items : List NodeView) (clock : ℕ) → us ≡ vs → HasFailed clock at us ws → items ≡ ws → (before kept : List Entry) → StandsFor now before kept
      → Loses now (view_of p turns items rest) kept
  right_err us ws items clock ue h same before kept s = by_parts (λ o. StandsFor o before kept → Loses o (view_of p turns items rest) kept)
      (λ i r few st. record {
        program = refl;
        trace = subst (λ ys. HasTrace (view_of p turns ys rest) kept) (sym same) (failed parts kept st.agrees.trace clock at ws (subst (λ z. HasFailed clock at z ws) ue h));
      }) s

-- there is room for one turn more in its number
pub few_turns_left : (p : Program) (turns : ℕ) (vs : List NodeView) (rest : List (Ends Packet)) (now : ClusterView) → view_of p turns vs rest ≡ now → IsStanding now → turns + 1 < 2 ^ 64
few_turns_left p turns vs rest now is s =
    let same : turns ≡ now.turns = ap (λ (o : ClusterView). o.turns) is in
    omega (arith, same, s.2.agrees.turns, few_turns s.1, few_entries now s.0 s.1 s.2.agrees)
