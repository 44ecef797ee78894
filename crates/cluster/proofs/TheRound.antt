-- What a round side by side asks of a cluster, and what comes of it.
use Rattle.std.proofs.Common.{◌≡◌, ℕ, ◌+◌, ◌-◌, ◌^◌, ◌<◌, ◌≤◌, All, List, ◌++◌, length, map, min, Some, refl, sym, ap, ◌∙◌, subst, arith}
use Rattle.std.specs.Prelude.{slice_get}
use Rattle.run_trace.specs.declared.entry.Entry.{Entry}
use Rattle.run_trace.specs.declared.packet.Packet.{Packet}
use Rattle.run_trace.specs.Histories.{Turn}
use Rattle.run_trace.specs.Program.{Program}
use Rattle.wires.specs.declared.ends.Ends.{Ends}
use Rattle.wires.specs.Wires.{AreWired}
use Rattle.basics.proofs.Lemmas.{some_at}
use Rattle.node_loop.specs.Turns.{entry_limit}
use Rattle.node_loop.specs.View.{NodeView, raised}
use Rattle.cluster.specs.Between.{AllOf, wires_in}
use Rattle.cluster.specs.Gathering.{AreGathered, GathersAfter, entries_in}
use Rattle.cluster.specs.Rounds.{AddsRound, HasRoomForRound, LosesRound, round_limit}
use Rattle.cluster.specs.SideBySide.{HaveRounded, HaveStopped, MayRound, entries_together}
use Rattle.cluster.specs.Standing.{StandsFor, IsStanding}
use Rattle.cluster.specs.View.{ClusterView, greatest_clock, last_clock, view_of}
use Rattle.cluster.proofs.Acting.{all_still, get_raised, raised_length, read_some}
use Rattle.cluster.proofs.Clocks.{few_entries}
use Rattle.cluster.proofs.Runs.{few_turns}
use Rattle.cluster.proofs.SideAdds.{adds, together_few, together_now}
use Rattle.cluster.proofs.SideDriven.{ran_all}
use Rattle.cluster.proofs.SideLoses.{loses}
use Rattle.cluster.proofs.SideRuns as side
use Rattle.cluster.proofs.TheStep.{raised_to}

abbrev pub Law : Type 0
Law = (p : Program) (old : List Entry) (clock round : ℕ) (clocks : ℕ → ℕ) (turns : List Turn) → GathersAfter p old clock round clocks turns → AreGathered p old turns

-- ## What it asks

all_may : (clock : ℕ) (vs : List NodeView) → ((n : ℕ) (v : NodeView) → slice_get vs n ≡ Some v → MayRound (raised clock v)) → All MayRound (map (raised clock) vs)
all_may clock vs h = λ k d l.
    let v = some_at vs k (omega (arith, l, raised_length clock vs)) in
    subst (λ z. MayRound z) (sym (read_some (map (raised clock) vs) k d (raised clock v.0) (get_raised clock vs k v.0 v.1))) (h k v.0 v.1)

module _ (c : ClusterView) (before kept : List Entry) (s : StandsFor c before kept) (room : HasRoomForRound c) where
  may : (clock n : ℕ) (v : NodeView) → slice_get c.nodes n ≡ Some v → MayRound (raised clock v)
  may clock n v e =
      let node = s.agrees.node n v e in
      record {
        entries = omega (arith, room n v e);
        some_quantum = subst (λ (q : Program). 0 < q.setup.quantum) (sym node.program) s.agrees.some_quantum;
        bounded_quantum = omega (arith, ap (λ (q : Program). q.setup.quantum) node.program, s.agrees.bounded_quantum);
        booted = node.booted;
      }

  few_before : entries_together c.nodes ≤ 16000000
  few_before = omega (arith, together_few round_limit c.nodes room, s.agrees.count, c.program.setup.geometry.few_nodes)

-- ## What it adds

module _ (c : ClusterView) (before kept : List Entry) (s : StandsFor c before kept) (room : HasRoomForRound c) (nodes : List NodeView) (h : HaveRounded (greatest_clock c.nodes) c.rest c.nodes nodes) (law : Law) where
  abbrev top : ℕ
  top = greatest_clock c.nodes

  many : entries_together nodes ≡ entries_together c.nodes + length (entries_in (side.turns c before kept s nodes h))
  many = together_now c before kept s room nodes h law

  done : (m : ℕ) → m ≡ entries_together nodes - entries_together c.nodes → AddsRound c before kept (view_of c.program (c.turns + m) nodes c.rest)
  done m e =
      let same : length (entries_in (side.turns c before kept s nodes h)) ≡ m = omega (arith, e, many) in
      subst (λ k. AddsRound c before kept (view_of c.program (c.turns + k) nodes c.rest)) same (adds c before kept s room nodes h law)

  not_fewer : entries_together c.nodes ≤ entries_together nodes
  not_fewer = omega (arith, many)

  few_after : entries_together nodes ≤ 16000000
  few_after =
      let r = adds c before kept s room nodes h law in
      omega (arith, together_few entry_limit nodes (λ n v e. (r.stands.agrees.node n v e).few), r.stands.agrees.count, c.program.setup.geometry.few_nodes)

  few_turns_now : (m : ℕ) → m ≡ entries_together nodes - entries_together c.nodes → c.turns + m < 2 ^ 64
  few_turns_now m e =
      let r = done m e in
      omega (arith, r.stands.agrees.turns, few_turns (r.entries ++ kept), few_entries (view_of c.program (c.turns + m) nodes c.rest) before (r.entries ++ kept) r.stands.agrees)

-- the programs and how many nodes there are stay
pub rounded_all : (p : Program) (clock : ℕ) (rest : List (Ends Packet)) (old now : List NodeView) → AllOf p old → HaveRounded clock rest old now → AllOf p now
rounded_all p clock rest old now a h =
    all_still p h.ran now (ran_all p clock old (map (raised clock) old) h.ran refl (omega (arith, h.count, raised_length clock old)) h.each a) h.settled.nodes

pub stopped_all : (p : Program) (clock : ℕ) (old now : List NodeView) → AllOf p old → HaveStopped clock old now → AllOf p now
stopped_all p clock old now a h = ran_all p clock old (map (raised clock) old) now refl (omega (arith, h.count, raised_length clock old)) h.each a

pub rounded_long : (clock : ℕ) (rest : List (Ends Packet)) (old now : List NodeView) → HaveRounded clock rest old now → length now ≡ length old
rounded_long clock rest old now h = h.settled.nodes.count ∙ h.count

-- ## In the words of the code: p, turns, vs and rest are the parts of the cluster, and us, rs and ws the same on the way

module _ (p : Program) (turns : ℕ) (vs : List NodeView) (rest : List (Ends Packet)) (now : ClusterView) (is : view_of p turns vs rest ≡ now) where
  abbrev parts : ClusterView
  parts = view_of p turns vs rest

  -- what is asked of the cluster is asked of its parts
  by_parts : (Q : ClusterView → Type 0) → ((before kept : List Entry) → StandsFor parts before kept → HasRoomForRound parts → Q parts) → (before kept : List Entry) → StandsFor now before kept → HasRoomForRound now → Q now
  by_parts Q h = subst (λ o. (before kept : List Entry) → StandsFor o before kept → HasRoomForRound o → Q o) is h

  pub asks_few : (us : List NodeView) → us ≡ vs → IsStanding now → HasRoomForRound now → entries_together us < 2 ^ 64
  asks_few us e s room = by_parts (λ o. entries_together us < 2 ^ 64) (λ before kept st r. omega (arith, ap entries_together e, few_before parts before kept st r)) s.0 s.1 s.2 room

  pub asks_may : (us : List NodeView) (clock : ℕ) → us ≡ vs → IsStanding now → HasRoomForRound now → All MayRound (map (raised clock) us)
  asks_may us clock e s room = by_parts (λ o. All MayRound (map (raised clock) us))
      (λ before kept st r. subst (λ zs. All MayRound (map (raised clock) zs)) (sym e) (all_may clock vs (may parts before kept st r clock))) s.0 s.1 s.2 room

  pub asks_wired : (us : List NodeView) (rs : List (Ends Packet)) → us ≡ vs → rs ≡ rest → IsStanding now → HasRoomForRound now → AreWired (wires_in us rs)
  asks_wired us rs e f s room = by_parts (λ o. AreWired (wires_in us rs))
      (λ before kept st r. subst (λ zs. AreWired (wires_in zs rs)) (sym e) (subst (λ es. AreWired (wires_in vs es)) (sym f) st.agrees.trace.wired)) s.0 s.1 s.2 room

  module _ (us : List NodeView) (rs : List (Ends Packet)) (ws ys : List NodeView) (clock : ℕ) (ue : us ≡ vs) (re : rs ≡ rest) (ye : ys ≡ vs) (k : clock ≡ min (greatest_clock ys) last_clock) where
    pub right_err : HaveStopped clock us ws → (items : List NodeView) → items ≡ ws → (before kept : List Entry) → StandsFor now before kept → HasRoomForRound now → LosesRound now (view_of p turns items rest) kept
    right_err h items same before kept s room = by_kept (λ st. subst (λ zs. LosesRound parts (view_of p turns zs rest) kept) (sym same)
        (loses parts before kept st ws (subst (λ n. HaveStopped n vs ws) (raised_to parts before kept st ys clock ye k) (subst (λ zs. HaveStopped clock zs ws) ue h))))
      where
        by_kept : (StandsFor parts before kept → LosesRound parts (view_of p turns items rest) kept) → LosesRound now (view_of p turns items rest) kept
        by_kept f = (subst (λ o. StandsFor o before kept → LosesRound o (view_of p turns items rest) kept) is f) s

    module _ (h : HaveRounded clock rs us ws) (law : Law) (items : List NodeView) (same : items ≡ ws) where
      rounded : (before kept : List Entry) → StandsFor parts before kept → HaveRounded (greatest_clock vs) rest vs items
      rounded before kept st =
          subst (λ zs. HaveRounded (greatest_clock vs) rest vs zs) (sym same)
          (subst (λ n. HaveRounded n rest vs ws) (raised_to parts before kept st ys clock ye k)
          (subst (λ es. HaveRounded clock es vs ws) re (subst (λ zs. HaveRounded clock rs zs ws) ue h)))

      pub asks_few_after : (zs : List NodeView) → zs ≡ items → IsStanding now → HasRoomForRound now → entries_together zs < 2 ^ 64
      asks_few_after zs e s room = by_parts (λ o. entries_together zs < 2 ^ 64)
          (λ before kept st r. omega (arith, ap entries_together e, few_after parts before kept st r items (rounded before kept st) law)) s.0 s.1 s.2 room

      module _ (after first : ℕ) (a : after ≡ entries_together items) (f : first ≡ entries_together vs) where
        pub asks_more : IsStanding now → HasRoomForRound now → first ≤ after
        asks_more s room = by_parts (λ o. first ≤ after)
            (λ before kept st r. omega (arith, a, f, not_fewer parts before kept st r items (rounded before kept st) law)) s.0 s.1 s.2 room

        pub asks_turns : IsStanding now → HasRoomForRound now → turns + (after - first) < 2 ^ 64
        asks_turns s room = by_parts (λ o. turns + (after - first) < 2 ^ 64)
            (λ before kept st r. few_turns_now parts before kept st r items (rounded before kept st) law (after - first) (omega (arith, a, f))) s.0 s.1 s.2 room

        pub right_round : HasRoomForRound now → (before kept : List Entry) → StandsFor now before kept → AddsRound now before kept (view_of p (turns + (after - first)) items rest)
        right_round room before kept s = (subst (λ o. StandsFor o before kept → HasRoomForRound o → AddsRound o before kept (view_of p (turns + (after - first)) items rest)) is
            (λ st r. done parts before kept st r items (rounded before kept st) law (after - first) (omega (arith, a, f)))) s room
