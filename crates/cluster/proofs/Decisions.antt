-- What is decided on the nodes is so of the trace.
use Rattle.std.proofs.Common.{◌≡◌, ◌≢◌, ℕ, zero, suc, ◌+◌, ◌<◌, ◌≤◌, inl, inr, List, [], ◌∷◌, ◌++◌, length, map, Some, None, Bool, true, false, cond, is_some, refl, sym, ap, ◌∙◌, subst, arith}
use Rattle.std.specs.Prelude.{nat_lt, ◌||◌, ◌&&◌, filter, flat_map, slice_get}
use Rattle.std.specs.Map.{lookup}
use Rattle.std.proofs.lemmas.Bool.{lt-ltb}
use Rattle.std.proofs.lemmas.Option.{slice_get_within}
use Rattle.slot_space.specs.declared.names.Tid.{Tid}
use Rattle.slot_space.specs.Sets.{run}
use Rattle.run_trace.specs.declared.entry.Act.{Act}
use Rattle.run_trace.specs.declared.entry.Act.TheVariants.{Run, Take}
use Rattle.run_trace.specs.declared.entry.Entry.{Entry}
use Rattle.run_trace.specs.declared.packet.Packet.{Packet}
use Rattle.run_trace.specs.Cluster.{Net}
use Rattle.run_trace.specs.Guests.{Thread}
use Rattle.run_trace.specs.Local.{Local, fresh}
use Rattle.run_trace.specs.Names.{is_tid}
use Rattle.run_trace.specs.Outcome.{AllLinksEmpty, Lives}
use Rattle.run_trace.specs.Program.{Program, nodes_of, processors_of}
use Rattle.levels.specs.Trees.{Tree}
use Rattle.levels.specs.Rows.{Row}
use Rattle.levels.specs.Choice.{has_ready}
use Rattle.run_trace.specs.Rules.{spots_of}
use Rattle.run_trace.specs.Spots.{Spots, at_first}
use Rattle.run_trace.specs.Stands.{Stands}
use Rattle.trace_laws.proofs.Lemmas.{Inside, run_inside, some_processor, tree_there, stuck, is_somewhere, lives_there, halts_are, stands_after}
use Rattle.run_trace.proofs.Lemmas.{is-refl}
use Rattle.basics.proofs.Lemmas.{by_eq, by_less, some_at}
use Rattle.node_loop.specs.View.{NodeView}
use Rattle.node_loop.specs.Turns.{can}
use Rattle.cluster.specs.Acts.{holds, has_pick, runs_of, takes_of, moves_of, acts_of}
use Rattle.cluster.specs.Between.{any_of, decided, has_halted, has_row, has_thread, knows_of, knows_packet}
use Rattle.cluster.specs.Outcomes.{IsDoneAt, GoesOn, IsAt}
use Rattle.cluster.specs.Standing.{StandsFor, net_after}
use Rattle.cluster.specs.View.{ClusterView}
use Rattle.cluster.specs.declared.deciding.State.{State}
use Rattle.cluster.proofs.Linking.{can_is}

-- ## Some and none

record Some_of (test : NodeView → Bool) (vs : List NodeView) : Type 0 where
  place : ℕ
  node : NodeView
  at : slice_get vs place ≡ Some node
  so : test node ≡ true

any_some : (test : NodeView → Bool) (vs : List NodeView) → any_of test vs ≡ true → Some_of test vs
any_some test [] e = absurd (cc e)
any_some test (v ∷ vs) e = by (test v) refl e (any_some test vs)
  where
    by : (b : Bool) → test v ≡ b → (b || any_of test vs) ≡ true → (any_of test vs ≡ true → Some_of test vs) → Some_of test (v ∷ vs)
    by true h k more = record { place = 0; node = v; at = refl; so = h }
    by false h k more = let m = more k in record { place = suc m.place; node = m.node; at = m.at; so = m.so }

any_none : (test : NodeView → Bool) (vs : List NodeView) → any_of test vs ≡ false → (n : ℕ) (v : NodeView) → slice_get vs n ≡ Some v → test v ≡ false
any_none test [] e n v h = absurd (cc h)
any_none test (u ∷ us) e n v h = by (test u) refl e n h (any_none test us)
  where
    by : (b : Bool) → test u ≡ b → (b || any_of test us) ≡ false → (m : ℕ) → slice_get (u ∷ us) m ≡ Some v
        → (any_of test us ≡ false → (k : ℕ) (w : NodeView) → slice_get us k ≡ Some w → test w ≡ false) → test v ≡ false
    by true k l m g more = absurd (cc l)
    by false k l zero g more = let same : u ≡ v = cc g in sym (ap test same) ∙ k
    by false k l (suc m) g more = more l m v g

record Known (v : NodeView) (first count : ℕ) : Type 0 where
  sender : ℕ
  below : sender < first + count
  so : can v (Take sender) ≡ true

knows_some : (v : NodeView) (first count : ℕ) → knows_of v (run first count) ≡ true → Known v first count
unfolding run
knows_some v first zero e = absurd (cc e)
knows_some v first (suc count) e = by (can v (Take first)) refl e (knows_some v (suc first) count)
  where
    by : (b : Bool) → can v (Take first) ≡ b → (b || knows_of v (run (suc first) count)) ≡ true → (knows_of v (run (suc first) count) ≡ true → Known v (suc first) count) → Known v first (suc count)
    by true h k more = record { sender = first; below = omega arith; so = h }
    by false h k more = let m = more k in record { sender = m.sender; below = omega (arith, m.below); so = m.so }

knows_none : (v : NodeView) (first count : ℕ) → knows_of v (run first count) ≡ false → (i : ℕ) → first ≤ i → i < first + count → can v (Take i) ≡ false
unfolding run
knows_none v first zero e i l m = absurd (omega arith)
knows_none v first (suc count) e i l m = by (can v (Take first)) refl e (knows_none v (suc first) count)
  where
    by : (b : Bool) → can v (Take first) ≡ b → (b || knows_of v (run (suc first) count)) ≡ false
        → (knows_of v (run (suc first) count) ≡ false → (k : ℕ) → suc first ≤ k → k < suc first + count → can v (Take k) ≡ false) → can v (Take i) ≡ false
    by true h k more = absurd (cc k)
    by false h k more = by_eq i first (λ s. ap (λ z. can v (Take z)) s ∙ h) (λ ne. more k i (omega (arith, l, ne)) (omega (arith, m)))

-- ## Lists that aren't empty

front_some : {A : Type 0} (xs ys : List A) → xs ≢ [] → xs ++ ys ≢ []
front_some [] ys h e = h refl
front_some (x ∷ xs) ys h e = absurd (cc e)

back_some : {A : Type 0} (xs ys : List A) → ys ≢ [] → xs ++ ys ≢ []
back_some [] ys h e = h e
back_some (x ∷ xs) ys h e = absurd (cc e)

flat_some : {A : Type 0} (f : ℕ → List A) (first count j : ℕ) → first ≤ j → j < first + count → f j ≢ [] → flat_map f (run first count) ≢ []
unfolding run
flat_some f first zero j l m h = absurd (omega arith)
flat_some f first (suc count) j l m h = by_eq j first
    (λ s. front_some (f first) (flat_map f (run (suc first) count)) (subst (λ k. f k ≢ []) s h))
    (λ ne. back_some (f first) (flat_map f (run (suc first) count)) (flat_some f (suc first) count j (omega (arith, l, ne)) (omega (arith, m)) h))

filter_some : {A : Type 0} (f : ℕ → A) (test : ℕ → Bool) (first count j : ℕ) → first ≤ j → j < first + count → test j ≡ true → map f (filter test (run first count)) ≢ []
unfolding run
filter_some f test first zero j l m h = absurd (omega arith)
filter_some f test first (suc count) j l m h = by (test first) refl (λ a b. filter_some f test (suc first) count j a b h)
  where
    by : (b : Bool) → test first ≡ b → (suc first ≤ j → j < suc first + count → map f (filter test (run (suc first) count)) ≢ [])
        → map f (cond b (first ∷ filter test (run (suc first) count)) (filter test (run (suc first) count))) ≢ []
    by true e more k = absurd (cc k)
    by false e more k = more (by_eq j first (λ s. absurd (cc (s, e, h))) (λ ne. omega (arith, l, ne))) (omega (arith, m)) k

no_rows_there : (rows : List Row) → nat_lt 0 (length rows) ≡ false → rows ≡ []
no_rows_there [] e = refl
no_rows_there (r ∷ rs) e = let some : nat_lt 0 (length (r ∷ rs)) ≡ true = lt-ltb 0 (length (r ∷ rs)) (omega arith) in absurd (cc (some, e))

no_threads_there : (ts : List (Tid × Thread)) → nat_lt 0 (length ts) ≡ false → ts ≡ []
no_threads_there [] e = refl
no_threads_there (r ∷ rs) e = let some : nat_lt 0 (length (r ∷ rs)) ≡ true = lt-ltb 0 (length (r ∷ rs)) (omega arith) in absurd (cc (some, e))

none_held : (ps : List Packet) → holds ps ≡ false → ps ≡ []
none_held [] e = refl
none_held (p ∷ ps) e = absurd (cc e)

module _ (c : ClusterView) (before kept : List Entry) (s : StandsFor c before kept) where
  abbrev p : Program
  p = c.program

  abbrev trace : List Entry
  trace = kept ++ before

  abbrev net : Net
  net = net_after p trace

  abbrev w : Spots
  w = spots_of p (at_first p) trace

  stands : Stands p w net
  stands = stands_after p trace s.agrees.legal.runs

  inside : Inside p w net
  inside = run_inside p trace s.agrees.legal.runs

  below : (n : ℕ) (v : NodeView) → slice_get c.nodes n ≡ Some v → n < nodes_of p
  below n v at = omega (arith, s.agrees.count, slice_get_within c.nodes n v at)

  -- each node is one of the nodes, or as at first
  at_node : (P : Local → Type 0) (n : ℕ) → ((v : NodeView) → slice_get c.nodes n ≡ Some v → P v.state) → P (fresh p n) → P (net.nodes n)
  at_node P n here first = by_less n (nodes_of p)
      (λ l. let v = some_at c.nodes n (omega (arith, l, s.agrees.count)) in subst (λ z. P z) (sym (s.agrees.node n v.0 v.1).state) (here v.0 v.1))
      (λ past. subst (λ z. P z) (sym (inside.nodes n past)) first)

  no_rows : any_of has_row c.nodes ≡ false → (n : ℕ) → (net.nodes n).forest.lists.rows ≡ []
  no_rows e n = at_node (λ l. l.forest.lists.rows ≡ []) n (λ v at. no_rows_there v.state.forest.lists.rows (any_none has_row c.nodes e n v at)) refl

  not_halted : any_of has_halted c.nodes ≡ false → (n : ℕ) → (net.nodes n).halted ≡ false
  not_halted e n = at_node (λ l. l.halted ≡ false) n (λ v at. any_none has_halted c.nodes e n v at) refl

  no_threads : any_of has_thread c.nodes ≡ false → (n : ℕ) → (net.nodes n).threads ≡ []
  no_threads e n = at_node (λ l. l.threads ≡ []) n (λ v at. no_threads_there v.state.threads (any_none has_thread c.nodes e n v at)) refl

  no_packets : any_of knows_packet c.nodes ≡ false → AllLinksEmpty net
  no_packets e i j = by_less i (nodes_of p) (λ li. by_less j (nodes_of p) (λ lj. both li lj) (λ past. inside.links i j (inr past))) (λ past. inside.links i j (inl past))
    where
      both : i < nodes_of p → j < nodes_of p → net.links i j ≡ []
      both li lj =
          let v = some_at c.nodes j (omega (arith, lj, s.agrees.count)) in
          let within : i < nodes_of v.0.program = subst (λ (q : Program). i < nodes_of q) (sym (s.agrees.node j v.0 v.1).program) li in
          let unknown : can v.0 (Take i) ≡ false = knows_none v.0 0 (nodes_of v.0.program) (any_none knows_packet c.nodes e j v.0 v.1) i (omega arith) (omega (arith, within)) in
          none_held (net.links i j) (sym (can_is c before kept s j v.0 v.1 lj (Take i) li) ∙ unknown)

  none_lives : any_of has_thread c.nodes ≡ false → AllLinksEmpty net → (t : Tid) → Lives (w.threads t).life → ⊥
  none_lives e empty t l =
      let here = is_somewhere p w net stands empty t l in
      let none : lookup (is_tid t) (net.nodes here.0).threads ≡ None = ap (λ es. lookup (is_tid t) es) (no_threads e here.0) in
      cc (none, here.2)

  -- the first thread of a node lives
  one_lives : Some_of has_thread c.nodes → (t : Tid) × Lives (w.threads t).life
  one_lives m = by m.node.state.threads refl m.so
    where
      by : (ts : List (Tid × Thread)) → m.node.state.threads ≡ ts → nat_lt 0 (length ts) ≡ true → (t : Tid) × Lives (w.threads t).life
      by [] h l = absurd (cc l)
      by (e ∷ es) h l =
          let found : lookup (is_tid e.0) m.node.state.threads ≡ Some e.1 = ap (λ xs. lookup (is_tid e.0) xs) h ∙ ap (λ b. cond b (Some e.1) (lookup (is_tid e.0) es)) (is-refl e.0) in
          (e.0, lives_there p w net stands e.0 m.place e.1 (ap (λ (z : Local). lookup (is_tid e.0) z.threads) (s.agrees.node m.place m.node m.at).state ∙ found))

  done_by_halt : Some_of has_halted c.nodes → IsDoneAt p trace
  done_by_halt m = inl (m.place, sym (halts_are p w net stands m.place) ∙ ap (λ (z : Local). z.halted) (s.agrees.node m.place m.node m.at).state ∙ m.so)

  not_done : ((n : ℕ) → (net.nodes n).halted ≡ false) → (AllLinksEmpty net → (t : Tid) × Lives (w.threads t).life) → IsDoneAt p trace → ⊥
  not_done h some d = elim d as (λ z. ⊥) [ inl k ↦ absurd (cc (h k.0, halts_are p w net stands k.0, k.1)) | inr k ↦ (let l = some k.1 in k.0 l.0 l.1) ]

  goes_by_packet : ((n : ℕ) → (net.nodes n).halted ≡ false) → Some_of knows_packet c.nodes → GoesOn p trace
  goes_by_packet h m =
      let known : Known m.node 0 (nodes_of m.node.program) = knows_some m.node 0 (nodes_of m.node.program) m.so in
      let j : ℕ = m.place in
      let lj : j < nodes_of p = below j m.node m.at in
      let i : ℕ = known.sender in
      let li : i < nodes_of p = subst (λ (q : Program). i < nodes_of q) (s.agrees.node j m.node m.at).program (omega (arith, known.below)) in
      let held : holds (net.links i j) ≡ true = sym (can_is c before kept s j m.node m.at lj (Take i) li) ∙ known.so in
      let full : net.links i j ≡ [] → ⊥ = λ e. (let none : holds (net.links i j) ≡ false = ap holds e in cc (held, none)) in
      record {
        not_done = not_done h (λ none. absurd (full (none i j)));
        not_stuck = λ k. full (k.links i j);
        possible = λ moves. flat_some (acts_of moves p net) 0 (nodes_of p) j (omega arith) (omega (arith, lj))
            (back_some (runs_of p net j) (takes_of p net j ++ moves_of moves p net j)
            (front_some (takes_of p net j) (moves_of moves p net j) (filter_some (λ i. (j, Take i)) (λ i. holds (net.links i j)) 0 (nodes_of p) i (omega arith) (omega (arith, li)) held)));
      }

  goes_by_row : ((n : ℕ) → (net.nodes n).halted ≡ false) → (t : Tid) × Lives (w.threads t).life → Some_of has_row c.nodes → GoesOn p trace
  goes_by_row h lives m =
      let n : ℕ = m.place in
      let ln : n < nodes_of p = below n m.node m.at in
      let some : nat_lt 0 (length (net.nodes n).forest.lists.rows) ≡ true = ap (λ (z : Local). nat_lt 0 (length z.forest.lists.rows)) (s.agrees.node n m.node m.at).state ∙ m.so in
      let full : (net.nodes n).forest.lists.rows ≡ [] → ⊥ = λ e. (let none : nat_lt 0 (length (net.nodes n).forest.lists.rows) ≡ false = ap (λ (rs : List Row). nat_lt 0 (length rs)) e in cc (some, none)) in
      let found = some_processor p w net stands n full in
      let vp : ℕ = found.0 in
      let pick : has_pick p net n vp ≡ true =
      ap (λ b. b && has_ready (net.nodes n).forest.lists.tree vp (net.nodes n).forest.lists.rows) (lt-ltb vp (processors_of p) found.1)
      ∙ ap (λ (z : Tree). has_ready z vp (net.nodes n).forest.lists.rows) (tree_there p w net stands n) ∙ found.2 in
      record {
        not_done = not_done h (λ none. lives);
        not_stuck = λ k. full (k.rows n);
        possible = λ moves. flat_some (acts_of moves p net) 0 (nodes_of p) n (omega arith) (omega (arith, ln))
            (front_some (runs_of p net n) (takes_of p net n ++ moves_of moves p net n) (filter_some (λ vp. (n, Run vp p.setup.quantum)) (λ vp. has_pick p net n vp) 0 (processors_of p) vp (omega arith) (omega (arith, found.1)) pick));
      }

  pub decided_right : IsAt p trace (decided (any_of has_halted c.nodes) (any_of knows_packet c.nodes) (any_of has_thread c.nodes) (any_of has_row c.nodes))
  decided_right = by (any_of has_halted c.nodes) refl (any_of knows_packet c.nodes) refl (any_of has_thread c.nodes) refl (any_of has_row c.nodes) refl
    where
      by : (h : Bool) → any_of has_halted c.nodes ≡ h → (k : Bool) → any_of knows_packet c.nodes ≡ k → (t : Bool) → any_of has_thread c.nodes ≡ t → (r : Bool) → any_of has_row c.nodes ≡ r
          → IsAt p trace (decided h k t r)
      by true he k ke t te r re = done_by_halt (any_some has_halted c.nodes he)
      by false he true ke t te r re = goes_by_packet (not_halted he) (any_some knows_packet c.nodes ke)
      by false he false ke true te true re = goes_by_row (not_halted he) (one_lives (any_some has_thread c.nodes te)) (any_some has_row c.nodes re)
      by false he false ke true te false re =
          let l = one_lives (any_some has_thread c.nodes te) in
          stuck p w net stands (no_rows re) (no_packets ke) (not_halted he) l.0 l.1
      by false he false ke false te r re = inr (none_lives te (no_packets ke), no_packets ke)

-- what is told of the same nodes, read four times
pub told_same : (vs a b d e : List NodeView) (h k t r : Bool) (x : State) → x ≡ decided h k t r → h ≡ any_of has_halted a → k ≡ any_of knows_packet b → t ≡ any_of has_thread d → r ≡ any_of has_row e
    → a ≡ vs → b ≡ vs → d ≡ vs → e ≡ vs → decided (any_of has_halted vs) (any_of knows_packet vs) (any_of has_thread vs) (any_of has_row vs) ≡ x
told_same vs a b d e h k t r x xe he ke te re ae be de ee =
    let hv : any_of has_halted vs ≡ h = ap (any_of has_halted) (sym ae) ∙ sym he in
    let kv : any_of knows_packet vs ≡ k = ap (any_of knows_packet) (sym be) ∙ sym ke in
    let tv : any_of has_thread vs ≡ t = ap (any_of has_thread) (sym de) ∙ sym te in
    let rv : any_of has_row vs ≡ r = ap (any_of has_row) (sym ee) ∙ sym re in
    ap (λ z. decided z (any_of knows_packet vs) (any_of has_thread vs) (any_of has_row vs)) hv ∙ ap (λ z. decided h z (any_of has_thread vs) (any_of has_row vs)) kv
    ∙ ap (λ z. decided h k z (any_of has_row vs)) tv ∙ ap (λ z. decided h k t z) rv ∙ sym xe
