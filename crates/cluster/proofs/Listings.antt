-- The acts that the nodes list are the possible ones of the trace.
use Rattle.std.proofs.Common.{◌≡◌, ℕ, zero, suc, ◌+◌, ◌<◌, List, [], ◌∷◌, ◌++◌, length, map, Some, None, Bool, true, false, cond, refl, sym, ap, ◌∙◌, arith}
use Rattle.std.specs.Prelude.{⊤, nat_lt, filter, flat_map, slice_get}
use Rattle.std.proofs.lemmas.Option.{slice_get_within}
use Rattle.slot_space.specs.declared.names.Tid.{Tid}
use Rattle.slot_space.specs.Sets.{run}
use Rattle.run_trace.specs.declared.entry.Act.{Act}
use Rattle.run_trace.specs.declared.entry.Act.TheVariants.{Run, Take}
use Rattle.run_trace.specs.declared.entry.Entry.{Entry}
use Rattle.run_trace.specs.Cluster.{Net}
use Rattle.run_trace.specs.Local.{Local}
use Rattle.run_trace.specs.Program.{Program, nodes_of, processors_of}
use Rattle.node_state.specs.Listed.{listed}
use Rattle.node_loop.specs.View.{NodeView}
use Rattle.node_loop.specs.Turns.{can}
use Rattle.cluster.specs.Acts.{acts_of, has_pick, holds, moves_to, possible_acts, runs_of, takes_of}
use Rattle.cluster.specs.Between.{acts_by, moves_among, moves_by, runs_by, takes_from}
use Rattle.cluster.specs.Standing.{StandsFor, net_after}
use Rattle.cluster.specs.View.{ClusterView}
use Rattle.cluster.proofs.Linking.{can_is}

-- ## Lists over runs of numbers

filter_same : (f g : ℕ → Bool) (first count : ℕ) → ((i : ℕ) → i < first + count → f i ≡ g i) → filter f (run first count) ≡ filter g (run first count)
unfolding run
filter_same f g first zero h = refl
filter_same f g first (suc count) h =
    ap (λ b. cond b (first ∷ filter f (run (suc first) count)) (filter f (run (suc first) count))) (h first (omega arith))
    ∙ ap (λ xs. cond (g first) (first ∷ xs) xs) (filter_same f g (suc first) count (λ i l. h i (omega (arith, l))))

flat_same : {A : Type 0} (f : NodeView → List A) (g : ℕ → List A) (vs : List NodeView) (first : ℕ) → ((k : ℕ) (v : NodeView) → slice_get vs k ≡ Some v → f v ≡ g (first + k))
    → flat_map f vs ≡ flat_map g (run first (length vs))
unfolding run
flat_same f g [] first h = refl
flat_same f g (v ∷ vs) first h =
    let here : first + 0 ≡ first = omega arith in
    ap (λ xs. xs ++ flat_map f vs) (h 0 v refl ∙ ap g here)
    ∙ ap (λ xs. g first ++ xs) (flat_same f g vs (suc first) (λ k w e. let next : first + suc k ≡ suc first + k = omega arith in h (suc k) w e ∙ ap g next))

module _ (c : ClusterView) (before kept : List Entry) (s : StandsFor c before kept) where
  abbrev p : Program
  p = c.program

  abbrev trace : List Entry
  trace = kept ++ before

  abbrev net : Net
  net = net_after p trace

  acts_same : (moves : Bool) (n : ℕ) (v : NodeView) → slice_get c.nodes n ≡ Some v → acts_by moves v ≡ acts_of moves p net n
  acts_same moves n v at =
      ap (λ xs. xs ++ (takes_from v (run 0 (nodes_of v.program)) ++ cond moves (moves_by v) [])) run_same
      ∙ ap (λ xs. runs_of p net n ++ (xs ++ cond moves (moves_by v) [])) take_same
      ∙ ap (λ xs. runs_of p net n ++ (takes_of p net n ++ cond moves xs [])) move_same
    where
      ln : n < nodes_of p
      ln = omega (arith, s.agrees.count, slice_get_within c.nodes n v at)

      me : v.me ≡ n
      me = (s.agrees.node n v at).me

      program : v.program ≡ p
      program = (s.agrees.node n v at).program

      state : (net.nodes n) ≡ v.state
      state = (s.agrees.node n v at).state

      run_same : runs_by v ≡ runs_of p net n
      run_same =
          ap (λ m. map {B = ℕ × Act} (λ vp. (m, Run vp v.program.setup.quantum)) (filter (λ vp. can v (Run vp v.program.setup.quantum)) (run 0 (processors_of v.program)))) me
          ∙ ap (λ (q : Program). map {B = ℕ × Act} (λ vp. (n, Run vp q.setup.quantum)) (filter (λ vp. can v (Run vp q.setup.quantum)) (run 0 (processors_of q)))) program
          ∙ ap (λ vps. map {B = ℕ × Act} (λ vp. (n, Run vp p.setup.quantum)) vps)
          (filter_same (λ vp. can v (Run vp p.setup.quantum)) (λ vp. has_pick p net n vp) 0 (processors_of p)
          (λ vp l. can_is c before kept s n v at ln (Run vp p.setup.quantum) (omega (arith, l), s.agrees.some_quantum, s.agrees.bounded_quantum)))

      take_same : takes_from v (run 0 (nodes_of v.program)) ≡ takes_of p net n
      take_same =
          ap (λ m. map {B = ℕ × Act} (λ i. (m, Take i)) (filter (λ i. can v (Take i)) (run 0 (nodes_of v.program)))) me
          ∙ ap (λ (q : Program). map {B = ℕ × Act} (λ i. (n, Take i)) (filter (λ i. can v (Take i)) (run 0 (nodes_of q)))) program
          ∙ ap (λ is. map {B = ℕ × Act} (λ i. (n, Take i)) is) (filter_same (λ i. can v (Take i)) (λ i. holds (net.links i n)) 0 (nodes_of p) (λ i l. can_is c before kept s n v at ln (Take i) (omega (arith, l))))

      move_same : moves_by v ≡ flat_map (λ t. moves_to p n t) (listed (net.nodes n))
      move_same =
          ap (λ m. flat_map (λ t. moves_among m t (run 0 (nodes_of v.program))) (listed v.state)) me
          ∙ ap (λ (q : Program). flat_map (λ t. moves_among n t (run 0 (nodes_of q))) (listed v.state)) program
          ∙ ap (λ (l : Local). flat_map (λ t. moves_among n t (run 0 (nodes_of p))) (listed l)) (sym state)

  pub all_acts : (moves : Bool) → flat_map (λ v. acts_by moves v) c.nodes ≡ possible_acts moves p net
  all_acts moves =
      flat_same (λ v. acts_by moves v) (acts_of moves p net) c.nodes 0 (λ k v e. let z : 0 + k ≡ k = omega arith in acts_same moves k v e ∙ ap (acts_of moves p net) (sym z))
      ∙ ap (λ k. flat_map (acts_of moves p net) (run 0 k)) s.agrees.count
