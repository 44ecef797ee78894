-- After the beginning the main thread can run, and no line is shown yet.
use Rattle.std.proofs.Common.{◌≡◌, ℕ, zero, suc, ◌<◌, List, [], ◌∷◌, ◌++◌, map, None, Bool, true, cond, refl, ap, ◌∙◌, arith}
use Rattle.std.specs.Prelude.{◌&&◌, filter, flat_map}
use Rattle.std.proofs.lemmas.Bool.{lt-ltb, ne_eqb}
use Rattle.slot_space.specs.Sets.{run}
use Rattle.run_trace.specs.declared.entry.Act.{Act}
use Rattle.run_trace.specs.declared.entry.Act.TheVariants.{Run}
use Rattle.run_trace.specs.Cluster.{Net}
use Rattle.run_trace.specs.Console.{console_of, shown_by_all}
use Rattle.run_trace.specs.Legality.{Legal, first_labels, boot_entries}
use Rattle.run_trace.specs.Names.{tid}
use Rattle.run_trace.specs.Program.{Program, nodes_of, processors_of, tree_of, main_priority}
use Rattle.levels.specs.Choice.{has_ready}
use Rattle.bubbles.specs.Forests.{ForestView, empty_forest, enters}
use Rattle.run_trace.specs.Rules.{spots_of}
use Rattle.run_trace.specs.Spots.{at_first, after_labels}
use Rattle.run_trace.specs.Stands.{Stands}
use Rattle.trace_laws.proofs.Lemmas.{stands_after}
use Rattle.cluster.specs.Acts.{has_pick, acts_of, runs_of, takes_of, moves_of, possible_acts}
use Rattle.cluster.specs.Standing.{net_after}
use Rattle.simulation.specs.Drawn.{possible_after}

no_labels : (p : Program) (n : ℕ) → first_labels p (suc n) ≡ []
no_labels p n = rw (ne_eqb (suc n) 0 (λ e. omega (arith, e))) refl

-- the main thread is on the root list of node 0, alone
main_alone : (p : Program) (n : ℕ) → (spots_of p (at_first p) (boot_entries p (suc n))).forests 0 ≡ enters (tid 0 0) main_priority None (empty_forest (tree_of p))
main_alone p zero = refl
main_alone p (suc n) =
    ap (λ ls. (after_labels p (suc n) ls (spots_of p (at_first p) (boot_entries p (suc n)))).forests 0) (no_labels p n) ∙ main_alone p n

pub nothing_shown : (p : Program) (n : ℕ) → console_of p (at_first p) (boot_entries p n) ≡ []
nothing_shown p zero = refl
nothing_shown p (suc zero) = refl
nothing_shown p (suc (suc n)) =
    ap (λ ls. console_of p (at_first p) (boot_entries p (suc n)) ++ shown_by_all p (suc n) ls (spots_of p (at_first p) (boot_entries p (suc n)))) (no_labels p n)
    ∙ ap (λ (bytes : List ℕ). bytes ++ []) (nothing_shown p (suc n))

-- where processor 0 of node 0 has a pick, an act is possible
runs_possible : (moves : Bool) (p : Program) (net : Net) (n m : ℕ) → nodes_of p ≡ suc n → processors_of p ≡ suc m → has_pick p net 0 0 ≡ true → possible_acts moves p net ≡ [] → ⊥
unfolding run
runs_possible moves p net n m count many pick none =
    let acts : possible_acts moves p net ≡ flat_map (λ k. acts_of moves p net k) (run 0 (suc n)) = ap (λ k. flat_map (λ k. acts_of moves p net k) (run 0 k)) count in
    let more : List (ℕ × Act) = map (λ vp. (0, Run vp p.setup.quantum)) (filter (λ vp. has_pick p net 0 vp) (run 1 m)) in
    let runs : runs_of p net 0 ≡ (0, Run 0 p.setup.quantum) ∷ more =
    ap (λ k. map (λ vp. (0, Run vp p.setup.quantum)) (filter (λ vp. has_pick p net 0 vp) (run 0 k))) many
    ∙ ap (λ b. map (λ vp. (0, Run vp p.setup.quantum)) (cond b (0 ∷ filter (λ vp. has_pick p net 0 vp) (run 1 m)) (filter (λ vp. has_pick p net 0 vp) (run 1 m)))) pick in
    let all : possible_acts moves p net ≡ (((0, Run 0 p.setup.quantum) ∷ more) ++ (takes_of p net 0 ++ moves_of moves p net 0)) ++ flat_map (λ k. acts_of moves p net k) (run 1 n) =
    acts ∙ ap (λ (xs : List (ℕ × Act)). (xs ++ (takes_of p net 0 ++ moves_of moves p net 0)) ++ flat_map (λ k. acts_of moves p net k) (run 1 n)) runs in
    cc (all, none)

-- processor 0 of node 0 has a pick, since the main thread is there
pub main_listed : (p : Program) → Legal p (boot_entries p (nodes_of p)) → has_pick p (net_after p (boot_entries p (nodes_of p))) 0 0 ≡ true
main_listed p legal =
    ap (λ b. b && has_ready forest.lists.tree 0 forest.lists.rows) (lt-ltb 0 (processors_of p) p.setup.some_processor)
    ∙ ap (λ (f : ForestView). has_ready f.lists.tree 0 f.lists.rows) ((stands.nodes 0).forest ∙ told (nodes_of p) refl)
  where
    forest : ForestView
    forest = ((net_after p (boot_entries p (nodes_of p))).nodes 0).forest

    stands : Stands p (spots_of p (at_first p) (boot_entries p (nodes_of p))) (net_after p (boot_entries p (nodes_of p)))
    stands = stands_after p (boot_entries p (nodes_of p)) legal.runs

    told : (k : ℕ) → nodes_of p ≡ k → (spots_of p (at_first p) (boot_entries p (nodes_of p))).forests 0 ≡ enters (tid 0 0) main_priority None (empty_forest (tree_of p))
    told zero e = absurd (omega (arith, e, p.setup.geometry.some_node))
    told (suc n) e = ap (λ m. (spots_of p (at_first p) (boot_entries p m)).forests 0) e ∙ main_alone p n

pub begins_possible : (moves : Bool) (p : Program) → Legal p (boot_entries p (nodes_of p)) → possible_after moves p (boot_entries p (nodes_of p)) ≡ [] → ⊥
begins_possible moves p legal none = by (nodes_of p) (processors_of p) refl refl
  where
    by : (k j : ℕ) → nodes_of p ≡ k → processors_of p ≡ j → ⊥
    by zero j e f = omega (arith, e, p.setup.geometry.some_node)
    by (suc n) zero e f = omega (arith, f, p.setup.some_processor)
    by (suc n) (suc m) e f = runs_possible moves p (net_after p (boot_entries p (nodes_of p))) n m e f (main_listed p legal) none
