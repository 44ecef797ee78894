-- Who has a place on a node's run lists or in its bubbles: each thread that is on the node and waits for nothing, and no other. And to whom the
-- choices of a processor come.
use Rattle.std.proofs.Common.{◌≡◌, ℕ, ◌<◌, ◌⊎◌, inl, inr, List, [], ◌∷◌, Option, None, Some, true, false, eqb, cond, refl, sym, ap, ◌∙◌, subst, arith}
use Rattle.std.specs.Prelude.{◌↔◌}
use Rattle.std.specs.Map.{lookup}
use Rattle.std.proofs.lemmas.Bool.{eq-eqb}
use Rattle.slot_space.specs.declared.names.Tid.{Tid}
use Rattle.levels.specs.Trees.{Tree, processors}
use Rattle.levels.specs.Choice.{has_ready}
use Rattle.bubbles.specs.declared.bubble.Shift.{Shift}
use Rattle.bubbles.specs.Forests.{ForestView}
use Rattle.bubbles.specs.Picking.{step, Picks}
use Rattle.bubbles.specs.Changes.{KeepsThreads, PicksEnd}
use Rattle.bubbles.specs.Standing.{IsForest, seats}
use Rattle.bubbles.specs.Covering.{AreCovered}
use Rattle.bubbles.proofs.Lemmas.{keeps_shift, step_taken, picks_end, some_ready}
use Rattle.run_trace.specs.Names.{is_tid}
use Rattle.run_trace.specs.Program.{Program, tree_of, processors_of}
use Rattle.run_trace.specs.Bubbles.{is_listed}
use Rattle.run_trace.specs.Guests.{Guest, Thread, waits, is_unwaiting}
use Rattle.run_trace.specs.Cluster.{Net}
use Rattle.run_trace.specs.Holding.{IsOn}
use Rattle.run_trace.specs.Items.{is_busy}
use Rattle.run_trace.specs.Spots.{Stage, Ready, Leaves, Departs, Life, On, Spots}
use Rattle.run_trace.specs.Stands.{Stands, seats_in_stage, seats_in_life, thread_in_life, thread_in_stage, wait_of}
use Rattle.trace_laws.proofs.Lists.Parts.{thread_was}
use Rattle.trace_laws.proofs.Lists.SeatedLabels
use Rattle.trace_laws.proofs.Lists.Seats.{seated_life, there_seats}
use Rattle.trace_laws.proofs.Lists.Stages.{is_resting, resting, rest_thread}
use Rattle.trace_laws.proofs.Outcomes.Wholes.{settled_at}
use Rattle.trace_laws.proofs.Outcomes.Consequences.{OnNode, on_node_is}
use Rattle.trace_laws.specs.Obeys.{IsSettled}

-- one that stays where it is has a place exactly where it waits for nothing
rest_seats : (n : ℕ) (stage : Stage) (g : Guest) → is_resting stage ≡ true → seats_in_stage stage ≡ cond (is_unwaiting (waits (wait_of n stage) g)) 1 0
rest_seats n stage g h = grind (arith, h)

-- one that isn't there has none
no_seat : (n : ℕ) (life : Life) (g : Guest) → thread_in_life n life g ≡ None → seats_in_life n life ≡ 0
no_seat n (On m stage) g e = elim (eqb m n) as (λ v. cond v (thread_in_stage n stage g) None ≡ None → cond v (seats_in_stage stage) 0 ≡ 0) [ true ↦ by stage | false ↦ λ h. refl ] e
  where
    by : (stage : Stage) → thread_in_stage n stage g ≡ None → seats_in_stage stage ≡ 0
    by (Leaves end) h = refl
    by stage h = absurd (cc h)
no_seat n life g e = grind (arith, e)

-- the thread that a processor's choices come to has a place before them
taken_seat : (vp : ℕ) (f : ForestView) (moves : List Shift) (t : Tid) (after : ForestView) → IsForest f → Picks vp f moves (Some t) after → seats t f ≡ 1
taken_seat vp f [] t after m k = (step_taken vp t f m k.0).before
taken_seat vp f (s ∷ moves) t after m k =
    let c : KeepsThreads f (step vp f).after = keeps_shift vp f s m k.0 in
    sym (c.seats t) ∙ taken_seat vp (step vp f).after moves t after c.forest k.1

module _ (p : Program) (w : Spots) (net : Net) (s : Stands p w net) where
  forest_of : (n : ℕ) → IsForest (net.nodes n).forest
  forest_of n = subst (λ f. IsForest f) (sym (s.nodes n).forest) (s.seated n).forest

  -- between events nobody is about to leave
  none_departs : (n : ℕ) (t : Tid) (to : ℕ) → (w.threads t).life ≡ On n (Departs to) → ⊥
  none_departs n t to e = cc (settled_at p w net s t n, ap (is_busy n) e, eq-eqb n n refl)

  -- so whoever has a place is ready, by what is told
  pub seat_ready : (n : ℕ) (t : Tid) → seats t (w.forests n) ≡ 1 → (w.threads t).life ≡ On n Ready
  seat_ready n t h = by (seated_life n (w.threads t).life (sym ((s.seated n).seats t) ∙ h))
    where
      by : ((w.threads t).life ≡ On n Ready) ⊎ ((to : ℕ) × ((w.threads t).life ≡ On n (Departs to))) → (w.threads t).life ≡ On n Ready
      by (inl e) = e
      by (inr e) = absurd (none_departs n t e.0 e.1)

  -- and whoever is ready has one
  pub ready_seat : (n : ℕ) (t : Tid) → (w.threads t).life ≡ On n Ready → seats t (w.forests n) ≡ 1
  ready_seat n t e = (s.seated n).seats t ∙ there_seats n (w.threads t).life Ready e

  pub listed_ready : (n : ℕ) (t : Tid) → is_listed t (w.forests n) ≡ true → (w.threads t).life ≡ On n Ready
  listed_ready n t h = SeatedLabels.listed_ready p n t w (s.seated n) (none_departs n) h

  -- whoever is ready is there, and waits for nothing
  ready_there : (n : ℕ) (t : Tid) → (w.threads t).life ≡ On n Ready → (x : Thread) × IsOn net n t x × (is_unwaiting x ≡ true)
  ready_there n t e =
      (waits (wait_of n Ready) (w.threads t).guest, (s.nodes n).threads.shows t ∙ ap (λ z. thread_in_life n z (w.threads t).guest) e ∙ (rw (eq-eqb n n refl) refl), refl)

  -- ## The laws

  pub seats_are : (n : ℕ) (t : Tid) (x : Thread) → IsOn net n t x → seats t (net.nodes n).forest ≡ cond (is_unwaiting x) 1 0
  seats_are n t x h =
      let g : Guest = (w.threads t).guest in
      let shown : thread_in_life n (w.threads t).life g ≡ Some x = sym ((s.nodes n).threads.shows t) ∙ h in
      let on : OnNode n (w.threads t) x = on_node_is n t (w.threads t) x shown in
      let rests : is_resting on.stage ≡ true = resting n on.stage (subst (λ z. IsSettled z) on.life (settled_at p w net s t)) in
      let same : Some (waits (wait_of n on.stage) g) ≡ Some x = sym (thread_was n t (w.threads t) on.stage on.life ∙ rest_thread n on.stage g rests) ∙ shown in
      let one : waits (wait_of n on.stage) g ≡ x = cc same in
      ap (seats t) (s.nodes n).forest ∙ (s.seated n).seats t ∙ there_seats n (w.threads t).life on.stage on.life ∙ rest_seats n on.stage g rests
      ∙ ap (λ (z : Thread). cond (is_unwaiting z) 1 0) one

  -- and one that isn't there, or waits, has no place
  pub no_seats : (n : ℕ) (t : Tid) → ((x : Thread) → IsOn net n t x → is_unwaiting x ≡ false) → seats t (net.nodes n).forest ≡ 0
  no_seats n t none = by (lookup (is_tid t) (net.nodes n).threads) refl
    where
      by : (o : Option Thread) → lookup (is_tid t) (net.nodes n).threads ≡ o → seats t (net.nodes n).forest ≡ 0
      by (Some x) e = seats_are n t x e ∙ ap (λ v. cond v 1 0) (none x e)
      by None e = ap (seats t) (s.nodes n).forest ∙ (s.seated n).seats t ∙ no_seat n (w.threads t).life (w.threads t).guest (sym ((s.nodes n).threads.shows t) ∙ e)

  pub listed_there : (n : ℕ) (t : Tid) → is_listed t (net.nodes n).forest ≡ true → (x : Thread) × IsOn net n t x × (is_unwaiting x ≡ true)
  listed_there n t h = ready_there n t (listed_ready n t (ap (is_listed t) (sym (s.nodes n).forest) ∙ h))

  -- where a list of a processor has an entity, its choices end with a thread, within three moves for each bubble
  pub pick_ends : (n vp : ℕ) → vp < processors_of p → has_ready (tree_of p) vp (net.nodes n).forest.lists.rows ≡ true → PicksEnd vp (net.nodes n).forest
  pick_ends n vp below ready =
      let f : ForestView = (net.nodes n).forest in
      let tree : f.lists.tree ≡ tree_of p = ap (λ (z : ForestView). z.lists.tree) (s.nodes n).forest ∙ (s.seated n).tree in
      picks_end vp f (forest_of n) (subst (λ z. vp < processors z) (sym tree) below) (ap (λ (z : Tree). has_ready z vp f.lists.rows) tree ∙ ready)

  -- and where a list has an entity it is the list of some processor
  pub some_processor : (n : ℕ) → ((net.nodes n).forest.lists.rows ≡ [] → ⊥) → (vp : ℕ) × (vp < processors_of p) × (has_ready (tree_of p) vp (net.nodes n).forest.lists.rows ≡ true)
  some_processor n full =
      let f : ForestView = (net.nodes n).forest in
      let tree : f.lists.tree ≡ tree_of p = ap (λ (z : ForestView). z.lists.tree) (s.nodes n).forest ∙ (s.seated n).tree in
      let found = some_ready f (subst (λ g. AreCovered g) (sym (s.nodes n).forest) (s.covered n)) full in
      (found.0, subst (λ z. found.0 < processors z) tree found.1, subst (λ z. has_ready z found.0 f.lists.rows ≡ true) tree found.2)

  -- each node's forest has the setup's tree
  pub tree_there : (n : ℕ) → (net.nodes n).forest.lists.tree ≡ tree_of p
  tree_there n = ap (λ (z : ForestView). z.lists.tree) (s.nodes n).forest ∙ (s.seated n).tree

  pub some_pick : (n vp : ℕ) → vp < processors_of p → has_ready (tree_of p) vp (net.nodes n).forest.lists.rows ≡ true
      → (moves : List Shift) × (t : Tid) × (after : ForestView) × Picks vp (net.nodes n).forest moves (Some t) after
  some_pick n vp below ready = let k : PicksEnd vp (net.nodes n).forest = pick_ends n vp below ready in (k.moves, k.thread, k.after, k.picks)

  pub picked_there : (n vp : ℕ) (moves : List Shift) (t : Tid) (after : ForestView) → Picks vp (net.nodes n).forest moves (Some t) after → (x : Thread) × IsOn net n t x × (is_unwaiting x ≡ true)
  picked_there n vp moves t after picks =
      ready_there n t (seat_ready n t (ap (seats t) (sym (s.nodes n).forest) ∙ taken_seat vp (net.nodes n).forest moves t after (forest_of n) picks))

  -- by what is told
  pub seat_told : (n : ℕ) (t : Tid) → (seats t (w.forests n) ≡ 1) ↔ ((w.threads t).life ≡ On n Ready)
  seat_told n t = (λ h. seat_ready n t h, λ e. ready_seat n t e)
