-- Where no list has an entity and nothing is under way: each thread that lives waits by its rule.
use Rattle.std.proofs.Common.{◌≡◌, ℕ, zero, suc, List, [], ◌∷◌, Option, Some, None, false, refl, sym, ap, ◌∙◌, subst, inl, inr, arith}
use Rattle.std.specs.Prelude.{slice_get, All}
use Rattle.std.proofs.lemmas.Option.{slice_get_within, get_or_from_slice_get}
use Rattle.std.proofs.lemmas.Bool.{eq-eqb}
use Rattle.slot_space.specs.declared.names.Tid.{Tid}
use Rattle.marcel_sync.specs.declared.sem.SemRow.{SemRow}
use Rattle.marcel_sync.specs.Semaphores.{IsSemaphore, node_in, number_in, waiters_of, waiters_at}
use Rattle.bubbles.specs.Forests.{ForestView}
use Rattle.bubbles.specs.Standing.{IsHeldBack}
use Rattle.run_trace.specs.Names.{is_tid}
use Rattle.run_trace.specs.Program.{Program}
use Rattle.run_trace.specs.Guests.{Guest, Thread, waits}
use Rattle.run_trace.specs.Cluster.{Net}
use Rattle.run_trace.specs.Holding.{IsOn}
use Rattle.run_trace.specs.Keyed.{item_of}
use Rattle.run_trace.specs.Outcome.{Lives, AllLinksEmpty, IsDown, WaitsByItsRule, IsStuck}
use Rattle.run_trace.specs.Spots.{Stage, Ready, Seeks, Stays, Shows, Shown_there, Asks, Awaits, Answered, Detaches, Signals, Queues, Life, Unborn, On, Moving, Noting, Gone, Response, Spots}
use Rattle.run_trace.specs.Stands.{Stands, link_part, on_link, ways_of, Way, words_of, words_about, phase_of, phase_at, During, wait_of, waiter_name, waiter_in_life, itself}
use Rattle.run_trace.specs.Items.{Thread as Subject_of, Turns}
use Rattle.trace_laws.proofs.Lists.InTurn.{none_claims, none_wants, none_listed}
use Rattle.trace_laws.proofs.Lists.Parts.{thread_was, seeker_was}
use Rattle.trace_laws.proofs.Lists.SeatedLabels.{held_back}
use Rattle.trace_laws.proofs.Lists.Stages.{resting, rest_thread}
use Rattle.trace_laws.proofs.Outcomes.Wholes.{settled_at}
use Rattle.trace_laws.proofs.Outcomes.Consequences.{OnNode, on_node_is}
use Rattle.trace_laws.specs.Obeys.{IsSettled}

sem_at : (sems : List SemRow) (k : ℕ) (sem : SemRow) → All IsSemaphore sems → slice_get sems k ≡ Some sem → IsSemaphore sem
sem_at sems k sem h e = subst (λ z. IsSemaphore z) (get_or_from_slice_get sems k sem sem e) (h k sem (slice_get_within sems k sem e))

-- a semaphore for which a thread waits has value 0
down : (sem : SemRow) → IsSemaphore sem → (sem.waiters ≡ [] → ⊥) → sem.value ≡ 0
down sem h some = by sem.value refl
  where
    by : (value : ℕ) → sem.value ≡ value → value ≡ 0
    by zero e = refl
    by (suc k) e = absurd (some (h.waits (omega (arith, e))))

down_row : (sems : List SemRow) (k : ℕ) (t : Tid) (x : Tid × ℕ) → All IsSemaphore sems → item_of is_tid waiter_name (waiters_at k sems) t ≡ Some x → IsDown (slice_get sems k)
down_row sems k t x all found = by (slice_get sems k) refl found
  where
    by : (o : Option SemRow) → slice_get sems k ≡ o → item_of is_tid waiter_name (waiters_of o) t ≡ Some x → IsDown o
    by None e h = absurd (cc h)
    by (Some sem) e h = down sem (sem_at sems k sem all e) (λ none. cc (h, none))

module _ (p : Program) (w : Spots) (net : Net) (s : Stands p w net) where
  -- no link holds a packet of a thread
  no_way : AllLinksEmpty net → (t : Tid) (x : Way) (xs : List Way) → ways_of t (w.threads t).life (w.threads t).verdict (w.threads t).guest ≡ x ∷ xs → ⊥
  no_way empty t x xs h =
      let none : words_about (words_of x.to (net.links x.from x.to)) (Subject_of t) ≡ [] = ap (λ ps. words_about (words_of x.to ps) (Subject_of t)) (empty x.from x.to) in
      let some : link_part x.from x.to t w.threads ≡ x.word ∷ on_link x.from x.to xs = ap (on_link x.from x.to) h ∙ (rw (eq-eqb x.from x.from refl, eq-eqb x.to x.to refl) refl) in
      absurd (cc (sym none ∙ s.links x.from x.to t ∙ some))

  -- nothing is claimed or wanted
  pub no_claims : AllLinksEmpty net → (n : ℕ) → ((net.nodes n).talk.claims ≡ []) × ((net.nodes n).talk.wants ≡ false) × ((net.nodes 0).talk.wanting ≡ [])
  no_claims empty n =
      let none : (i j : ℕ) → words_about (words_of j (net.links i j)) Turns ≡ [] = λ i j. ap (λ ps. words_about (words_of j ps) Turns) (empty i j) in
      (none_claims s.turns none (λ i. refl) n, none_wants s.turns none (λ i. refl) n, none_listed s.turns none (λ i. refl))

  quiet : ((n : ℕ) → (net.nodes n).forest.lists.rows ≡ []) → AllLinksEmpty net → ((n : ℕ) → w.halts n ≡ false) → (t : Tid) → WaitsByItsRule w t (w.threads t).life
  quiet rows empty going t = by (w.threads t).life refl (settled_at p w net s t)
    where
      v : Response
      v = (w.threads t).verdict

      sent : (life : Life) (x : Way) → (w.threads t).life ≡ life → ways_of t life v (w.threads t).guest ≡ x ∷ [] → WaitsByItsRule w t life
      sent life x e h = absurd (no_way empty t x [] (ap (λ z. ways_of t z v (w.threads t).guest) e ∙ h))

      awaited : (m : ℕ) (u : Tid) → (w.threads t).life ≡ On m (Awaits u) → Lives (w.threads u).life
      awaited m u e = by_life (w.threads u).life refl (sym (ap phase_at (s.agrees.waits u t m e)) ∙ s.agrees.named u)
        where
          by_life : (life : Life) → (w.threads u).life ≡ life → During ≡ phase_of (w.threads u).life → Lives life
          by_life Unborn f h = absurd (cc (h ∙ ap phase_of f))
          by_life (On k stage) f h = tt
          by_life (Moving k to) f h = tt
          by_life (Noting k end) f h = absurd (no_way empty u _ _ (ap (λ z. ways_of u z (w.threads u).verdict (w.threads u).guest) f))
          by_life (Gone end) f h = absurd (cc (h ∙ ap phase_of f))

      -- the one that waits for a semaphore is in its queue
      queued_down : (m id : ℕ) → (w.threads t).life ≡ On m (Queues id) → IsDown (slice_get (w.sems (node_in id)) (number_in id))
      queued_down m id e =
          let h : ℕ = node_in id in
          let k : ℕ = number_in id in
          let queued : waiter_in_life h k t (w.threads t).life ≡ Some (t, m) = ap (waiter_in_life h k t) e ∙ (rw (eq-eqb h h refl, eq-eqb k k refl) refl) in
          down_row (w.sems h) k t (t, m) (s.agrees.sems h) ((s.agrees.queues h k).shows t ∙ queued)

      -- where no list has an entity, the one place of a thread is in a bubble
      ready : (m : ℕ) → (w.threads t).life ≡ On m Ready → IsHeldBack t (w.forests m)
      ready m e =
          let none : (w.forests m).lists.rows ≡ [] = ap (λ (f : ForestView). f.lists.rows) (sym (s.nodes m).forest) ∙ rows m in
          held_back p m t w (s.seated m) none e

      seeks : (m : ℕ) → (w.threads t).life ≡ On m Seeks → ⊥
      seeks m e =
          let none : item_of is_tid itself (net.nodes m).talk.claims t ≡ None = ap (λ ts. item_of is_tid itself ts t) (no_claims empty m).0 in
          cc (none, (s.nodes m).seekers.shows t, seeker_was m t (w.threads t) e)

      by : (life : Life) → (w.threads t).life ≡ life → IsSettled (w.threads t).life → WaitsByItsRule w t life
      by Unborn e k = tt
      by (Moving m to) e k = sent (Moving m to) _ e refl
      by (Noting m end) e k = tt
      by (Gone end) e k = tt
      by (On m (Awaits u)) e k = awaited m u e
      by (On m (Queues id)) e k = queued_down m id e
      by (On m Ready) e k = ready m e
      by (On m Seeks) e k = absurd (seeks m e)
      by (On m Stays) e k = absurd (cc (s.agrees.stays t m e, going m))
      by (On m (Shows bytes)) e k = sent (On m (Shows bytes)) _ e refl
      by (On m Shown_there) e k = sent (On m Shown_there) _ e refl
      by (On m (Asks u)) e k = sent (On m (Asks u)) _ e refl
      by (On m (Detaches u)) e k = sent (On m (Detaches u)) _ e refl
      by (On m (Signals id up)) e k = sent (On m (Signals id up)) _ e refl
      by (On m (Answered h)) e k = sent (On m (Answered h)) _ e refl
      by (On m stage) e k = absurd (cc (resting m stage (subst (λ z. IsSettled z) e k)))

  -- nothing is ready, nothing is under way, none has halted, and a thread lives
  pub stuck : ((n : ℕ) → (net.nodes n).forest.lists.rows ≡ []) → AllLinksEmpty net → ((n : ℕ) → (net.nodes n).halted ≡ false) → (t : Tid) → Lives (w.threads t).life → IsStuck w net
  stuck rows empty going t lives =
      let still : (n : ℕ) → w.halts n ≡ false = λ n. sym (s.nodes n).halted ∙ going n in
      record {
        not_done = λ d. elim d as (λ z. ⊥) [ inl h ↦ absurd (cc (still h.0, h.1)) | inr h ↦ h.0 t lives ];
        living = (t, lives);
        rows = rows;
        links = empty;
        waits = quiet rows empty still;
      }

  -- ## Who lives is on a node

  -- between events a thread at any stage is on its node
  pub is_there : (t : Tid) (m : ℕ) (stage : Stage) → (w.threads t).life ≡ On m stage → (x : Thread) × IsOn net m t x
  is_there t m stage e =
      let g : Guest = (w.threads t).guest in
      (waits (wait_of m stage) g, (s.nodes m).threads.shows t ∙ thread_was m t (w.threads t) stage e ∙ rest_thread m stage g (resting m stage (subst (λ z. IsSettled z) e (settled_at p w net s t))))

  -- where nothing is under way each that lives is on a node
  pub is_somewhere : AllLinksEmpty net → (t : Tid) → Lives (w.threads t).life → (n : ℕ) × (x : Thread) × IsOn net n t x
  is_somewhere empty t lives = by (w.threads t).life refl lives
    where
      by : (life : Life) → (w.threads t).life ≡ life → Lives life → (n : ℕ) × (x : Thread) × IsOn net n t x
      by Unborn e l = absurd l
      by (On m stage) e l = let k = is_there t m stage e in (m, k.0, k.1)
      by (Moving m to) e l = absurd (no_way empty t _ _ (ap (λ z. ways_of t z (w.threads t).verdict (w.threads t).guest) e))
      by (Noting m end) e l = absurd l
      by (Gone end) e l = absurd l

  pub lives_there : (t : Tid) (n : ℕ) (x : Thread) → IsOn net n t x → Lives (w.threads t).life
  lives_there t n x h =
      let on : OnNode n (w.threads t) x = on_node_is n t (w.threads t) x (sym ((s.nodes n).threads.shows t) ∙ h) in
      subst (λ z. Lives z) (sym on.life) tt

  -- a thread has called halt exactly where a node says so
  pub halts_are : (n : ℕ) → (net.nodes n).halted ≡ w.halts n
  halts_are n = (s.nodes n).halted
