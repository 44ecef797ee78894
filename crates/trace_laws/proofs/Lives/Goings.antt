-- What other thread a label sets going, and where that one was: it waited for a semaphore or for an end, or was on a run list. Whoever waits for
-- slots goes by the decision about it, which is its own label.
use Rattle.std.proofs.Common.{◌≡◌, ℕ, List, [], ◌∷◌, Option, Some, None, Bool, true, false, eqb, cond, refl, sym, ap, ◌∙◌, arith, ◌⊎◌, inl, inr}
use Rattle.std.specs.Prelude.{◌-◌, ◌^◌, slice_get, option_map, unwrap_or, ◌&&◌, not, ⊤}
use Rattle.std.proofs.lemmas.Bool.{eqb-true}
use Rattle.slot_space.specs.declared.names.Tid.{Tid}
use Rattle.slot_space.specs.declared.names.Reply.{Reply}
use Rattle.slot_space.specs.declared.names.Reply.TheVariants as replies
use Rattle.slot_space.specs.Replies.{tid_value}
use Rattle.marcel_core.specs.declared.birth.Birth.{Birth}
use Rattle.marcel_core.specs.declared.birth.Birth.TheVariants.{Lives, Awaited, Detached, Ended, Over}
use Rattle.marcel_core.specs.declared.end.End.{End}
use Rattle.marcel_core.specs.Homes.{joiner}
use Rattle.marcel_sync.specs.declared.sem.SemRow.{SemRow}
use Rattle.marcel_sync.specs.declared.sem.Vgot.TheVariants as raising
use Rattle.marcel_sync.specs.Semaphores.{node_in, number_in, v_of, v_answer, waiters_of, waiters_at}
use Rattle.run_trace.specs.declared.call.Call.{Call}
use Rattle.run_trace.specs.declared.call.Call.TheVariants.{SemV, Migrate}
use Rattle.run_trace.specs.declared.label.Label.TheVariants.{Known}
use Rattle.run_trace.specs.Names.{is_tid, tid_of}
use Rattle.run_trace.specs.Program.{Program}
use Rattle.run_trace.specs.Keyed.{item_of}
use Rattle.run_trace.specs.Spots.{Ready, Departs, Awaits, Answers, Signals, Queues, Life, On, Spot, Spots, Going, answered_stage, woken, signal_wakes, sent_away, passed_going, asked_going, going_by_call, its_call, its_refusal, wakes_heard, end_in, joiner_going, sets_going}
use Rattle.run_trace.specs.Bubbles.{is_listed}
use Rattle.run_trace.specs.Stands.{Agrees, AreSeated, waiter_name, waiter_in_life}
use Rattle.run_trace.proofs.Lemmas.{is-refl}
use Rattle.trace_laws.proofs.Lists.SeatedLabels.{listed_life}

-- from the one life to the other a thread may be set going: woken, sent away, perhaps to another node than before, or since the end that it
-- awaits is known
pub data MayGo (old new : Life) : Type 0 where
  Wakes : (h m id : ℕ) → old ≡ On m (Queues id) → new ≡ On m (answered_stage h m (replies.Value 0)) → MayGo old new
  IsSent : (m to : ℕ) → old ≡ On m Ready → new ≡ On m (Departs to) → MayGo old new
  IsSentOn : (m other to : ℕ) → old ≡ On m (Departs other) → new ≡ On m (Departs to) → MayGo old new
  Joins : (m : ℕ) (u : Tid) (reply : Reply) (second : Option ℕ) → old ≡ On m (Awaits u) → new ≡ On m (Answers u.home reply second) → MayGo old new

abbrev pub GoesRightly : Going → (Tid → Spot) → Type 0
GoesRightly None w = ⊤
GoesRightly (Some going) w = MayGo (w going.0).life going.1

-- ## A thread that waits for a semaphore

pub record IsQueued (h k : ℕ) (life : Life) (at : ℕ) : Type 0 where
  pub id : ℕ
  pub is : life ≡ On at (Queues id)
  pub node : node_in id ≡ h
  pub number : number_in id ≡ k

pub queued : (h k : ℕ) (t : Tid) (life : Life) (x : Tid × ℕ) → waiter_in_life h k t life ≡ Some x → IsQueued h k life x.1
queued h k t (On m (Queues id)) x e = by (eqb (node_in id) h) (eqb (number_in id) k) refl refl e
  where
    by : (a b : Bool) → eqb (node_in id) h ≡ a → eqb (number_in id) k ≡ b → cond (a && b) (Some (t, m)) None ≡ Some x → IsQueued h k (On m (Queues id)) x.1
    by true true f g i = let at : m ≡ x.1 = cc i in record { id = id; is = ap (λ z. On z (Queues id)) at; node = eqb-true (node_in id) h f; number = eqb-true (number_in id) k g }
    by true false f g i = absurd (cc i)
    by false b f g i = absurd (cc i)
queued h k t life x e = grind (arith, e)

module _ (p : Program) (w : Spots) (a : Agrees p w × ((k : ℕ) → AreSeated p k w)) where
  -- the first of those that wait for a semaphore
  first_queued : (h k : ℕ) (first : Tid × ℕ) (rest : List (Tid × ℕ)) → waiters_at k (w.sems h) ≡ first ∷ rest → IsQueued h k (w.threads first.0).life first.1
  first_queued h k first rest e =
      let found : item_of is_tid waiter_name (waiters_at k (w.sems h)) first.0 ≡ Some first = ap (λ xs. item_of is_tid waiter_name xs first.0) e ∙ (rw (is-refl first.0) refl) in
      queued h k first.0 (w.threads first.0).life first (sym ((a.0.queues h k).shows first.0) ∙ found)

  woken_goes : (h id : ℕ) (up : Bool) → GoesRightly (signal_wakes h id up (w.sems h)) w.threads
  woken_goes h id false = tt
  woken_goes h id true = by (slice_get (w.sems h) (number_in id)) refl
    where
      by_queue : (value : ℕ) (xs : List (Tid × ℕ)) → waiters_at (number_in id) (w.sems h) ≡ xs → GoesRightly (woken h (v_of value xs)) w.threads
      by_queue value (first ∷ rest) e =
          let q : IsQueued h (number_in id) (w.threads first.0).life first.1 = first_queued h (number_in id) first rest e in
          Wakes h first.1 q.id q.is refl
      by_queue value [] e = elim (eqb value (2 ^ 31 - 1)) as (λ v. GoesRightly (woken h (cond v raising.AtLimit raising.Stored)) w.threads) [ true ↦ tt | false ↦ tt ]

      by : (o : Option SemRow) → slice_get (w.sems h) (number_in id) ≡ o → GoesRightly (woken h (unwrap_or (option_map v_answer o) raising.NoSuch)) w.threads
      by None e = tt
      by (Some sem) e = by_queue sem.value sem.waiters (ap waiters_of e)

  sent_goes : (n : ℕ) (itself : Bool) (u : Tid) (to : ℕ) → GoesRightly (sent_away n itself u to (is_listed u (w.forests n))) w.threads
  sent_goes n true u to = tt
  sent_goes n false u to = by (is_listed u (w.forests n)) (not (eqb to n)) refl
    where
      by_life : ((w.threads u).life ≡ On n Ready) ⊎ ((other : ℕ) × ((w.threads u).life ≡ On n (Departs other))) → MayGo (w.threads u).life (On n (Departs to))
      by_life (inl e) = IsSent n to e refl
      by_life (inr e) = IsSentOn n e.0 to e.1 refl

      by : (b c : Bool) → is_listed u (w.forests n) ≡ b → GoesRightly (cond (b && c) (Some (u, On n (Departs to))) None) w.threads
      by true true e = by_life (listed_life p n u w (a.1 n) e)
      by true false e = tt
      by false c e = tt

  passed_goes : (n : ℕ) (t : Tid) (c : Call) → GoesRightly (passed_going n t w c) w.threads
  passed_goes n t (SemV id) = elim (eqb (node_in id) n) as (λ v. GoesRightly (cond v (signal_wakes n id true (w.sems n)) None) w.threads) [ true ↦ woken_goes n id true | false ↦ tt ]
  passed_goes n t (Migrate name to) = sent_goes n (eqb name (tid_value t)) (tid_of name) to
  passed_goes n t c = grind arith

  asked_goes : (n : ℕ) (t : Tid) (c : Call) (o : Option Reply) → GoesRightly (asked_going n t w c o) w.threads
  asked_goes n t c None = passed_goes n t c
  asked_goes n t c (Some reply) = tt

  joiner_goes : (t : Tid) (end : End) (o : Option Birth) → slice_get (w.births t.home) t.seq ≡ o → GoesRightly (joiner_going t end (joiner o)) w.threads
  joiner_goes t end (Some (Awaited by at)) e = Joins at t _ _ (a.0.awaits t by at e) refl
  joiner_goes t end (Some Lives) e = tt
  joiner_goes t end (Some Detached) e = tt
  joiner_goes t end (Some (Ended how)) e = tt
  joiner_goes t end (Some Over) e = tt
  joiner_goes t end None e = tt

  -- whom a call, a semaphore's call that is heard and an end that is known set going may go
  pub call_goes : (n : ℕ) (t : Tid) → GoesRightly (going_by_call p n t w) w.threads
  call_goes n t = asked_goes n t (its_call t w) (its_refusal p t w)

  pub heard_goes : (life : Life) → GoesRightly (wakes_heard w.sems life) w.threads
  heard_goes (On m (Signals id up)) = woken_goes (node_in id) id up
  heard_goes life = grind arith

  pub known_goes : (n : ℕ) (t : Tid) → GoesRightly (sets_going p n (Known t) w) w.threads
  known_goes n t = joiner_goes t (end_in (w.threads t).life) (slice_get (w.births t.home) t.seq) refl
