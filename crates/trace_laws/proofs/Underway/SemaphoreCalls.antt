-- What a call of a semaphore comes to, of the event's own node or of another, on an event in its midst.
use Rattle.std.proofs.Common.{◌≡◌, ℕ, List, [], ◌∷◌, Some, None, Bool, true, false, eqb, cond, refl, sym, ap, ◌∙◌, subst}
use Rattle.std.specs.Prelude.{All}
use Rattle.std.proofs.lemmas.Bool.{eq-eqb, eqb-true}
use Rattle.slot_space.specs.Replies.{reply_code}
use Rattle.slot_space.specs.declared.names.Tid.{Tid}
use Rattle.slot_space.specs.declared.names.Reply.{Reply}
use Rattle.slot_space.specs.declared.names.Reply.TheVariants as replies
use Rattle.marcel_sync.specs.declared.sem.SemRow.{SemRow}
use Rattle.marcel_sync.specs.declared.sem.Pgot.{Pgot}
use Rattle.marcel_sync.specs.declared.sem.Pgot.TheVariants as lowering
use Rattle.marcel_sync.specs.declared.sem.Vgot.{Vgot}
use Rattle.marcel_sync.specs.declared.sem.Vgot.TheVariants as raising
use Rattle.marcel_sync.specs.Semaphores.{IsSemaphore, node_in, number_in, waiters_at, lowered_answer, lowered, raised_answer, raised}
use Rattle.run_trace.specs.declared.node.Wait.TheVariants as wait
use Rattle.run_trace.specs.Program.{Program}
use Rattle.run_trace.specs.Guests.{waits}
use Rattle.run_trace.specs.Local.{EventSoFar}
use Rattle.run_trace.specs.Steps.{asks_here, asks_waiting, asks_signal, at_thread}
use Rattle.run_trace.specs.Machine.{replies_to, answers_v, lowers, raises, signals}
use Rattle.run_trace.specs.Spots.{Stage, Running, Due, Queues, Signals, Going, On, Spots, answered_stage, stage_of_call, going_by_call, sems_by_call, signal_asked, signal_stage, signal_wakes, signalled, lowering_stage, raising_stage, woken}
use Rattle.run_trace.specs.Stands.{busy}
use Rattle.run_trace.specs.Items.{Item}
use Rattle.trace_laws.proofs.Lists.Queues.{lowered_sems, raised_sems, lowered_same, lowered_more, raised_same, raised_less}
use Rattle.trace_laws.proofs.Underway.Midst.{Outset, Links, Midst}
use Rattle.trace_laws.proofs.Underway.Steps.{in_hand, at_ok}
use Rattle.trace_laws.proofs.Underway.CallSteps.{IsNoBubbles, call_at, bytes_at, IsItsOwn, asks_signal_ok}
use Rattle.trace_laws.proofs.Underway.Semaphores.{woken_life}
use Rattle.trace_laws.proofs.Underway.SemaphoreSteps.{replies_ok, IsAsked, asks_here_ok, asks_waiting_ok, asks_woken_ok}

-- the thread's call lowers or raises semaphore id
pub record AsksSem (p : Program) (n : ℕ) (t : Tid) (v : Spots) (id : ℕ) (up : Bool) : Type 0 where
  pub stage : stage_of_call p n t v ≡ signal_asked n id up (v.sems n)
  pub going : going_by_call p n t v ≡ cond (eqb (node_in id) n) (signal_wakes n id up (v.sems n)) None
  pub sems : sems_by_call p n t v ≡ cond (eqb (node_in id) n) (signalled n id up t (v.sems n)) (v.sems n)
  pub bytes : [] ≡ bytes_at p v t
  pub bubbles : IsNoBubbles p n t v

due_here : (n : ℕ) (reply : Reply) → answered_stage n n reply ≡ Due (reply_code reply)
due_here n reply = rw (eq-eqb n n refl) refl

-- of its own node
sem_here : {p : Program} {n : ℕ} {t : Tid} {v : Spots} {id : ℕ} {up : Bool} (other : Going) (b : Stage) → AsksSem p n t v id up → eqb (node_in id) n ≡ true → signal_wakes n id up (v.sems n) ≡ other → signal_stage n n id up (v.sems n) ≡ b
    → IsAsked p n t v other b (signalled n id up t (v.sems n))
sem_here {n = n} {t} {v} {id} {up} other b a here going stage = record {
  going = a.going ∙ ap (λ c. cond c (signal_wakes n id up (v.sems n)) None) here ∙ going;
  stage = a.stage ∙ ap (λ c. cond c (signal_stage n n id up (v.sems n)) (Signals id up)) here ∙ stage;
  sems = a.sems ∙ ap (λ c. cond c (signalled n id up t (v.sems n)) (v.sems n)) here;
  bytes = a.bytes;
  bubbles = a.bubbles;
}

-- of another
sem_away : {p : Program} {n : ℕ} {t : Tid} {v : Spots} {id : ℕ} {up : Bool} → AsksSem p n t v id up → eqb (node_in id) n ≡ false → IsItsOwn p n t v (Signals id up)
sem_away {n = n} {t} {v} {id} {up} a away = record {
  going = a.going ∙ ap (λ c. cond c (signal_wakes n id up (v.sems n)) None) away;
  stage = a.stage ∙ ap (λ c. cond c (signal_stage n n id up (v.sems n)) (Signals id up)) away;
  sems = a.sems ∙ ap (λ c. cond c (signalled n id up t (v.sems n)) (v.sems n)) away;
  bubbles = a.bubbles;
}

module _ {outset : Outset} {ahead : List Item} {L : Links} where
  open outset use {program as p, net, occasion as q, node as n, opening, world as w}

  -- no thread is let go, and the caller has its reply
  answers_sem : (d : EventSoFar) (t : Tid) (id : ℕ) (up : Bool) (reply : Reply) → (m : Midst outset ahead L d (busy t (On n Running) ∷ [])) → AsksSem p n t m.now.spots id up → eqb (node_in id) n ≡ true
      → signal_wakes n id up (m.now.spots.sems n) ≡ None → signal_stage n n id up (m.now.spots.sems n) ≡ answered_stage n n reply
      → All IsSemaphore (signalled n id up t (m.now.spots.sems n)) → ((j : ℕ) → waiters_at j (signalled n id up t (m.now.spots.sems n)) ≡ waiters_at j (m.now.spots.sems n))
      → Midst outset ahead L (replies_to n n t reply (asks_here t (call_at m.now.spots t) (signalled n id up t (m.now.spots.sems n)) d)) []
  answers_sem d t id up reply m a here none stage all same =
      replies_ok (asks_here t (call_at m.now.spots t) (signalled n id up t (m.now.spots.sems n)) d) t n reply []
      (subst (λ b. Midst outset ahead L (asks_here t (call_at m.now.spots t) (signalled n id up t (m.now.spots.sems n)) d) (busy t (On n b) ∷ [])) (sym (due_here n reply))
      (asks_here_ok d t (reply_code reply) (signalled n id up t (m.now.spots.sems n)) m (sem_here None (Due (reply_code reply)) a here none (stage ∙ due_here n reply)) all same))

  raises_ok : (d : EventSoFar) (t : Tid) (id : ℕ) → (m : Midst outset ahead L d (busy t (On n Running) ∷ [])) → AsksSem p n t m.now.spots id true → eqb (node_in id) n ≡ true
      → Midst outset ahead L (raises n t (call_at m.now.spots t) id (raised_answer (number_in id) d.node.sems) d) []
  raises_ok d t id m a here = subst (λ z. Midst outset ahead L (answers_v n n t (raised_answer (number_in id) z) (asks_here t (call_at m.now.spots t) (raised (number_in id) z) d)) []) (sym m.here.sems) (by (raised_answer (number_in id) rows) refl)
    where
      rows : List SemRow
      rows = m.now.spots.sems n

      all : All IsSemaphore (raised (number_in id) rows)
      all = raised_sems (number_in id) rows (m.agrees.sems n)

      alone : (got : Vgot) → raised_answer (number_in id) rows ≡ got → ((u : Tid) (at : ℕ) → got ≡ raising.Woke u at → ⊥) → (reply : Reply) → woken n got ≡ None → raising_stage n n got ≡ answered_stage n n reply
          → Midst outset ahead L (replies_to n n t reply (asks_here t (call_at m.now.spots t) (raised (number_in id) rows) d)) []
      alone got e other reply none stage = answers_sem d t id true reply m a here (ap (woken n) e ∙ none) (ap (raising_stage n n) e ∙ stage) all
          (raised_same (number_in id) rows (λ u at f. other u at (sym e ∙ f)))

      by : (got : Vgot) → raised_answer (number_in id) rows ≡ got → Midst outset ahead L (answers_v n n t got (asks_here t (call_at m.now.spots t) (raised (number_in id) rows) d)) []
      by (raising.Woke u at) e = replies_ok (replies_to n at u (replies.Value 0) (asks_here t (call_at m.now.spots t) (raised (number_in id) rows) d)) t n (replies.Value 0) []
          (subst (λ b. Midst outset ahead L (replies_to n at u (replies.Value 0) (asks_here t (call_at m.now.spots t) (raised (number_in id) rows) d)) (busy t (On n b) ∷ [])) (sym (due_here n (replies.Value 0)))
          (asks_woken_ok d t u at (number_in id) (raised (number_in id) rows) m (sem_here (Some (u, woken_life n at)) (Due 0) a here (ap (woken n) e) (ap (raising_stage n n) e ∙ due_here n (replies.Value 0))) (raised_less (number_in id) rows u at e) all))
      by raising.Stored e = alone raising.Stored e (λ u at f. absurd (cc f)) (replies.Value 0) refl refl
      by raising.AtLimit e = alone raising.AtLimit e (λ u at f. absurd (cc f)) replies.BadArgument refl refl
      by raising.NoSuch e = alone raising.NoSuch e (λ u at f. absurd (cc f)) replies.NoSuch refl refl

  lowers_ok : (d : EventSoFar) (t : Tid) (id : ℕ) → (m : Midst outset ahead L d (busy t (On n Running) ∷ [])) → AsksSem p n t m.now.spots id false → eqb (node_in id) n ≡ true
      → Midst outset ahead L (lowers n t (call_at m.now.spots t) id (lowered_answer (number_in id) d.node.sems) d) []
  lowers_ok d t id m a here = by (lowered_answer (number_in id) rows) refl (ap (lowered_answer (number_in id)) m.here.sems)
    where
      rows : List SemRow
      rows = m.now.spots.sems n

      new : List SemRow
      new = lowered (number_in id) (t, n) rows

      all : All IsSemaphore new
      all = lowered_sems (number_in id) (t, n) rows (m.agrees.sems n)

      alone : (got : Pgot) → lowered_answer (number_in id) rows ≡ got → (got ≡ lowering.Later → ⊥) → (reply : Reply) → lowering_stage n n id got ≡ answered_stage n n reply
          → Midst outset ahead L (replies_to n n t reply (asks_here t (call_at m.now.spots t) (lowered (number_in id) (t, n) d.node.sems) d)) []
      alone got e other reply stage = subst (λ z. Midst outset ahead L (replies_to n n t reply (asks_here t (call_at m.now.spots t) (lowered (number_in id) (t, n) z) d)) []) (sym m.here.sems)
          (answers_sem d t id false reply m a here refl (ap (lowering_stage n n id) e ∙ stage) all (lowered_same (number_in id) (t, n) rows (λ f. other (sym e ∙ f))))

      by : (got : Pgot) → lowered_answer (number_in id) rows ≡ got → lowered_answer (number_in id) d.node.sems ≡ lowered_answer (number_in id) rows
          → Midst outset ahead L (lowers n t (call_at m.now.spots t) id (lowered_answer (number_in id) d.node.sems) d) []
      by got e f = subst (λ z. Midst outset ahead L (lowers n t (call_at m.now.spots t) id z d) []) (sym (f ∙ e)) (each got e)
        where
          each : (got : Pgot) → lowered_answer (number_in id) rows ≡ got → Midst outset ahead L (lowers n t (call_at m.now.spots t) id got d) []
          each lowering.Got e = alone lowering.Got e (λ f. absurd (cc f)) (replies.Value 0) refl
          each lowering.NoSuch e = alone lowering.NoSuch e (λ f. absurd (cc f)) replies.NoSuch refl
          each lowering.Later e = at_ok d [] t Running (asks_waiting t (call_at m.now.spots t) (lowered (number_in id) (t, n) d.node.sems)) m (in_hand m) refl
              (subst (λ z. Midst outset ahead L (asks_waiting t (call_at m.now.spots t) (lowered (number_in id) (t, n) z) (waits wait.No (m.now.spots.threads t).guest) d) []) (sym m.here.sems)
              (asks_waiting_ok d t id new m (sem_here None (Queues id) a here refl (ap (lowering_stage n n id) e)) (eqb-true (node_in id) n here) all (lowered_more (number_in id) (t, n) rows e)))

  pub signals_ok : (d : EventSoFar) (t : Tid) (id : ℕ) (up : Bool) → (m : Midst outset ahead L d (busy t (On n Running) ∷ [])) → AsksSem p n t m.now.spots id up → Midst outset ahead L (signals n t (call_at m.now.spots t) id up d) []
  signals_ok d t id up m a = by up a (eqb (node_in id) n) refl
    where
      away : (up : Bool) → AsksSem p n t m.now.spots id up → eqb (node_in id) n ≡ false → Midst outset ahead L (at_thread t (asks_signal t (call_at m.now.spots t) id up) d) []
      away up a e = at_ok d [] t Running (asks_signal t (call_at m.now.spots t) id up) m (in_hand m) refl (asks_signal_ok d t id up m (sem_away a e) a.bytes e)

      by : (up : Bool) → AsksSem p n t m.now.spots id up → (b : Bool) → eqb (node_in id) n ≡ b → Midst outset ahead L (signals n t (call_at m.now.spots t) id up d) []
      by true a true e = subst (λ b. Midst outset ahead L (cond b (raises n t (call_at m.now.spots t) id (raised_answer (number_in id) d.node.sems) d) (at_thread t (asks_signal t (call_at m.now.spots t) id true) d)) []) (sym e) (raises_ok d t id m a e)
      by false a true e = subst (λ b. Midst outset ahead L (cond b (lowers n t (call_at m.now.spots t) id (lowered_answer (number_in id) d.node.sems) d) (at_thread t (asks_signal t (call_at m.now.spots t) id false) d)) []) (sym e) (lowers_ok d t id m a e)
      by true a false e = subst (λ b. Midst outset ahead L (cond b (raises n t (call_at m.now.spots t) id (raised_answer (number_in id) d.node.sems) d) (at_thread t (asks_signal t (call_at m.now.spots t) id true) d)) []) (sym e) (away true a e)
      by false a false e = subst (λ b. Midst outset ahead L (cond b (lowers n t (call_at m.now.spots t) id (lowered_answer (number_in id) d.node.sems) d) (at_thread t (asks_signal t (call_at m.now.spots t) id false) d)) []) (sym e) (away false a e)
