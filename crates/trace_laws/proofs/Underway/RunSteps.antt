-- A run of a thread, on an event in its midst, to a call, to a fault or over the whole quantum.
use Rattle.std.proofs.Common.{◌≡◌, ℕ, List, [], ◌∷◌, Some, true, refl, sym, ap, ◌∙◌, subst}
use Rattle.slot_space.specs.declared.names.Tid.{Tid}
use Rattle.rv_step.specs.Step.{HartState}
use Rattle.rv_step.specs.Run.{after, StopsBy}
use Rattle.run_trace.specs.declared.label.Label.{Label}
use Rattle.run_trace.specs.declared.label.Label.TheVariants.{Ran}
use Rattle.run_trace.specs.declared.node.Wait.TheVariants as wait
use Rattle.run_trace.specs.Names.{is_tid}
use Rattle.run_trace.specs.Program.{Program, code_of}
use Rattle.run_trace.specs.Guests.{Guest, Thread, Run, run_of, waits, with_state}
use Rattle.bubbles.specs.declared.bubble.Step.TheVariants.{Takes}
use Rattle.bubbles.specs.Forests.{ForestView, goes_on}
use Rattle.bubbles.specs.Picking.{step}
use Rattle.run_trace.specs.Bubbles.{is_listed}
use Rattle.run_trace.specs.Local.{EventSoFar}
use Rattle.run_trace.specs.Steps.{say, arrive, choose, thread_at, keep, ran}
use Rattle.run_trace.specs.Spots.{Stage, Ready, On, Spot, Spots, update, forests_after, after_label, ran_stage, ran_forest}
use Rattle.run_trace.specs.Rules.{Occasion, quantum_in}
use Rattle.run_trace.specs.Stands.{busy, busy_name, busy_part, thread_part, held_in_stage, holding_of}
use Rattle.run_trace.proofs.Lemmas.{is-true, is-refl}
use Rattle.trace_laws.proofs.Lists.KeyedLemmas.{lookup-set_same, kept, fronted, map_set}
use Rattle.trace_laws.proofs.Lives.RunLemmas.{run_does, run_stepped, run_slots}
use Rattle.trace_laws.proofs.Lists.SeatedLabels.{nobody_departs, chosen_there}
use Rattle.trace_laws.proofs.Underway.Steps.{own_starts, own_alone, after_first, home_step}
use Rattle.run_trace.specs.World.{World, world_after}
use Rattle.run_trace.specs.Obeying.{Allows, IsChoice}
use Rattle.trace_laws.proofs.Underway.Midst.{Outset, having_said, Links, Midst, spots_with, own_forest, keeps, Then, updated}
use Rattle.trace_laws.proofs.Lists.Parts.{thread_was, busy_was, busy_none}
use Rattle.trace_laws.proofs.Lists.Stages.{is_in_hand, hand_home, hand_busy, hand_thread}
use Rattle.run_trace.specs.Items.{is_busy, is_seeking, Item, Chooses}

-- a thread that has run is still here
pub ran_there : (t : Tid) (vp : ℕ) (r : Run) (x : Thread) (d : EventSoFar) → thread_at t d ≡ Some x → thread_at t (ran t vp r x d) ≡ Some (record x { guest = with_state r.state x.guest })
unfolding ran say keep choose
ran_there t vp r x d h = lookup-set_same is_tid is-true is-refl d.node.threads t _ x h

-- the run that the thread makes, its label, and what becomes of the thread
abbrev pub run_now : Program → Occasion → Spots → Tid → Run
run_now p q v t = run_of (code_of p) (quantum_in q.act) (v.threads t).guest.solo.state

abbrev pub ran_label : Program → Occasion → Spots → Tid → ℕ → Label
ran_label p q v t vp = Ran t vp (run_now p q v t).count (run_now p q v t).stop

abbrev ran_with : Program → Occasion → ℕ → Spots → Tid → HartState → Spot
ran_with p q n v t z = record (v.threads t) { life = On n (ran_stage (run_now p q v t).stop z); guest = with_state z (v.threads t).guest }

ran_same : (p : Program) (q : Occasion) (n : ℕ) (v : Spots) (t : Tid) (vp : ℕ) → after_label p n (ran_label p q v t vp) v
    ≡ spots_with (update v.threads t (ran_with p q n v t (run_now p q v t).state)) v.slots v.births v.sems (forests_after p n (ran_label p q v t vp) v) v.halts v.remote
ran_same p q n v t vp =
    ap (λ (z : HartState). spots_with (update v.threads t (ran_with p q n v t z)) v.slots v.births v.sems (forests_after p n (ran_label p q v t vp) v) v.halts v.remote) (run_stepped (code_of p) (quantum_in q.act) (v.threads t).guest.solo.state)

ran_allowed : (p : Program) (q : Occasion) (n : ℕ) (said : List Label) (v : World) (t : Tid) (vp : ℕ) → (v.spots.threads t).life ≡ On n Ready → is_listed t (v.spots.forests n) ≡ true → Allows p (having_said said q) n (ran_label p q v.spots t vp) v
ran_allowed p q n said v t vp x listed =
    let s : HartState = (v.spots.threads t).guest.solo.state in
    let r : Run = run_now p q v.spots t in
    record {
      life = (x, listed);
      holders = tt;
      replies = tt;
      grants = tt;
      solo = subst (λ (z : HartState). (after (code_of p) s r.count ≡ Some z) × StopsBy (code_of p) z (quantum_in q.act) r.count r.stop) (sym (run_stepped (code_of p) (quantum_in q.act) s)) ((run_does (code_of p) (quantum_in q.act) s).steps, (run_does (code_of p) (quantum_in q.act) s).stop);
    }

-- a run changes nothing of what its thread holds
ran_holding : (p : Program) (q : Occasion) (v : Spots) (t : Tid) → Some (holding_of (with_state (run_now p q v t).state (v.threads t).guest)) ≡ Some (holding_of (v.threads t).guest)
ran_holding p q v t =
    let g : Guest = (v.threads t).guest in
    ap (λ (xs : List ℕ). Some (record { slots = xs; stack = g.solo.stack; live = g.solo.live })) (run_slots (code_of p) (quantum_in q.act) g.solo.state)

-- what the thread has become
pub ran_guest : (p : Program) (q : Occasion) (n : ℕ) (v u : World) (t : Tid) (vp : ℕ) → u ≡ world_after p n (ran_label p q v.spots t vp) v → (u.spots.threads t).guest ≡ with_state (run_now p q v.spots t).state (v.spots.threads t).guest
ran_guest p q n v u t vp e = ap (λ (z : World). (z.spots.threads t).guest) e ∙ ap (λ (z : Spots). (z.threads t).guest) (ran_same p q n v.spots t vp) ∙ ap (λ (z : Spot). z.guest) (updated v.spots.threads t (ran_with p q n v.spots t (run_now p q v.spots t).state))

module _ {outset : Outset} {ahead : List Item} {L : Links} where
  open outset use {program as p, net, occasion as q, node as n, opening, world as w}

  -- the thread that a processor has chosen is on a run list, and ready
  pub chosen_ready : (d : EventSoFar) (t : Tid) (vp : ℕ) → (m : Midst outset (Chooses vp ∷ ahead) L d []) → (step vp (m.now.spots.forests n)).what ≡ Takes t
      → (is_listed t (m.now.spots.forests n) ≡ true) × ((m.now.spots.threads t).life ≡ On n Ready)
  chosen_ready d t vp m chosen = chosen_there p n vp t m.now.spots (m.seated n) (nobody_departs n m.now.spots.threads [] m.here.busy tt) chosen

  -- a run to a call or a fault
  pub ran_ok : (d : EventSoFar) (t : Tid) (vp : ℕ) (b : Stage) → (m : Midst outset (Chooses vp ∷ ahead) L d []) → ((f : ForestView) → ran_forest (run_now p q m.now.spots t).stop t f ≡ f) → (step vp (m.now.spots.forests n)).what ≡ Takes t
      → ran_stage (run_now p q m.now.spots t).stop (run_now p q m.now.spots t).state ≡ b → is_in_hand b ≡ true
      → held_in_stage b (with_state (run_now p q m.now.spots t).state (m.now.spots.threads t).guest) ≡ Some (holding_of (with_state (run_now p q m.now.spots t).state (m.now.spots.threads t).guest))
      → Then outset ahead L m.now (ran_label p q m.now.spots t vp) (ran t vp (run_now p q m.now.spots t) (waits wait.No (m.now.spots.threads t).guest) d) (busy t (On n b) ∷ [])
  unfolding ran choose say keep
  ran_ok d t vp b m rest chosen st here slots =
      let v : Spots = m.now.spots in
      let s : Spot = m.now.spots.threads t in
      let r : Spot = ran_with p q n m.now.spots t (run_now p q m.now.spots t).state in
      let ready = chosen_ready d t vp m chosen in
      let x : s.life ≡ On n Ready = ready.1 in
      let y : r.life ≡ On n b = ap (λ z. On n z) st in
      home_step (busy t (On n b) ∷ []) (ran_label p q m.now.spots t vp) t r _ Ready b m
      (record {
        same = ran_same p q n m.now.spots t vp;
        may = ran_allowed p q n d.labels m.now t vp x ready.0;
        ties = record {
          threads = map_set is_tid is-true is-refl (thread_part n) v.threads t r d.node.threads (waits wait.No s.guest) _ m.here.threads (thread_was n t s Ready x) (thread_was n t r b y ∙ hand_thread n b r.guest here);
          busy = fronted is_tid is-true is-refl busy_name (busy_part n) v.threads t r [] (busy t (On n b)) m.here.busy refl (busy_none n t s (On n Ready) x refl) (busy_was n t r (On n b) y (hand_busy n b here));
        };
        births = refl;
        sems = refl;
        free = refl;
        halted = refl;
        next = own_starts (subst (λ z. IsChoice vp z (ran_label p q m.now.spots t vp)) (sym chosen) (_, _, refl)) refl refl tt (ap (is_busy n) y ∙ hand_busy n b here);
        after = after_first (Chooses vp) refl;
        talk = refl;
        forest = ap (λ f. (step vp f).after) m.here.forest ∙ sym (rest _) ∙ own_forest v.forests n _;
        shifted = chosen;
        booted = refl;
      })
      (record {
        sent = refl;
        shown = refl;
        was = x;
        is = y;
        home_was = refl;
        home_is = hand_home b here;
      })
      (keeps _ _ (slots ∙ ran_holding p q m.now.spots t))

  -- a run of the whole quantum
  pub runs_out_ok : (d : EventSoFar) (t : Tid) (vp : ℕ) → (m : Midst outset (Chooses vp ∷ ahead) L d []) → ((f : ForestView) → ran_forest (run_now p q m.now.spots t).stop t f ≡ goes_on t f) → (step vp (m.now.spots.forests n)).what ≡ Takes t
      → ran_stage (run_now p q m.now.spots t).stop (run_now p q m.now.spots t).state ≡ Ready
      → Midst outset ahead L (arrive t (ran t vp (run_now p q m.now.spots t) (waits wait.No (m.now.spots.threads t).guest) d)) []
  unfolding arrive ran choose say keep
  runs_out_ok d t vp m back chosen st =
      let v : Spots = m.now.spots in
      let s : Spot = m.now.spots.threads t in
      let r : Spot = ran_with p q n m.now.spots t (run_now p q m.now.spots t).state in
      let ready = chosen_ready d t vp m chosen in
      let x : s.life ≡ On n Ready = ready.1 in
      let y : r.life ≡ On n Ready = ap (λ z. On n z) st in
      (home_step [] (ran_label p q m.now.spots t vp) t r _ Ready Ready m
      (record {
        same = ran_same p q n m.now.spots t vp;
        may = ran_allowed p q n d.labels m.now t vp x ready.0;
        ties = record {
          threads = map_set is_tid is-true is-refl (thread_part n) v.threads t r d.node.threads (waits wait.No s.guest) _ m.here.threads (thread_was n t s Ready x) (thread_was n t r Ready y);
          busy = kept is_tid is-true is-refl busy_name (busy_part n) v.threads t r [] m.here.busy (busy_none n t r (On n Ready) y refl ∙ sym (busy_none n t s (On n Ready) x refl));
        };
        births = refl;
        sems = refl;
        free = refl;
        halted = refl;
        next = own_alone (subst (λ z. IsChoice vp z (ran_label p q m.now.spots t vp)) (sym chosen) (_, _, refl)) refl refl tt (ap (is_busy n) y) (ap (is_seeking n) y);
        after = after_first (Chooses vp) refl;
        talk = refl;
        forest = ap (λ f. goes_on t (step vp f).after) m.here.forest ∙ sym (back _) ∙ own_forest v.forests n _;
        shifted = chosen;
        booted = refl;
      })
      (record {
        sent = refl;
        shown = refl;
        was = x;
        is = y;
        home_was = refl;
        home_is = refl;
      })
      (keeps _ _ (ran_holding p q m.now.spots t))).midst
