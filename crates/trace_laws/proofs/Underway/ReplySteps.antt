-- Replies, on an event in its midst: what is judged, and then told.
use Rattle.std.proofs.Common.{◌≡◌, ℕ, List, [], ◌∷◌, Option, Some, None, true, false, eqb, cond, refl, sym, ap, ◌∙◌, subst}
use Rattle.std.proofs.lemmas.Bool.{eq-eqb}
use Rattle.slot_space.specs.declared.names.Tid.{Tid}
use Rattle.run_trace.specs.declared.label.Label.TheVariants.{Judged, Told}
use Rattle.run_trace.specs.declared.label.Extra.TheVariants.{Nothing}
use Rattle.run_trace.specs.declared.node.Wait.TheVariants as wait
use Rattle.run_trace.specs.Names.{is_tid}
use Rattle.run_trace.specs.Program.{Program}
use Rattle.run_trace.specs.Guests.{Guest, waits, told}
use Rattle.run_trace.specs.declared.call.Call.{Call}
use Rattle.run_trace.specs.declared.call.Call.TheVariants.{MigrateSelf}
use Rattle.run_trace.specs.Calls.{extra_of}
use Rattle.run_trace.specs.Local.{EventSoFar}
use Rattle.bubbles.specs.Forests.{goes_on}
use Rattle.run_trace.specs.Steps.{say, arrive, keep, judge, tell, tell_found, judge_as}
use Rattle.run_trace.specs.Machine.{answer, judge_and_tell}
use Rattle.run_trace.specs.Keyed.{StandsFor}
use Rattle.run_trace.specs.Spots.{Stage, Ready, Due, Served, Told_next, Told_then, Departs, Life, On, Response, Spot, Spots, update, at_node, after_label, second_of, judged_stage, judged_life, judged_guest, told_stage}
use Rattle.run_trace.specs.Rules.{MayTell}
use Rattle.run_trace.specs.Stands.{Busy, busy, busy_name, busy_part, thread_part, held_in_stage, holding_of}
use Rattle.run_trace.proofs.Lemmas.{is-true, is-refl}
use Rattle.trace_laws.proofs.Lists.KeyedLemmas.{unfronted, refronted, map_kept, map_set}
use Rattle.trace_laws.proofs.Underway.Steps.{in_hand, own_stays, own_goes, on_node, home_step}
use Rattle.run_trace.specs.Causes.{causes, judged_causes}
use Rattle.run_trace.specs.World.{World, world_after}
use Rattle.run_trace.specs.Obeying.{Allows}
use Rattle.trace_laws.proofs.Underway.Midst.{as_before, Outset, having_said, Own, Links, Midst, spots_with, own_forest, Keeps, keeps, Then, updated}
use Rattle.trace_laws.proofs.Lists.Parts.{thread_was, busy_was, busy_none}
use Rattle.trace_laws.proofs.Lists.Stages.{is_in_hand, hand_home, hand_busy, hand_thread, told_home, told_thread, told_held}
use Rattle.run_trace.specs.Items.{Item}

-- what a thread that is told is then
abbrev told_with : ℕ → Spots → Tid → Stage → Spot
told_with n v t b = record (v.threads t) { life = On n b; guest = told (v.threads t).verdict.code (second_of (v.threads t).verdict.extra) (v.threads t).guest }

-- the judged reply is what is told next
judged_verdict : (p : Program) (n : ℕ) (v u : World) (t : Tid) (code : ℕ) (second : Option ℕ) (s : Spot) → u ≡ world_after p n (Judged t code (extra_of second)) v
    → after_label p n (Judged t code (extra_of second)) v.spots ≡ spots_with (update v.spots.threads t s) v.spots.slots v.spots.births v.spots.sems v.spots.forests v.spots.halts v.spots.remote
    → (u.spots.threads t).verdict ≡ s.verdict
judged_verdict p n v u t code second s e same = ap (λ (z : World). (z.spots.threads t).verdict) e ∙ ap (λ (z : Spots). (z.threads t).verdict) same ∙ ap (λ (z : Spot). z.verdict) (updated v.spots.threads t s)

judged_same : (p : Program) (n : ℕ) (v : Spots) (t : Tid) (code : ℕ) (second : Option ℕ) (life : Life) → (v.threads t).life ≡ life
    → after_label p n (Judged t code (extra_of second)) v ≡ spots_with (update v.threads t (record { life = judged_life life; guest = judged_guest life (v.threads t).guest; verdict = record { code = code; extra = extra_of second } })) v.slots v.births v.sems v.forests v.halts v.remote
judged_same p n v t code second life x =
    ap (λ z. spots_with (update v.threads t (record { life = judged_life z; guest = judged_guest z (v.threads t).guest; verdict = record { code = code; extra = extra_of second } })) v.slots v.births v.sems v.forests v.halts v.remote) x

module _ {outset : Outset} {ahead : List Item} {L : Links} where
  open outset use {program as p, net, occasion as q, node as n, opening, world as w}

  -- a reply is judged: its thread is in hand before and after
  judge_ok : {d : EventSoFar} {hs : List Busy} (t : Tid) (code : ℕ) (second : Option ℕ) (a b : Stage) → (m : Midst outset ahead L d (busy t (On n a) ∷ hs))
      → Allows p (having_said d.labels q) n (Judged t code (extra_of second)) m.now
      → after_label p n (Judged t code (extra_of second)) m.now.spots ≡ spots_with (update m.now.spots.threads t (record (m.now.spots.threads t) { life = On n b; verdict = record { code = code; extra = extra_of second } })) m.now.spots.slots m.now.spots.births m.now.spots.sems m.now.spots.forests m.now.spots.halts m.now.spots.remote
      → causes p n (Judged t code (extra_of second)) m.now.spots ≡ []
      → is_in_hand a ≡ true → is_in_hand b ≡ true → Keeps (held_in_stage a (m.now.spots.threads t).guest) (held_in_stage b (m.now.spots.threads t).guest)
      → Then outset ahead L m.now (Judged t code (extra_of second)) (judge t code second d) (busy t (On n b) ∷ hs)
  unfolding judge say
  judge_ok {d} {hs} t code second a b m ok same sent here then holds =
      let v : Spots = m.now.spots in
      let s : Spot = m.now.spots.threads t in
      let x : s.life ≡ On n a = in_hand m in
      let r : Spot = record s { life = On n b; verdict = record { code = code; extra = extra_of second } } in
      home_step (busy t (On n b) ∷ hs) (Judged t code (extra_of second)) t r d.node a b m
      (record {
        same = same;
        may = ok;
        ties = record {
          threads = map_kept is_tid is-true is-refl (thread_part n) v.threads t r d.node.threads m.here.threads (thread_was n t r b refl ∙ hand_thread n b s.guest then ∙ sym (thread_was n t s a x ∙ hand_thread n a s.guest here));
          busy = refronted is_tid is-true is-refl busy_name (busy_part n) v.threads t r hs (busy t (On n a)) (busy t (On n b)) m.here.busy refl refl (busy_was n t r (On n b) refl (hand_busy n b then));
        };
        births = refl;
        sems = refl;
        free = refl;
        halted = refl;
        next = own_stays m refl refl tt (hand_busy n b then);
        after = as_before;
        talk = refl;
        forest = m.here.forest;
        shifted = tt;
        booted = refl;
      })
      (record {
        sent = sent;
        shown = refl;
        was = x;
        is = refl;
        home_was = hand_home a here;
        home_is = hand_home b then;
      })
      holds

  -- a thread in this stage is told, and goes on
  tells_ok : (d : EventSoFar) (t : Tid) (a : Stage) (hs more : List Busy) → (m : Midst outset ahead L d (busy t (On n a) ∷ hs))
      → MayTell n (On n a) → is_in_hand a ≡ true → ((g : Guest) → held_in_stage a g ≡ Some (holding_of g))
      → StandsFor is_tid busy_name (busy_part n) more (update m.now.spots.threads t (told_with n m.now.spots t (told_stage (On n a))))
      → Own p n (Told t) t m.now.spots ahead ahead (busy t (On n a) ∷ hs) more (On n (told_stage (On n a)))
      → Midst outset ahead L (tell t (m.now.spots.threads t).verdict.code (second_of (m.now.spots.threads t).verdict.extra) d) more
  unfolding tell arrive say keep
  tells_ok d t a hs more m may here holds hand own =
      let v : Spots = m.now.spots in
      let s : Spot = m.now.spots.threads t in
      let x : s.life ≡ On n a = in_hand m in
      let y : Guest = told s.verdict.code (second_of s.verdict.extra) s.guest in
      let b : Stage = told_stage (On n a) in
      let r : Spot = told_with n m.now.spots t b in
      subst (λ o. Midst outset ahead L (tell_found t s.verdict.code (second_of s.verdict.extra) o d) more) (sym (on_node t a m x ∙ hand_thread n a s.guest here))
      (home_step more (Told t) t r _ a b m
      (record {
        same = ap (λ z. spots_with (update v.threads t (record s { life = On n z; guest = y })) v.slots v.births v.sems (at_node v.forests n (goes_on t (v.forests n))) v.halts v.remote) (ap told_stage x);
        may = record { solo = tt; holders = tt; life = subst (λ z. MayTell n z) (sym x) may; replies = tt; grants = tt };
        ties = record {
          threads = map_set is_tid is-true is-refl (thread_part n) v.threads t r d.node.threads (waits wait.No s.guest) (waits wait.No y) m.here.threads (thread_was n t s a x ∙ hand_thread n a s.guest here) (thread_was n t r b refl ∙ told_thread n (On n a) y);
          busy = hand;
        };
        births = refl;
        sems = refl;
        free = refl;
        halted = refl;
        next = own;
        after = as_before;
        talk = refl;
        forest = ap (goes_on t) m.here.forest ∙ own_forest v.forests n (goes_on t (v.forests n));
        shifted = tt;
        booted = refl;
      })
      (record {
        sent = refl;
        shown = refl;
        was = x;
        is = refl;
        home_was = hand_home a here;
        home_is = told_home (On n a);
      })
      (keeps _ _ (told_held (On n a) y ∙ sym (holds s.guest)))).midst

  -- it is told, and is ready
  pub tell_ok : (d : EventSoFar) (t : Tid) (hs : List Busy) → (m : Midst outset ahead L d (busy t (On n Told_next) ∷ hs)) → Midst outset ahead L (tell t (m.now.spots.threads t).verdict.code (second_of (m.now.spots.threads t).verdict.extra) d) hs
  tell_ok d t hs m =
      let v : Spots = m.now.spots in
      let r : Spot = told_with n m.now.spots t Ready in
      tells_ok d t Told_next hs hs m refl refl (λ g. refl)
      (unfronted is_tid is-true is-refl busy_name (busy_part n) v.threads t r hs (busy t (On n Told_next)) m.here.busy refl (busy_none n t r (On n Ready) refl refl))
      (own_goes m refl refl tt refl refl)

  -- it is told, and leaves next
  tell_then_ok : (d : EventSoFar) (t : Tid) (to : ℕ) (hs : List Busy) → (m : Midst outset ahead L d (busy t (On n (Told_then to)) ∷ hs)) → Midst outset ahead L (tell t (m.now.spots.threads t).verdict.code (second_of (m.now.spots.threads t).verdict.extra) d) (busy t (On n (Departs to)) ∷ hs)
  tell_then_ok d t to hs m =
      let v : Spots = m.now.spots in
      let r : Spot = told_with n m.now.spots t (Departs to) in
      tells_ok d t (Told_then to) hs (busy t (On n (Departs to)) ∷ hs) m refl refl (λ g. refl)
      (refronted is_tid is-true is-refl busy_name (busy_part n) v.threads t r hs (busy t (On n (Told_then to))) (busy t (On n (Departs to))) m.here.busy refl refl (busy_was n t r (On n (Departs to)) refl (eq-eqb n n refl)))
      (own_stays m refl refl tt (eq-eqb n n refl))

  -- a thread that is due a reply has it at once
  pub answer_ok : (d : EventSoFar) (t : Tid) (code : ℕ) (hs : List Busy) → (m : Midst outset ahead L d (busy t (On n (Due code)) ∷ hs)) → Midst outset ahead L (answer t code d) hs
  answer_ok d t code hs m =
      let x : (m.now.spots.threads t).life ≡ On n (Due code) = in_hand m in
      let same = judged_same p n m.now.spots t code None (On n (Due code)) x in
      let k = judge_ok t code None (Due code) Told_next m (record { solo = tt; holders = tt; life = rw x refl; replies = rw x (refl, refl); grants = tt }) same (ap (judged_causes t) x) refl refl (keeps _ _ refl) in
      subst (λ (z : Response). Midst outset ahead L (tell t z.code (second_of z.extra) (judge t code None d)) hs) (judged_verdict p n m.now k.midst.now t code None _ k.now same)
      (tell_ok (judge t code None d) t hs k.midst)

  -- a move to another node is answered, and leaves next
  pub answer_move_ok : (d : EventSoFar) (t : Tid) (to : ℕ) (hs : List Busy) → (m : Midst outset ahead L d (busy t (On n (Served (MigrateSelf to))) ∷ hs)) → eqb to n ≡ false → Midst outset ahead L (answer t 0 d) (busy t (On n (Departs to)) ∷ hs)
  answer_move_ok d t to hs m away =
      let v : Spots = m.now.spots in
      let stage : Stage = Served (MigrateSelf to) in
      let x : (m.now.spots.threads t).life ≡ On n stage = in_hand m in
      let same = judged_same p n m.now.spots t 0 None (On n stage) x
      ∙ ap (λ z. spots_with (update v.threads t (record { life = On n (cond z Told_next (Told_then to)); guest = (m.now.spots.threads t).guest; verdict = record { code = 0; extra = Nothing } })) v.slots v.births v.sems v.forests v.halts v.remote) away in
      let k = judge_ok t 0 None stage (Told_then to) m (record { solo = tt; holders = tt; life = rw x refl; replies = rw x (refl, refl); grants = tt }) same (ap (judged_causes t) x) refl refl (keeps _ _ refl) in
      subst (λ (z : Response). Midst outset ahead L (tell t z.code (second_of z.extra) (judge t 0 None d)) (busy t (On n (Departs to)) ∷ hs)) (judged_verdict p n m.now k.midst.now t 0 None _ k.now same)
      (tell_then_ok (judge t 0 None d) t to hs k.midst)

  -- a move to the thread's own node is answered, and it is ready
  pub answer_stay_ok : (d : EventSoFar) (t : Tid) (to : ℕ) (hs : List Busy) → (m : Midst outset ahead L d (busy t (On n (Served (MigrateSelf to))) ∷ hs)) → eqb to n ≡ true → Midst outset ahead L (answer t 0 d) hs
  answer_stay_ok d t to hs m stays =
      let v : Spots = m.now.spots in
      let stage : Stage = Served (MigrateSelf to) in
      let x : (m.now.spots.threads t).life ≡ On n stage = in_hand m in
      let same = judged_same p n m.now.spots t 0 None (On n stage) x
      ∙ ap (λ z. spots_with (update v.threads t (record { life = On n (cond z Told_next (Told_then to)); guest = (m.now.spots.threads t).guest; verdict = record { code = 0; extra = Nothing } })) v.slots v.births v.sems v.forests v.halts v.remote) stays in
      let k = judge_ok t 0 None stage Told_next m (record { solo = tt; holders = tt; life = rw x refl; replies = rw x (refl, refl); grants = tt }) same (ap (judged_causes t) x) refl refl (keeps _ _ refl) in
      subst (λ (z : Response). Midst outset ahead L (tell t z.code (second_of z.extra) (judge t 0 None d)) hs) (judged_verdict p n m.now k.midst.now t 0 None _ k.now same)
      (tell_ok (judge t 0 None d) t hs k.midst)

  -- a reply that changes its thread
  pub judge_as_ok : (d : EventSoFar) (t : Tid) (code : ℕ) (g : Guest) (c : Call) (hs : List Busy) → (m : Midst outset ahead L d (busy t (On n (Served c)) ∷ hs))
      → judged_stage n c ≡ Told_next → judged_guest (On n (Served c)) (m.now.spots.threads t).guest ≡ g
      → Allows p (having_said d.labels q) n (Judged t code Nothing) m.now
      → Keeps (held_in_stage (Served c) (m.now.spots.threads t).guest) (Some (holding_of g))
      → Then outset ahead L m.now (Judged t code Nothing) (judge_as t code g d) (busy t (On n Told_next) ∷ hs)
  unfolding judge_as keep say
  judge_as_ok d t code g c hs m next becomes ok holds =
      let v : Spots = m.now.spots in
      let s : Spot = m.now.spots.threads t in
      let x : s.life ≡ On n (Served c) = in_hand m in
      let r : Spot = record { life = On n Told_next; guest = g; verdict = record { code = code; extra = Nothing } } in
      let same = judged_same p n m.now.spots t code None (On n (Served c)) x
      ∙ ap (λ z. spots_with (update v.threads t (record { life = On n z; guest = judged_guest (On n (Served c)) s.guest; verdict = record { code = code; extra = Nothing } })) v.slots v.births v.sems v.forests v.halts v.remote) next
      ∙ ap (λ (z : Guest). spots_with (update v.threads t (record { life = On n Told_next; guest = z; verdict = record { code = code; extra = Nothing } })) v.slots v.births v.sems v.forests v.halts v.remote) becomes in
      home_step (busy t (On n Told_next) ∷ hs) (Judged t code Nothing) t r _ (Served c) Told_next m
      (record {
        same = same;
        may = ok;
        ties = record {
          threads = map_set is_tid is-true is-refl (thread_part n) v.threads t r d.node.threads (waits wait.No s.guest) (waits wait.No g) m.here.threads (thread_was n t s (Served c) x) (thread_was n t r Told_next refl);
          busy = refronted is_tid is-true is-refl busy_name (busy_part n) v.threads t r hs (busy t (On n (Served c))) (busy t (On n Told_next)) m.here.busy refl refl (busy_was n t r (On n Told_next) refl (eq-eqb n n refl));
        };
        births = refl;
        sems = refl;
        free = refl;
        halted = refl;
        next = own_stays m refl refl tt (eq-eqb n n refl);
        after = as_before;
        talk = refl;
        forest = m.here.forest;
        shifted = tt;
        booted = refl;
      })
      (record {
        sent = ap (judged_causes t) x;
        shown = refl;
        was = x;
        is = refl;
        home_was = refl;
        home_is = refl;
      })
      holds

  -- and is told at once
  pub judge_and_tell_ok : (d : EventSoFar) (t : Tid) (code : ℕ) (g : Guest) (c : Call) (hs : List Busy) → (m : Midst outset ahead L d (busy t (On n (Served c)) ∷ hs))
      → judged_stage n c ≡ Told_next → judged_guest (On n (Served c)) (m.now.spots.threads t).guest ≡ g
      → Allows p (having_said d.labels q) n (Judged t code Nothing) m.now
      → Keeps (held_in_stage (Served c) (m.now.spots.threads t).guest) (Some (holding_of g))
      → Midst outset ahead L (judge_and_tell t code g d) hs
  judge_and_tell_ok d t code g c hs m next becomes ok holds =
      let k = judge_as_ok d t code g c hs m next becomes ok holds in
      subst (λ (z : Response). Midst outset ahead L (tell t z.code (second_of z.extra) (judge_as t code g d)) hs) (judged_verdict p n m.now k.midst.now t code None _ k.now refl)
      (tell_ok (judge_as t code g d) t hs k.midst)
