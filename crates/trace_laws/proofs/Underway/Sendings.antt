-- A call by which a thread sends another one of its node away, on an event in its midst.
use Rattle.std.proofs.Common.{◌≡◌, ℕ, ◌<◌, List, [], ◌∷◌, Some, None, Bool, true, false, eqb, cond, ◌&&◌, refl, sym, ap, ◌∙◌, subst, inl, inr}
use Rattle.std.specs.Prelude.{not}
use Rattle.std.proofs.lemmas.Bool.{eq-eqb, eqb-false}
use Rattle.slot_space.specs.Replies.{reply_code}
use Rattle.slot_space.specs.declared.names.Tid.{Tid}
use Rattle.slot_space.specs.declared.names.Reply.TheVariants as replies
use Rattle.run_trace.specs.Names.{is_tid}
use Rattle.run_trace.specs.Program.{Program, nodes_of}
use Rattle.run_trace.specs.Guests.{waits}
use Rattle.run_trace.specs.declared.node.Wait.TheVariants as wait
use Rattle.run_trace.specs.Local.{Local, EventSoFar}
use Rattle.run_trace.specs.Cluster.{Net}
use Rattle.run_trace.specs.Bubbles.{is_listed}
use Rattle.run_trace.specs.Steps.{say, asks, at_thread}
use Rattle.run_trace.specs.Machine.{answer, goes, sends_away}
use Rattle.run_trace.specs.Spots.{Ready, Running, Departs, Due, On, Spot, Spots, Remote, update, sent_stage, sent_away}
use Rattle.run_trace.specs.Stands.{Busy, busy, busy_name, busy_part, thread_part, ways_of, held, waiter_in_life}
use Rattle.run_trace.specs.Items.{Item}
use Rattle.run_trace.proofs.Lemmas.{is-true, is-refl, is-other}
use Rattle.trace_laws.proofs.Lists.KeyedLemmas.{fronted, map_kept}
use Rattle.trace_laws.proofs.Lists.Parts.{thread_was, busy_was, busy_none}
use Rattle.trace_laws.proofs.Underway.Midst.{Outset, StandsAmid, amid, Links, Midst, under, spots_with, links_kept, queued, queued_kept, keeps}
use Rattle.trace_laws.proofs.Underway.Steps.{in_hand, at_ok}
use Rattle.trace_laws.proofs.Underway.CallSteps.{call_at, departs_ok, asks_ok, same_at, nobody_leaves}
use Rattle.trace_laws.proofs.Lists.SeatedLabels.{listed_life}
use Rattle.trace_laws.proofs.Underway.ReplySteps.{answer_ok}
use Rattle.trace_laws.proofs.Underway.Semaphores.{spot_amid, home_spot}
use Rattle.trace_laws.proofs.Underway.SemaphoreSteps.{IsAsked, asks_both}

-- a thread that is ready is about to leave, and in hand
departs_amid : {p : Program} {net : Net} {n : ℕ} {v : Spots} {M : Links} {s : Local} {hand : List Busy} {ahead : List Item} {remote : Remote} (u : Tid) (to : ℕ) → StandsAmid p net n v M s hand ahead → (v.threads u).life ≡ On n Ready
    → StandsAmid p net n (spots_with (update v.threads u (record (v.threads u) { life = On n (Departs to) })) v.slots v.births v.sems v.forests v.halts remote) M s (busy u (On n (Departs to)) ∷ hand) ahead
departs_amid {n = n} {v} {M} {s} {hand} u to o x =
    let old : Spot = v.threads u in
    let r : Spot = record old { life = On n (Departs to) } in
    spot_amid s (busy u (On n (Departs to)) ∷ hand) u r o
    (record {
      threads = map_kept is_tid is-true is-refl (thread_part n) v.threads u r s.threads o.here.threads (thread_was n u r (Departs to) refl ∙ sym (thread_was n u old Ready x));
      busy = fronted is_tid is-true is-refl busy_name (busy_part n) v.threads u r hand (busy u (On n (Departs to))) o.here.busy refl (busy_none n u old (On n Ready) x refl) (busy_was n u r (On n (Departs to)) refl (eq-eqb n n refl));
    })
    (record { births = refl; forest = refl; sems = o.here.sems; free = refl; halted = refl; talk = refl })
    (home_spot r Ready (Departs to) x refl refl refl (keeps _ _ (sym (ap (λ l. held l old.guest) x)))
    (queued_kept v.threads u r (queued o.agrees) (λ h j. ap (waiter_in_life h j u) x) (λ h j. refl)) (λ k e. refl))
    (links_kept u r v.threads M o.links (sym (ap (λ l. ways_of u l old.verdict old.guest) x))) (λ i j. refl)

module _ {outset : Outset} {ahead : List Item} {L : Links} where
  open outset use {program as p, net, occasion as q, node as n, opening, world as w}

  -- the thread's call sends u to that node; its own semaphores stay
  pub sends_away_ok : (d : EventSoFar) (t u : Tid) (to : ℕ) → (m : Midst outset ahead L d (busy t (On n Running) ∷ []))
      → IsAsked p n t m.now.spots (sent_away n false u to (is_listed u (m.now.spots.forests n))) (sent_stage false to (is_listed u (m.now.spots.forests n))) (m.now.spots.sems n) → to < nodes_of p
      → Midst outset ahead L (sends_away p n u to t (is_listed u (asks t (call_at m.now.spots t) d).node.forest) (asks t (call_at m.now.spots t) d)) []
  unfolding asks say
  sends_away_ok d t u to m asked inside = subst (λ b. Midst outset ahead L (sends_away p n u to t b (asks t (call_at m.now.spots t) d)) []) (sym (ap (is_listed u) m.here.forest)) (by listed refl (eqb to n) refl)
    where
      listed : Bool
      listed = is_listed u (m.now.spots.forests n)

      after : EventSoFar
      after = asks t (call_at m.now.spots t) d

      -- nobody leaves
      alone : (code : ℕ) → sent_stage false to listed ≡ Due code → sent_away n false u to listed ≡ None → Midst outset ahead L (answer t code after) []
      alone code stage none = answer_ok after t code []
          (asks_ok d t (Due code) m (record { stage = asked.stage ∙ stage; going = asked.going ∙ none; sems = asked.sems; bubbles = asked.bubbles }) asked.bytes refl refl (keeps _ _ refl))

      -- who is on a list then is ready
      ready : listed ≡ true → (m.now.spots.threads u).life ≡ On n Ready
      ready e = elim (listed_life p n u m.now.spots (m.seated n) e) as (λ k. (m.now.spots.threads u).life ≡ On n Ready) [ inl x ↦ x | inr y ↦ absurd (nobody_leaves m u y.0 y.1) ]

      by : (b : Bool) → listed ≡ b → (c : Bool) → eqb to n ≡ c → Midst outset ahead L (sends_away p n u to t b after) []
      by false e c f = alone (reply_code replies.NotHere) (ap (λ b. Due (reply_code (cond b (replies.Value 0) replies.NotHere))) e) (ap (λ b. cond (b && not (eqb to n)) (Some (u, On n (Departs to))) None) e)
      by true e true f = subst (λ c. Midst outset ahead L (answer t 0 (cond c after (at_thread u (goes p u to) after))) []) (sym f)
          (alone 0 (ap (λ b. Due (reply_code (cond b (replies.Value 0) replies.NotHere))) e) (ap (λ b. cond (b && not (eqb to n)) (Some (u, On n (Departs to))) None) e ∙ ap (λ c. cond (not c) (Some (u, On n (Departs to))) None) f))
      by true e false f =
          let x : (m.now.spots.threads u).life ≡ On n Ready = ready e in
          let y : (m.now.spots.threads t).life ≡ On n Running = in_hand m in
          let apart : is_tid u t ≡ false = is-other u t (λ g. absurd (cc (x, y, ap (λ z. (m.now.spots.threads z).life) g))) in
          let both : IsAsked p n t m.now.spots (Some (u, On n (Departs to))) (Due 0) (m.now.spots.sems n) = record {
            going = asked.going ∙ ap (λ b. cond (b && not (eqb to n)) (Some (u, On n (Departs to))) None) e ∙ ap (λ c. cond (not c) (Some (u, On n (Departs to))) None) f;
            stage = asked.stage ∙ ap (λ b. Due (reply_code (cond b (replies.Value 0) replies.NotHere))) e;
            sems = asked.sems;
            bytes = asked.bytes;
            bubbles = asked.bubbles;
          } in
          let k : Midst outset ahead L after (busy u (On n (Departs to)) ∷ busy t (On n (Due 0)) ∷ []) = asks_both d t u 0 (On n (Departs to)) d.node m both apart (eq-eqb n n refl)
          (subst (λ z. StandsAmid p net n (spots_with (update m.now.spots.threads u (record (m.now.spots.threads u) { life = On n (Departs to) })) m.now.spots.slots m.now.spots.births z m.now.spots.forests m.now.spots.halts m.now.spots.remote) (under n L d.sends) d.node (busy u (On n (Departs to)) ∷ busy t (On n Running) ∷ []) ahead)
          (sym (same_at m.now.spots.sems n (m.now.spots.sems n) refl)) (departs_amid u to (amid m) x)) refl refl in
          subst (λ c. Midst outset ahead L (answer t 0 (cond c after (at_thread u (goes p u to) after))) []) (sym f)
          (answer_ok (at_thread u (goes p u to) after) t 0 []
          (at_ok after (busy t (On n (Due 0)) ∷ []) u (Departs to) (goes p u to) k (in_hand k) (refl {a = Some (waits wait.No (k.now.spots.threads u).guest)})
          (departs_ok after u to (busy t (On n (Due 0)) ∷ []) k inside (eqb-false to n f))))
