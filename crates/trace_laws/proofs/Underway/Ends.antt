-- An end that the home comes to know.
use Rattle.std.proofs.Common.{◌++◌, ◌≡◌, ℕ, List, [], ◌∷◌, Option, Some, None, Bool, true, false, eqb, cond, refl, sym, ap, ◌∙◌, subst}
use Rattle.std.specs.Prelude.{slice_get}
use Rattle.std.proofs.lemmas.Bool.{eq-eqb}
use Rattle.slot_space.specs.Sets.{has}
use Rattle.slot_space.specs.declared.names.Tid.{Tid}
use Rattle.marcel_core.specs.declared.end.End.{End}
use Rattle.marcel_core.specs.declared.birth.Birth.{Birth}
use Rattle.marcel_core.specs.declared.birth.Birth.TheVariants.{Lives, Awaited, Detached, Ended as Ended_birth, Over}
use Rattle.marcel_core.specs.Homes.{ended, joiner, with_birth, end_reply, end_value}
use Rattle.marcel_sync.specs.Semaphores.{node_in}
use Rattle.run_trace.specs.declared.label.Label.TheVariants.{Known}
use Rattle.run_trace.specs.Names.{is_tid, tid}
use Rattle.run_trace.specs.Program.{Program}
use Rattle.run_trace.specs.Local.{Local, nothing}
use Rattle.run_trace.specs.Steps.{say, change_birth, knows}
use Rattle.run_trace.specs.Machine.{tells_joiner}
use Rattle.run_trace.specs.Spots.{Seeks, Stays, Awaits, Answers, Signals, Life, Unborn, On, Noting, Gone, Spot, Spots, update, at_node, set_going, end_in, joiner_going}
use Rattle.run_trace.specs.Calls.{call_of}
use Rattle.run_trace.specs.Guests.{Guest}
use Rattle.run_trace.specs.Rules.{JoinerAwaits}
use Rattle.run_trace.specs.Stands.{WantsSlots, Agrees, busy, busy_name, busy_part, thread_part, thread_in_life, Ended_word, waiter_in_life, ways_of, phase_of, phase_at, During, After, held, slots_held, IsWellHeld, is_thread}
use Rattle.run_trace.proofs.Lemmas.{is-true, is-refl, is-false, is-other, is-flip}
use Rattle.trace_laws.proofs.Lists.KeyedLemmas.{kept, fronted, map_kept}
use Rattle.trace_laws.proofs.Lists.Births.{get-with}
use Rattle.trace_laws.proofs.Underway.Midst.{Outset, links_less, beside, beside_both, Links, Midst, spots_with, labelled, here_kept, links_kept, take_link, nothing_sent, updated, AreQueued, queued, queued_kept}
use Rattle.trace_laws.proofs.Lists.Parts.{both_idle, busy_none}
use Rattle.trace_laws.proofs.Underway.Takes.{reply_ok, links_whole, still_in_turn}
use Rattle.trace_laws.proofs.Underway.Steps.{life_then, seekers_kept}
use Rattle.run_trace.specs.Items.{Thread, Says, Item, is_seeking, as_list, one_going}
use Rattle.trace_laws.proofs.Underway.Homes.{Renewed, other_birth, birth_of, phase_same, held_same, unborn_same, awaits_same}

ended_phase : (end : End) (b : Birth) → phase_at (Some (ended end b)) ≡ After
ended_phase end Lives = refl
ended_phase end (Awaited by at) = refl
ended_phase end Detached = refl
ended_phase end (Ended_birth other) = refl
ended_phase end Over = refl

-- f are the threads w, once the joiner of t, if it has one, is to be answered: all else of it is as before
record Serves (t : Tid) (w f : Tid → Spot) : Type 0 where
  phases : (u : Tid) → phase_of (f u).life ≡ phase_of (w u).life
  slots : (u : Tid) → held (f u).life (f u).guest ≡ held (w u).life (w u).guest
  unborn : (u : Tid) → (w u).life ≡ Unborn → (f u).life ≡ Unborn
  awaits : (u b : Tid) (at : ℕ) → is_tid t u ≡ false → (w b).life ≡ On at (Awaits u) → (f b).life ≡ On at (Awaits u)
  waits : (u b : Tid) (at : ℕ) → (f b).life ≡ On at (Awaits u) → ((w b).life ≡ On at (Awaits u)) × (is_tid t u ≡ false)
  stays : (u : Tid) (m : ℕ) → (f u).life ≡ On m Stays → (w u).life ≡ On m Stays
  signals : (u : Tid) (m id : ℕ) (up : Bool) → (f u).life ≡ On m (Signals id up) → (w u).life ≡ On m (Signals id up)
  seeks : (u : Tid) (m : ℕ) → (f u).life ≡ On m Seeks → ((w u).life ≡ On m Seeks) × ((f u).guest ≡ (w u).guest)

-- what all nodes share, once the home knows an end
ends_agree : {p : Program} {n seq from : ℕ} {end : End} {w : Spots} {births : List Birth} {new : Option Birth} (f : Tid → Spot) (r : Spot) → Renewed n seq w.births births new
    → Agrees p w → (w.threads (tid n seq)).life ≡ Noting from end → r.life ≡ Gone end → Serves (tid n seq) w.threads f
    → phase_at new ≡ After → ((b : Tid) (at : ℕ) → new ≡ Some (Awaited b at) → ⊥) → AreQueued w.sems (update f (tid n seq) r)
    → Agrees p (spots_with (update f (tid n seq) r) w.slots (at_node w.births n births) w.sems w.forests w.halts w.remote)
ends_agree {n = n} {seq = seq} {w = w} {births = births} f r renewed a x gone serves known nobody queued = record {
  sems = queued.sems;
  queues = queued.queues;
  seeks = λ u m e. elim (is_tid t u) as (λ v. (cond v r (f u)).life ≡ On m Seeks → WantsSlots (call_of (cond v r (f u)).guest.solo.state)) [
    | true ↦ λ h. absurd (cc (gone, h))
    | false ↦ λ h. (let was = serves.seeks u m h in subst (λ (z : Guest). WantsSlots (call_of z.solo.state)) (sym was.1) (a.seeks u m was.0))
  ] e;
  signals = λ u m id up e. elim (is_tid t u) as (λ v. (cond v r (f u)).life ≡ On m (Signals id up) → eqb (node_in id) m ≡ false) [ true ↦ λ h. absurd (cc (gone, h)) | false ↦ λ h. a.signals u m id up (serves.signals u m id up h) ] e;
  waits = λ u b at e. elim (is_tid t b) as (λ v. (cond v r (f b)).life ≡ On at (Awaits u) → slice_get (at_node w.births n births u.home) u.seq ≡ Some (Awaited b at)) [
    | true ↦ λ h. absurd (cc (gone, h))
    | false ↦ λ h. other_birth renewed u (serves.waits u b at h).1 ∙ a.waits u b at (serves.waits u b at h).0
  ] e;
  stays = λ u m e. elim (is_tid t u) as (λ v. (cond v r (f u)).life ≡ On m Stays → w.halts m ≡ true) [ true ↦ λ h. absurd (cc (gone, h)) | false ↦ λ h. a.stays u m (serves.stays u m h) ] e;
  homes = λ u out. elim (is_tid t u) as (λ b. is_tid t u ≡ b → (cond b r (f u)).life ≡ Unborn) [
    | true ↦ λ e. absurd (cc (x, subst (λ z. (w.threads z).life ≡ Unborn) (sym (is-true t u e)) (a.homes u out)))
    | false ↦ λ e. serves.unborn u (a.homes u out)
  ] refl;
  named = λ u. elim (is_tid t u) as (λ b. is_tid t u ≡ b → phase_at (slice_get (at_node w.births n births u.home) u.seq) ≡ phase_of (cond b r (f u)).life) [
    | true ↦ λ e. ap phase_at (birth_of renewed u e) ∙ known ∙ sym (ap phase_of gone)
    | false ↦ λ e. ap phase_at (other_birth renewed u e) ∙ a.named u ∙ sym (serves.phases u)
  ] refl;
  awaits = λ u b at e. elim (is_tid t u) as (λ v. is_tid t u ≡ v → (update f t r b).life ≡ On at (Awaits u)) [
    | true ↦ λ h. absurd (nobody b at (sym (birth_of renewed u h) ∙ e))
    | false ↦ λ h.
        let was : (w.threads b).life ≡ On at (Awaits u) = a.awaits u b at (sym (other_birth renewed u h) ∙ e) in
        elim (is_tid t b) as (λ v. is_tid t b ≡ v → (cond v r (f b)).life ≡ On at (Awaits u)) [
          | true ↦ λ g. absurd (cc (x, was, ap (λ z. (w.threads z).life) (is-true t b g)))
          | false ↦ λ g. serves.awaits u b at h was
        ] refl
  ] refl;
  slots = λ u y. elim (is_tid t u) as (λ b. is_tid t u ≡ b → has y (slots_held (held (cond b r (f u)).life (cond b r (f u)).guest)) ≡ is_thread u (w.slots y)) [
    | true ↦ λ e. subst (λ z. has y (slots_held (held r.life r.guest)) ≡ is_thread z (w.slots y)) (is-true t u e)
        (ap (λ z. has y (slots_held (held z r.guest))) gone ∙ ap (λ z. has y (slots_held (held z (w.threads t).guest))) (sym x) ∙ a.slots t y)
    | false ↦ λ e. ap (λ z. has y (slots_held z)) (serves.slots u) ∙ a.slots u y
  ] refl;
  blocks = λ u. elim (is_tid t u) as (λ b. IsWellHeld (held (cond b r (f u)).life (cond b r (f u)).guest)) [
    | true ↦ subst (λ z. IsWellHeld (held z r.guest)) (sym gone) tt
    | false ↦ subst (λ z. IsWellHeld z) (sym (serves.slots u)) (a.blocks u)
  ];
}
  where
    t : Tid
    t = tid n seq

module _ {outset : Outset} {ahead : List Item} {L : Links} where
  open outset use {program as p, net, occasion as q, node as n, opening, world as w}

  -- an end that nobody waits for
  knows_alone : (s : Local) (from seq : ℕ) (end : End) (b : Birth) → (m : Midst outset (Says (Known (tid n seq)) ∷ ahead) L (nothing s) []) → (m.now.spots.threads (tid n seq)).life ≡ Noting from end
      → slice_get (m.now.spots.births n) seq ≡ Some b → joiner (Some b) ≡ None → ((c : Tid) (at : ℕ) → Some (ended end b) ≡ Some (Awaited c at) → ⊥)
      → Midst outset ahead (links_less n L from (tid n seq)) (knows n seq end (nothing s)) []
  unfolding knows change_birth say
  knows_alone s from seq end b m x e none nobody =
      let t : Tid = tid n seq in
      let o : Spot = m.now.spots.threads t in
      let r : Spot = record o { life = Gone end } in
      let births : List Birth = with_birth (m.now.spots.births n) seq (ended end) in
      let same = ap (λ z. spots_with (update (set_going (joiner_going t (end_in z) (joiner (slice_get (m.now.spots.births n) seq))) m.now.spots.threads) t (record o { life = Gone (end_in z) })) m.now.spots.slots (at_node m.now.spots.births n (with_birth (m.now.spots.births n) seq (ended (end_in z)))) m.now.spots.sems m.now.spots.forests m.now.spots.halts m.now.spots.remote) x
      ∙ ap (λ z. spots_with (update (set_going (joiner_going t end z) m.now.spots.threads) t r) m.now.spots.slots (at_node m.now.spots.births n births) m.now.spots.sems m.now.spots.forests m.now.spots.halts m.now.spots.remote) (ap joiner e ∙ none) in
      (labelled (links_less n L from t) [] (Known t) (spots_with (update m.now.spots.threads t r) m.now.spots.slots (at_node m.now.spots.births n births) m.now.spots.sems m.now.spots.forests m.now.spots.halts m.now.spots.remote) _ m
      same
      (record { solo = tt; holders = tt; life = (rw x tt, refl, subst (λ z. JoinerAwaits t z m.now.spots) (sym (ap joiner e ∙ none)) tt); replies = tt; grants = tt }) refl refl
      (record {
        here = record {
          threads = map_kept is_tid is-true is-refl (thread_part n) m.now.spots.threads t r s.threads m.here.threads (sym (ap (λ z. thread_in_life n z o.guest) x));
          busy = kept is_tid is-true is-refl busy_name (busy_part n) m.now.spots.threads t r [] m.here.busy (sym (busy_none n t o (Noting from end) x refl));
          seekers = seekers_kept n m.now.spots.threads t r m.here.seekers refl (ap (is_seeking n) x) refl;
          forest = m.here.forest;
          births = rw (eq-eqb n n refl) (ap (λ bs. with_birth bs seq (ended end)) m.here.births);
          sems = m.here.sems;
          free = m.here.free;
          halted = m.here.halted;
        };
        there = λ k f. here_kept k m.now.spots t r (net.nodes k) [] [] (m.there k f)
            (record {
              thread = sym (ap (λ z. thread_in_life k z o.guest) x);
              busy = sym (busy_none k t o (Noting from end) x refl);
              seeker = both_idle k t o r (ap (is_seeking k) x) refl;
            })
            (rw f refl) refl refl (λ y. refl) refl;
        links = λ i j. nothing_sent n (links_less n L from t) i j (update m.now.spots.threads t r) (take_link from n (Ended_word t end) t r L m.now.spots.threads (links_whole m) (ap (λ z. ways_of t z o.verdict o.guest) x) i j);
        turns = still_in_turn (Known t) from t m;
        agrees = ends_agree {new = Some (ended end b)} m.now.spots.threads r (record { gets = λ j. get-with (m.now.spots.births n) seq j (ended end) b e }) m.agrees x refl
            (record {
              phases = λ u. refl;
              slots = λ u. refl;
              unborn = λ u f. f;
              awaits = λ u c at f g. g;
              waits = λ u c at g. (
                g,
                is-other t u (λ k.
                    let was : slice_get (m.now.spots.births n) seq ≡ Some (Awaited c at) = m.agrees.waits t c at (subst (λ z. (m.now.spots.threads c).life ≡ On at (Awaits z)) (sym k) g) in
                    let joins : joiner (Some b) ≡ Some (c, at) = ap joiner (sym e ∙ was) in
                    absurd (cc (joins, none))),
              );
              stays = λ u k g. g;
              signals = λ u k id up g. g;
              seeks = λ u k g. (g, refl);
            })
            (ended_phase end b) nobody (queued_kept m.now.spots.threads t r (queued m.agrees) (λ j k. ap (waiter_in_life j k t) x) (λ j k. refl));
      })
      (beside {due = Says (Known t) ∷ ahead} {ahead = ahead} {hand = []} {more = []} (record {
        heir = ap (λ z. as_list (one_going (joiner_going t (end_in o.life) z)) ++ Thread t ∷ []) (ap joiner e ∙ none);
        only = tt;
        front = λ sends talk. refl;
        next = refl;
        still = refl;
      })
      (life_then p n m.now.spots (Known t) t r _ same refl) tt refl refl)).midst

  -- an end that a joiner waits for
  knows_awaited : (s : Local) (from seq at : ℕ) (end : End) (by : Tid) → (m : Midst outset (Says (Known (tid n seq)) ∷ ahead) L (nothing s) []) → (m.now.spots.threads (tid n seq)).life ≡ Noting from end
      → slice_get (m.now.spots.births n) seq ≡ Some (Awaited by at)
      → Midst outset ahead (links_less n L from (tid n seq)) (knows n seq end (nothing s)) (busy by (On at (Answers n (end_reply end) (Some (end_value end)))) ∷ [])
  unfolding knows change_birth say
  knows_awaited s from seq at end by m x e =
      let t : Tid = tid n seq in
      let o : Spot = m.now.spots.threads t in
      let c : Spot = m.now.spots.threads by in
      let y : c.life ≡ On at (Awaits t) = m.agrees.awaits t by at e in
      let apart : is_tid by t ≡ false = is-other by t (λ g. absurd (cc (x, y, ap (λ z. (m.now.spots.threads z).life) g))) in
      let life : Life = On at (Answers n (end_reply end) (Some (end_value end))) in
      let r1 : Spot = record c { life = life } in
      let f : Tid → Spot = update m.now.spots.threads by r1 in
      let here : f t ≡ o = rw apart refl in
      let r : Spot = record o { life = Gone end } in
      let births : List Birth = with_birth (m.now.spots.births n) seq (ended end) in
      let w1 : Spots = spots_with f m.now.spots.slots m.now.spots.births m.now.spots.sems m.now.spots.forests m.now.spots.halts m.now.spots.remote in
      let x1 : (f t).life ≡ Noting from end = ap (λ (z : Spot). z.life) here ∙ x in
      let same = ap (λ z. spots_with (update (set_going (joiner_going t (end_in z) (joiner (slice_get (m.now.spots.births n) seq))) m.now.spots.threads) t (record o { life = Gone (end_in z) })) m.now.spots.slots (at_node m.now.spots.births n (with_birth (m.now.spots.births n) seq (ended (end_in z)))) m.now.spots.sems m.now.spots.forests m.now.spots.halts m.now.spots.remote) x
      ∙ ap (λ z. spots_with (update (set_going (joiner_going t end z) m.now.spots.threads) t r) m.now.spots.slots (at_node m.now.spots.births n births) m.now.spots.sems m.now.spots.forests m.now.spots.halts m.now.spots.remote) (ap joiner e) in
      let at_by : (update f t r by).life ≡ life = rw (is-flip by t apart) (rw (is-refl by) refl) in
      (labelled (links_less n L from t) (busy by life ∷ []) (Known t) (spots_with (update f t r) m.now.spots.slots (at_node m.now.spots.births n births) m.now.spots.sems m.now.spots.forests m.now.spots.halts m.now.spots.remote) _ m
      same
      (record { solo = tt; holders = tt; life = (rw x tt, refl, subst (λ z. JoinerAwaits t z m.now.spots) (sym (ap joiner e)) y); replies = tt; grants = tt }) refl refl
      (record {
        here = record {
          threads = map_kept is_tid is-true is-refl (thread_part n) f t r s.threads
              (map_kept is_tid is-true is-refl (thread_part n) m.now.spots.threads by r1 s.threads m.here.threads (sym (ap (λ z. thread_in_life n z c.guest) y))) (sym (ap (λ z. thread_in_life n z (f t).guest) x1));
          busy = kept is_tid is-true is-refl busy_name (busy_part n) f t r (busy by life ∷ [])
              (fronted is_tid is-true is-refl busy_name (busy_part n) m.now.spots.threads by r1 [] (busy by life) m.here.busy refl (busy_none n by c (On at (Awaits t)) y refl) (rw (eq-eqb n n refl) refl)) (sym (busy_none n t (f t) (Noting from end) x1 refl));
          seekers = seekers_kept n f t r (seekers_kept n m.now.spots.threads by r1 m.here.seekers refl (ap (is_seeking n) y) refl) refl (ap (is_seeking n) x1) refl;
          forest = m.here.forest;
          births = rw (eq-eqb n n refl) (ap (λ bs. with_birth bs seq (ended end)) m.here.births);
          sems = m.here.sems;
          free = m.here.free;
          halted = m.here.halted;
        };
        there = λ k g. here_kept k w1 t r (net.nodes k) [] []
            (here_kept k m.now.spots by r1 (net.nodes k) [] [] (m.there k g)
            (record {
              thread = sym (ap (λ z. thread_in_life k z c.guest) y);
              busy = busy_none k by r1 life refl g ∙ sym (busy_none k by c (On at (Awaits t)) y refl);
              seeker = both_idle k by c r1 (ap (is_seeking k) y) refl;
            })
            refl refl refl (λ z. refl) refl)
            (record {
              thread = sym (ap (λ z. thread_in_life k z (f t).guest) x1);
              busy = sym (busy_none k t (f t) (Noting from end) x1 refl);
              seeker = both_idle k t (f t) r (ap (is_seeking k) x1) refl;
            })
            (rw g refl) refl refl (λ z. refl) refl;
        links = λ i j. nothing_sent n (links_less n L from t) i j (update f t r)
            (take_link from n (Ended_word t end) t r L f (λ a b. links_kept by r1 m.now.spots.threads L (links_whole m) (sym (ap (λ z. ways_of by z c.verdict c.guest) y)) a b) (ap (λ z. ways_of t z (f t).verdict (f t).guest) x1) i j);
        turns = still_in_turn (Known t) from t m;
        agrees = ends_agree {new = Some Over} f r (record { gets = λ j. get-with (m.now.spots.births n) seq j (ended end) (Awaited by at) e }) m.agrees x refl
            (record {
              phases = λ u. phase_same m.now.spots.threads by r1 (sym (ap phase_of y)) u;
              slots = λ u. held_same m.now.spots.threads by r1 (sym (ap (λ z. held z c.guest) y)) u;
              unborn = λ u g. unborn_same m.now.spots.threads by r1 u (λ h. absurd (cc (h, y))) g;
              awaits = λ u b k g h. awaits_same m.now.spots.threads by r1 b u k (λ i. (let same : Awaits t ≡ Awaits u = cc (sym y ∙ i) in let one : t ≡ u = cc same in absurd (is-false t u g one))) h;
              waits = λ u b k g. elim (is_tid by b) as (λ v. is_tid by b ≡ v → (cond v r1 (m.now.spots.threads b)).life ≡ On k (Awaits u) → ((m.now.spots.threads b).life ≡ On k (Awaits u)) × (is_tid t u ≡ false)) [
                | true ↦ λ h i. absurd (cc i)
                | false ↦ λ h i. (
                  i,
                  is-other t u (λ j.
                      let was : slice_get (m.now.spots.births n) seq ≡ Some (Awaited b k) = m.agrees.waits t b k (subst (λ z. (m.now.spots.threads b).life ≡ On k (Awaits z)) (sym j) i) in
                      let same : Awaited by at ≡ Awaited b k = cc (sym e ∙ was) in
                      let one : by ≡ b = cc same in
                      absurd (is-false by b h one)),
                )
              ] refl g;
              stays = λ u k g. elim (is_tid by u) as (λ v. (cond v r1 (m.now.spots.threads u)).life ≡ On k Stays → (m.now.spots.threads u).life ≡ On k Stays) [ true ↦ λ i. absurd (cc i) | false ↦ λ i. i ] g;
              signals = λ u k id up g. elim (is_tid by u) as (λ v. (cond v r1 (m.now.spots.threads u)).life ≡ On k (Signals id up) → (m.now.spots.threads u).life ≡ On k (Signals id up)) [ true ↦ λ i. absurd (cc i) | false ↦ λ i. i ] g;
              seeks = λ u k g. elim (is_tid by u) as (λ v. (cond v r1 (m.now.spots.threads u)).life ≡ On k Seeks → ((m.now.spots.threads u).life ≡ On k Seeks) × ((cond v r1 (m.now.spots.threads u)).guest ≡ (m.now.spots.threads u).guest)) [ true ↦ λ i. absurd (cc i) | false ↦ λ i. (i, refl) ] g;
            })
            refl (λ b k g. absurd (cc g))
            (queued_kept f t r (queued_kept m.now.spots.threads by r1 (queued m.agrees) (λ i j. ap (waiter_in_life i j by) y) (λ i j. refl)) (λ i j. ap (waiter_in_life i j t) x1) (λ i j. refl));
      })
      (beside_both {due = Says (Known t) ∷ ahead} {ahead = ahead} {hand = []} {more = busy by life ∷ []} {first = life} {second = Gone end} (record {
        heirs = ap (λ z. as_list (one_going (joiner_going t (end_in o.life) z)) ++ Thread t ∷ []) (ap joiner e);
        only = tt;
        front = λ sends talk. refl;
        next = refl;
        still = rw (eq-eqb n n refl) refl;
      })
      (ap (λ (z : Spots). (z.threads by).life) same ∙ at_by) (ap (λ (z : Spots). (z.threads t).life) same ∙ ap (λ (z : Spot). z.life) (updated f t r)) tt refl refl)).midst

  pub knows_ok : (s : Local) (from seq : ℕ) (end : End) → (m : Midst outset (Says (Known (tid n seq)) ∷ ahead) L (nothing s) []) → (m.now.spots.threads (tid n seq)).life ≡ Noting from end
      → Midst outset ahead (links_less n L from (tid n seq)) (tells_joiner end (joiner (slice_get s.births seq)) (knows n seq end (nothing s))) []
  knows_ok s from seq end m x = subst (λ bs. Midst outset ahead (links_less n L from (tid n seq)) (tells_joiner end (joiner (slice_get bs seq)) (knows n seq end (nothing s))) []) (sym m.here.births) (by_birth (slice_get (m.now.spots.births n) seq) refl)
    where
      during : phase_at (slice_get (m.now.spots.births n) seq) ≡ During
      during = m.agrees.named (tid n seq) ∙ ap phase_of x

      by_birth : (b : Option Birth) → slice_get (m.now.spots.births n) seq ≡ b → Midst outset ahead (links_less n L from (tid n seq)) (tells_joiner end (joiner b) (knows n seq end (nothing s))) []
      by_birth None e = absurd (cc (ap phase_at (sym e) ∙ during))
      by_birth (Some Lives) e = knows_alone s from seq end Lives m x e refl (λ c at g. absurd (cc g))
      by_birth (Some (Awaited by at)) e = reply_ok (knows n seq end (nothing s)) by at (end_reply end) (Some (end_value end)) [] (knows_awaited s from seq at end by m x e)
      by_birth (Some Detached) e = knows_alone s from seq end Detached m x e refl (λ c at g. absurd (cc g))
      by_birth (Some (Ended_birth other)) e = absurd (cc (ap phase_at (sym e) ∙ during))
      by_birth (Some Over) e = absurd (cc (ap phase_at (sym e) ∙ during))
