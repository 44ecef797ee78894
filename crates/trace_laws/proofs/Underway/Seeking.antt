-- A thread that seeks slots, on an event in its midst: it comes to seek them, or it is decided that there are none for it.
use Rattle.std.proofs.Common.{arith, ◌≡◌, ℕ, List, [], ◌∷◌, ◌++◌, Option, Some, None, Bool, true, false, eqb, cond, refl, sym, ap, ◌∙◌, subst}
use Rattle.std.specs.Prelude.{is_some}
use Rattle.std.proofs.lemmas.Bool.{eq-eqb, eqb-true}
use Rattle.std.proofs.lemmas.List.{append-nil}
use Rattle.slot_space.specs.Replies.{reply_code, tid_value}
use Rattle.slot_space.specs.declared.names.Tid.{Tid}
use Rattle.slot_space.specs.declared.names.Reply.TheVariants as replies
use Rattle.run_trace.specs.declared.label.Label.TheVariants.{Born, Decided}
use Rattle.run_trace.specs.declared.label.Why.{Why}
use Rattle.run_trace.specs.declared.label.Why.TheVariants as why
use Rattle.run_trace.specs.declared.node.Wait.TheVariants as wait
use Rattle.run_trace.specs.declared.call.Call.{Call}
use Rattle.run_trace.specs.declared.call.Call.TheVariants.{Create, CreateIn}
use Rattle.marcel_sync.specs.Semaphores.{number_in}
use Rattle.run_trace.specs.Rules.{IsBorn}
use Rattle.run_trace.specs.Names.{is_tid}
use Rattle.run_trace.specs.Program.{Program}
use Rattle.run_trace.specs.Guests.{Guest, Thread, waits}
use Rattle.run_trace.specs.Calls.{call_of, slots_wanted}
use Rattle.run_trace.specs.Cluster.{Net}
use Rattle.run_trace.specs.Keyed.{StandsFor}
use Rattle.run_trace.specs.Local.{Local, EventSoFar}
use Rattle.run_trace.specs.Steps.{say, keep, asks, asks_slots, decides, at_found, at_thread}
use Rattle.run_trace.specs.Machine.{refuses}
use Rattle.run_trace.specs.Causes.{asked_causes}
use Rattle.run_trace.specs.Spots.{Stage, Running, Due, Seeks, Life, On, Response, Spot, Spots, Remote, update, its_call, lowest_free, asked_priority, priority_by, creator_served, stack_bytes}
use Rattle.run_trace.specs.Stands.{Busy, busy, busy_name, busy_part, thread_part, itself, seeker_part, serving, turns_among, wants_among, WantsSlots, ways_of, held, held_in_stage, holding_of, phase_of, waiter_in_life}
use Rattle.run_trace.specs.Items.{Thread as Thread_of, Item, Serves, Decides, is_busy, is_seeking, has_slots}
use Rattle.run_trace.specs.Items.{doer as doer_of}
use Rattle.run_trace.proofs.Lemmas.{is-true, is-refl}
use Rattle.trace_laws.proofs.Lists.KeyedLemmas.{fronted, unfronted, map_set}
use Rattle.trace_laws.proofs.Lists.Parts.{thread_was, busy_was, seeker_was, away_thread, away_seeker, busy_none}
use Rattle.trace_laws.proofs.Underway.Midst.{Outset, Links, Midst, StandsAmid, amid, Fits, beside, in_turn_kept, no_seeker, spots_with, labelled, here_kept, agrees_queued, links_kept, keeps, queued, queued_kept}
use Rattle.trace_laws.proofs.Underway.Steps.{Ties, in_hand, on_node, life_then}
use Rattle.trace_laws.proofs.Underway.ReplySteps.{answer_ok}
use Rattle.trace_laws.proofs.Underway.CallSteps.{IsItsOwn, asked_label, call_at, bytes_at, asked_same, asked_amid, goes_alone, nobody_leaves}

-- ## Stages round the one in which a thread seeks slots

abbrev pub is_near : Stage → Bool
is_near Running = true
is_near (Due code) = true
is_near Seeks = true
is_near _ = false

abbrev is_near_life : Life → Bool
is_near_life (On n stage) = is_near stage
is_near_life _ = false

near_way : (t : Tid) (n : ℕ) (stage : Stage) (v : Response) (g : Guest) → is_near stage ≡ true → ways_of t (On n stage) v g ≡ []
near_way t n stage v g h = grind (arith, h)

near_busy : (n k : ℕ) (stage : Stage) → is_near stage ≡ true → eqb n k ≡ false → is_busy k (On n stage) ≡ false
near_busy n k stage h e = grind (arith, h, e)

near_held : (stage : Stage) (g : Guest) → is_near stage ≡ true → held_in_stage stage g ≡ Some (holding_of g)
near_held stage g h = grind (arith, h)

near_waiter : (j k : ℕ) (t : Tid) (n : ℕ) (stage : Stage) → is_near stage ≡ true → waiter_in_life j k t (On n stage) ≡ None
near_waiter j k t n stage h = grind (arith, h)

near_fits : {halts : ℕ → Bool} {c : Call} (n : ℕ) (stage : Stage) → is_near stage ≡ true → (stage ≡ Seeks → WantsSlots c) → Fits halts c (On n stage)
near_fits n stage h wants = record {
  seeks = λ m e. wants (cc e);
  waits = λ u m e. absurd (cc (ap is_near_life e, h));
  signals = λ m id up e. absurd (cc (ap is_near_life e, h));
  stays = λ m e. absurd (cc (ap is_near_life e, h));
}

-- a thread that goes from one of them to another one
pub near_amid : {p : Program} {net : Net} {n : ℕ} {v : Spots} {M : Links} {s : Local} {hand : List Busy} {due ahead : List Item} {remote : Remote} (threads : List (Tid × Thread)) (more : List Busy) (t : Tid) (a b : Stage)
    → StandsAmid p net n v M s hand due → (v.threads t).life ≡ On n a → is_near a ≡ true → is_near b ≡ true → (b ≡ Seeks → WantsSlots (call_of (v.threads t).guest.solo.state))
    → Ties n v t (record (v.threads t) { life = On n b }) (record s { threads = threads }) more
    → StandsFor is_tid itself (seeker_part n) (serving ahead ++ s.talk.claims) (update v.threads t (record (v.threads t) { life = On n b }))
    → turns_among ahead ≡ turns_among due → wants_among ahead ≡ wants_among due
    → StandsAmid p net n (spots_with (update v.threads t (record (v.threads t) { life = On n b })) v.slots v.births v.sems v.forests v.halts remote) M (record s { threads = threads }) more ahead
near_amid {p} {net} {n} {v} {M} {s} {hand} {due} {ahead} threads more t a b o x near then wants ties seekers turns wishes =
    let old : Spot = v.threads t in
    let r : Spot = record old { life = On n b } in
    record {
      here = record { threads = ties.threads; forest = o.here.forest; busy = ties.busy; seekers = seekers; births = o.here.births; sems = o.here.sems; free = o.here.free; halted = o.here.halted };
      there = λ k e. here_kept k v t r (net.nodes k) [] [] (o.there k e)
          (record {
            thread = away_thread n k t r b refl e ∙ sym (away_thread n k t old a x e);
            busy = busy_none k t r (On n b) refl (near_busy n k b then e) ∙ sym (busy_none k t old (On n a) x (near_busy n k a near e));
            seeker = away_seeker n k t r b refl e ∙ sym (away_seeker n k t old a x e);
          })
          refl refl refl (λ y. refl) refl;
      links = λ i j. links_kept t r v.threads M o.links (near_way t n b old.verdict old.guest then ∙ sym (ap (λ z. ways_of t z old.verdict old.guest) x ∙ near_way t n a old.verdict old.guest near)) i j;
      turns = in_turn_kept net n s.talk s.talk M M due ahead o.turns refl (λ i j. refl) turns wishes;
      agrees = agrees_queued p v t r v.halts o.agrees (sym (ap phase_of x)) (λ e. absurd (cc (e, x))) (λ u m e. absurd (cc (ap is_near_life (sym x ∙ e), near)))
          (keeps _ _ (near_held b old.guest then ∙ sym (ap (λ z. held z old.guest) x ∙ near_held a old.guest near))) (near_fits n b then wants)
          (queued_kept v.threads t r (queued o.agrees) (λ j k. ap (waiter_in_life j k t) x ∙ near_waiter j k t n a near) (λ j k. near_waiter j k t n b then)) (λ k e. e);
    }

pub no_run : (o : Option ℕ) → is_some o ≡ false → o ≡ None
no_run None e = refl
no_run (Some first) e = absurd (cc e)

-- ## The thread that the event is to serve, or to decide about, first

seeking_life : (n : ℕ) (life : Life) → is_seeking n life ≡ true → life ≡ On n Seeks
seeking_life n (On m Seeks) e = ap (λ k. On k Seeks) (eqb-true m n e)
seeking_life n life e = absurd (grind (arith, e))

-- the first of those that seek slots
pub seeks_first : (n : ℕ) (t : Tid) (xs : List Tid) (w : Tid → Spot) → StandsFor is_tid itself (seeker_part n) (t ∷ xs) w → (w t).life ≡ On n Seeks
seeks_first n t xs w h = by (is_seeking n (w t).life) refl (sym (h.shows t) ∙ (rw (is-refl t) refl))
  where
    by : (b : Bool) → is_seeking n (w t).life ≡ b → cond b (Some t) None ≡ Some t → (w t).life ≡ On n Seeks
    by true e g = seeking_life n (w t).life e
    by false e g = absurd (cc g)

-- ## A thread that seeks a slot to create another one, by a call that names a bubble or none

-- what a birth of that reason says of it
pub record IsCreation (p : Program) (n : ℕ) (t : Tid) (v : Spots) (reason : Why) (entry argument priority : ℕ) : Type 0 where
  pub born : IsBorn p n reason entry argument v
  pub wants : slots_wanted (its_call t v) ≡ 1
  pub priority_is : priority_by v.threads reason ≡ priority
  pub bytes : stack_bytes reason v.remote ≡ []
  pub doer : (u : Tid) (a1 sp slot : ℕ) → doer_of (Born u reason entry argument a1 sp slot) ≡ Some (Thread_of t)
  pub served : (u : Tid) → creator_served n u reason v.threads ≡ update v.threads t (record (v.threads t) { life = On n (Due (tid_value u)) })

pub creation : (p : Program) (n : ℕ) (t : Tid) (v : Spots) (entry argument priority : ℕ) → (v.threads t).life ≡ On n Seeks → its_call t v ≡ Create entry argument priority
    → IsCreation p n t v (why.Create t) entry argument priority
creation p n t v entry argument priority x asked = record {
  born = (x, priority, asked);
  wants = ap slots_wanted asked;
  priority_is = ap asked_priority asked;
  bytes = refl;
  doer = λ u a1 sp slot. refl;
  served = λ u. refl;
}

pub creation_inside : (p : Program) (n : ℕ) (t : Tid) (v : Spots) (bubble entry argument priority : ℕ) → (v.threads t).life ≡ On n Seeks → its_call t v ≡ CreateIn bubble entry argument priority
    → IsCreation p n t v (why.Inside t (number_in bubble)) entry argument priority
creation_inside p n t v bubble entry argument priority x asked = record {
  born = (x, bubble, priority, asked, refl);
  wants = ap slots_wanted asked;
  priority_is = ap asked_priority asked;
  bytes = refl;
  doer = λ u a1 sp slot. refl;
  served = λ u. refl;
}

module _ {outset : Outset} {ahead : List Item} {L : Links} where
  open outset use {program as p, net, occasion as q, node as n, opening, world as w}

  -- a call for which its thread seeks slots, and waits for them
  pub asks_slots_ok : (d : EventSoFar) (t : Tid) → (m : Midst outset ahead L d (busy t (On n Running) ∷ []))
      → IsItsOwn p n t m.now.spots Seeks → [] ≡ bytes_at p m.now.spots t → WantsSlots (call_at m.now.spots t)
      → Midst outset (Serves t ∷ ahead) L (asks_slots t (call_at m.now.spots t) (waits wait.No (m.now.spots.threads t).guest) d) []
  unfolding asks_slots asks keep say
  asks_slots_ok d t m st said wants =
      let v = m.now.spots in
      let s : Spot = m.now.spots.threads t in
      let x : s.life ≡ On n Running = in_hand m in
      let r : Spot = record s { life = On n Seeks } in
      (labelled L [] (asked_label m.now.spots t []) _ _ m (asked_same p n m.now.spots t [] Seeks st)
      (record { solo = (refl, refl, said); holders = tt; life = x; replies = tt; grants = tt }) (sym (append-nil d.sends) ∙ ap (λ z. d.sends ++ z) (sym (ap (asked_causes t) st.stage))) (sym (append-nil d.prints))
      (asked_amid t [] st.bubbles refl (near_amid _ [] t Running Seeks (amid m) x refl refl (λ e. wants)
      (record {
        threads = map_set is_tid is-true is-refl (thread_part n) v.threads t r d.node.threads (waits wait.No s.guest) (waits wait.ForSlots s.guest) m.here.threads (thread_was n t s Running x) (thread_was n t r Seeks refl);
        busy = unfronted is_tid is-true is-refl busy_name (busy_part n) v.threads t r [] (busy t (On n Running)) m.here.busy refl (busy_none n t r (On n Seeks) refl refl);
      })
      (fronted is_tid is-true is-refl itself (seeker_part n) v.threads t r (serving ahead ++ d.node.talk.claims) t m.here.seekers refl (no_seeker n t s (ap (is_seeking n) x)) (seeker_was n t r refl))
      refl refl))
      (beside {due = ahead} {ahead = Serves t ∷ ahead} {hand = busy t (On n Running) ∷ []} {more = []} (record { heir = goes_alone t [] st; only = st.bubbles.gathers; front = λ sends talk. refl; next = (refl, ap (is_busy n) x ∙ eq-eqb n n refl); still = rw (eq-eqb n n refl) refl })
      (life_then p n v (asked_label v t []) t r _ (asked_same p n v t [] Seeks st) refl) (nobody_leaves m) refl refl)).midst

  -- it is decided that there are no slots for the thread, and it is due Full
  decides_ok : (d : EventSoFar) (t : Tid) → (m : Midst outset (Decides t ∷ ahead) L d []) → has_slots n t m.now.spots ≡ false
      → Midst outset ahead L (decides t (slots_wanted (its_call t m.now.spots)) (waits wait.ForSlots (m.now.spots.threads t).guest) d) (busy t (On n (Due (reply_code replies.Full))) ∷ [])
  unfolding decides keep say
  decides_ok d t m none =
      let v : Spots = m.now.spots in
      let s : Spot = m.now.spots.threads t in
      let b : Stage = Due (reply_code replies.Full) in
      let count : ℕ = slots_wanted (its_call t v) in
      let x : s.life ≡ On n Seeks = seeks_first n t (serving ahead ++ d.node.talk.claims) v.threads m.here.seekers in
      let r : Spot = record s { life = On n b } in
      let hand : List Busy = busy t (On n b) ∷ [] in
      (labelled L hand (Decided t count None) (spots_with (update v.threads t r) v.slots v.births v.sems v.forests v.halts v.remote) _ m refl
      (record { solo = tt; holders = tt; life = x; replies = tt; grants = (refl, no_run (lowest_free n count v) none, refl) }) (sym (append-nil d.sends)) (sym (append-nil d.prints))
      (near_amid _ hand t Seeks b (amid m) x refl refl (λ e. absurd (cc e))
      (record {
        threads = map_set is_tid is-true is-refl (thread_part n) v.threads t r d.node.threads (waits wait.ForSlots s.guest) (waits wait.No s.guest) m.here.threads (thread_was n t s Seeks x) (thread_was n t r b refl);
        busy = fronted is_tid is-true is-refl busy_name (busy_part n) v.threads t r [] (busy t (On n b)) m.here.busy refl (busy_none n t s (On n Seeks) x refl) (busy_was n t r (On n b) refl (eq-eqb n n refl));
      })
      (unfronted is_tid is-true is-refl itself (seeker_part n) v.threads t r (serving ahead ++ d.node.talk.claims) t m.here.seekers refl (no_seeker n t r refl))
      refl refl)
      (beside {due = Decides t ∷ ahead} {ahead = ahead} {hand = []} {more = hand} (record { heir = refl; only = tt; front = λ sends talk. refl; next = (count, None, refl); still = rw (eq-eqb n n refl) refl }) (life_then p n v (Decided t count None) t r _ refl refl) tt refl refl)).midst

  -- and is answered at once
  pub refuses_ok : (d : EventSoFar) (t : Tid) → (m : Midst outset (Decides t ∷ ahead) L d []) → has_slots n t m.now.spots ≡ false → Midst outset ahead L (at_thread t (refuses t) d) []
  refuses_ok d t m none =
      let x : (m.now.spots.threads t).life ≡ On n Seeks = seeks_first n t (serving ahead ++ d.node.talk.claims) m.now.spots.threads m.here.seekers in
      subst (λ o. Midst outset ahead L (at_found o (refuses t) d) []) (sym (on_node t Seeks m x)) (answer_ok _ t (reply_code replies.Full) [] (decides_ok d t m none))
