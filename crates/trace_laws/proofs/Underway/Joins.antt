-- A join or a detach that is taken up at the home.
use Rattle.std.proofs.Common.{◌++◌, ◌≡◌, ℕ, List, [], ◌∷◌, Option, Some, None, Bool, true, false, eqb, cond, refl, sym, ap, ◌∙◌, subst}
use Rattle.std.specs.Prelude.{slice_get}
use Rattle.std.proofs.lemmas.Bool.{eq-eqb, eqb-true}
use Rattle.slot_space.specs.Sets.{has}
use Rattle.slot_space.specs.declared.names.Tid.{Tid}
use Rattle.slot_space.specs.declared.names.Reply.{Reply as TheReply}
use Rattle.slot_space.specs.declared.names.Reply.TheVariants as replies
use Rattle.marcel_core.specs.declared.birth.Birth.{Birth}
use Rattle.marcel_core.specs.declared.birth.Birth.TheVariants.{Lives, Awaited, Detached, Ended as Ended_birth, Over}
use Rattle.marcel_core.specs.declared.birth.Verdict.{Verdict}
use Rattle.marcel_core.specs.declared.birth.Verdict.TheVariants as verdicts
use Rattle.marcel_core.specs.Homes.{verdict, joined, detach_verdict, detached, detached_reply, with_birth, end_reply, end_value}
use Rattle.marcel_sync.specs.Semaphores.{node_in}
use Rattle.run_trace.specs.declared.label.Label.TheVariants.{Heard}
use Rattle.run_trace.specs.Names.{is_tid, tid}
use Rattle.run_trace.specs.Program.{Program}
use Rattle.run_trace.specs.Guests.{waits}
use Rattle.run_trace.specs.declared.node.Wait.TheVariants as wait
use Rattle.run_trace.specs.Local.{Local, nothing}
use Rattle.run_trace.specs.Steps.{say, change_birth, reply_by_link, hears, hears_detach}
use Rattle.run_trace.specs.Machine.{judges_join}
use Rattle.run_trace.specs.Keyed.{StandsFor}
use Rattle.run_trace.specs.Spots.{Stage, Seeks, Stays, Asks, Awaits, Answers, Detaches, Signals, Life, On, Spot, Spots, update, at_node, heard_life, heard_at, births_heard, sems_heard, wakes_heard, set_going}
use Rattle.run_trace.specs.Calls.{call_of}
use Rattle.run_trace.specs.Rules.{MayHear}
use Rattle.run_trace.specs.Stands.{WantsSlots, way, Agrees, Busy, busy, busy_name, busy_part, thread_part, thread_in_life, Word, Joins, Detaching, waiter_part, ways_of, phase_of, phase_at, held, holding_of, slots_held, IsWellHeld}
use Rattle.run_trace.proofs.Lemmas.{is-true, is-refl}
use Rattle.trace_laws.proofs.Lists.KeyedLemmas.{kept, fronted, map_kept}
use Rattle.trace_laws.proofs.Lists.Births.{get-with, with-none}
use Rattle.trace_laws.proofs.Underway.Midst.{Outset, doing, links_less, beside, Links, Midst, spots_with, labelled, here_kept, take_link, nothing_sent, updated, is_quiet, Quiet, quiet, queued, queued_kept}
use Rattle.trace_laws.proofs.Lists.Parts.{both_idle, busy_none}
use Rattle.trace_laws.proofs.Underway.Takes.{reply_ok, links_whole, still_in_turn}
use Rattle.trace_laws.proofs.Underway.Steps.{life_then, seekers_kept}
use Rattle.run_trace.specs.Items.{Thread, Says, Item, is_busy, is_seeking, items_in, as_list, one_going}
use Rattle.trace_laws.proofs.Underway.Homes.{Renewed, own_birth, other_birth, birth_of, phase_same, held_same, unborn_same, awaits_same}

joined_phase : (b : Birth) (by : Tid) (at : ℕ) → phase_at (Some (joined by at b)) ≡ phase_at (Some b)
joined_phase Lives by at = refl
joined_phase (Awaited other there) by at = refl
joined_phase Detached by at = refl
joined_phase (Ended_birth end) by at = refl
joined_phase Over by at = refl

-- what a join leaves of its birth: who awaited it does so still, the joiner if it waits, and nobody else
record IsJoined (n seq : ℕ) (w : Spots) (by : Tid) (r : Spot) (births : List Birth) (new : Option Birth) : Type 0 where
  renewed : Renewed n seq w.births births new
  phase : phase_at new ≡ phase_at (slice_get (w.births n) seq)
  awaited : (b : Tid) (at : ℕ) → new ≡ Some (Awaited b at) → (update w.threads by r b).life ≡ On at (Awaits (tid n seq))
  waits : (u : Tid) (at : ℕ) → r.life ≡ On at (Awaits u) → slice_get (at_node w.births n births u.home) u.seq ≡ Some (Awaited by at)
  keeps : (b : Tid) (at : ℕ) → slice_get (w.births n) seq ≡ Some (Awaited b at) → new ≡ Some (Awaited b at)

-- the new spot of a thread that a home has heard: it lives and holds what it did, and waits for no semaphore
record IsOfHeard (v : Spots) (by : Tid) (r : Spot) : Type 0 where
  quiet : Quiet (v.threads by).life
  phase : phase_of r.life ≡ phase_of (v.threads by).life
  holds : held r.life r.guest ≡ held (v.threads by).life (v.threads by).guest
  stays : (m : ℕ) → r.life ≡ On m Stays → ⊥
  signals : (m id : ℕ) (up : Bool) → r.life ≡ On m (Signals id up) → ⊥
  seeks : (m : ℕ) → r.life ≡ On m Seeks → ⊥
  queues : (h k : ℕ) → waiter_part h k by r ≡ None

-- what all nodes share, at a join
joins_agree : {p : Program} {n seq : ℕ} {w : Spots} {by : Tid} {births : List Birth} {new : Option Birth} (r : Spot) → Agrees p w → IsOfHeard w by r → IsJoined n seq w by r births new
    → Agrees p (spots_with (update w.threads by r) w.slots (at_node w.births n births) w.sems w.forests w.halts w.remote)
joins_agree {n = n} {seq = seq} {w = w} {by = by} {births = births} r a of join = record {
  sems = a.sems;
  queues = (queued_kept w.threads by r (queued a) (λ h k. of.quiet.queues h k by) of.queues).queues;
  seeks = λ u m e. elim (is_tid by u) as (λ v. (cond v r (w.threads u)).life ≡ On m Seeks → WantsSlots (call_of (cond v r (w.threads u)).guest.solo.state)) [ true ↦ λ f. absurd (of.seeks m f) | false ↦ λ f. a.seeks u m f ] e;
  signals = λ u m id up e. elim (is_tid by u) as (λ v. (cond v r (w.threads u)).life ≡ On m (Signals id up) → eqb (node_in id) m ≡ false) [ true ↦ λ f. absurd (of.signals m id up f) | false ↦ λ f. a.signals u m id up f ] e;
  waits = λ u b at e. elim (is_tid by b) as (λ v. is_tid by b ≡ v → (cond v r (w.threads b)).life ≡ On at (Awaits u) → slice_get (at_node w.births n births u.home) u.seq ≡ Some (Awaited b at)) [
    | true ↦ λ h f. subst (λ z. slice_get (at_node w.births n births u.home) u.seq ≡ Some (Awaited z at)) (is-true by b h) (join.waits u at f)
    | false ↦ λ h f.
        let was : slice_get (w.births u.home) u.seq ≡ Some (Awaited b at) = a.waits u b at f in
        elim (is_tid (tid n seq) u) as (λ v. is_tid (tid n seq) u ≡ v → slice_get (at_node w.births n births u.home) u.seq ≡ Some (Awaited b at)) [
          | true ↦ λ g. birth_of join.renewed u g ∙ join.keeps b at (subst (λ (z : Tid). slice_get (w.births z.home) z.seq ≡ Some (Awaited b at)) (sym (is-true (tid n seq) u g)) was)
          | false ↦ λ g. other_birth join.renewed u g ∙ was
        ] refl
  ] refl e;
  stays = λ u m e. elim (is_tid by u) as (λ v. (cond v r (w.threads u)).life ≡ On m Stays → w.halts m ≡ true) [ true ↦ λ f. absurd (of.stays m f) | false ↦ λ f. a.stays u m f ] e;
  homes = λ u out. unborn_same w.threads by r u of.quiet.born (a.homes u out);
  named = λ u. elim (is_tid (tid n seq) u) as (λ b. is_tid (tid n seq) u ≡ b → phase_at (slice_get (at_node w.births n births u.home) u.seq) ≡ phase_of (update w.threads by r u).life) [
    | true ↦ λ e. ap phase_at (birth_of join.renewed u e) ∙ join.phase ∙ a.named (tid n seq) ∙ ap (λ z. phase_of (w.threads z).life) (is-true (tid n seq) u e) ∙ sym (phase_same w.threads by r of.phase u)
    | false ↦ λ e. ap phase_at (other_birth join.renewed u e) ∙ a.named u ∙ sym (phase_same w.threads by r of.phase u)
  ] refl;
  awaits = λ u b at e. elim (is_tid (tid n seq) u) as (λ v. is_tid (tid n seq) u ≡ v → (update w.threads by r b).life ≡ On at (Awaits u)) [
    | true ↦ λ f. join.awaited b at (sym (birth_of join.renewed u f) ∙ e) ∙ ap (λ z. On at (Awaits z)) (is-true (tid n seq) u f)
    | false ↦ λ f. awaits_same w.threads by r b u at (of.quiet.waits u at) (a.awaits u b at (sym (other_birth join.renewed u f) ∙ e))
  ] refl;
  slots = λ u y. ap (λ z. has y (slots_held z)) (held_same w.threads by r of.holds u) ∙ a.slots u y;
  blocks = λ u. subst (λ z. IsWellHeld z) (sym (held_same w.threads by r of.holds u)) (a.blocks u);
}

-- a birth that is another now, with the joiner that it had
record SameJoiner (n seq : ℕ) (old : ℕ → List Birth) (births : List Birth) (new : Option Birth) : Type 0 where
  renewed : Renewed n seq old births new
  phase : phase_at new ≡ phase_at (slice_get (old n) seq)
  awaited : (b : Tid) (at : ℕ) → new ≡ Some (Awaited b at) → slice_get (old n) seq ≡ Some (Awaited b at)
  keeps : (b : Tid) (at : ℕ) → slice_get (old n) seq ≡ Some (Awaited b at) → new ≡ Some (Awaited b at)

-- a thread that is heard comes from this stage to this life: it shows on the nodes as before, nothing of it is under way, and no
-- other node is busy with it
record IsHeard (n : ℕ) (stage : Stage) (from : ℕ) (by : Tid) (life : Life) (o : Spot) : Type 0 where
  threads : (k : ℕ) → thread_in_life k life o.guest ≡ thread_in_life k (On from stage) o.guest
  ways : ways_of by life o.verdict o.guest ≡ []
  idle : (k : ℕ) → eqb n k ≡ false → is_busy k life ≡ false
  rests : (k : ℕ) → is_seeking k life ≡ false

-- by's packet has come to home n, in this stage: the home hears it, and the birth of that number becomes what the change makes of it
record IsAsking (n from seq : ℕ) (by : Tid) (stage : Stage) (change : Birth → Birth) (word : Word) (v : Spots) : Type 0 where
  was : (v.threads by).life ≡ On from stage
  may : MayHear n (On from stage)
  births : births_heard by (On from stage) v.births ≡ at_node v.births n (with_birth (v.births n) seq change)
  sems : sems_heard by (On from stage) v.sems ≡ v.sems
  going : wakes_heard v.sems (On from stage) ≡ None
  ways : ways_of by (On from stage) (v.threads by).verdict (v.threads by).guest ≡ way from n word
  idle : (k : ℕ) → is_busy k (On from stage) ≡ false
  quiet : is_quiet (On from stage) ≡ true
  holds : held (On from stage) (v.threads by).guest ≡ Some (holding_of (v.threads by).guest)
  shows : (k : ℕ) → thread_in_life k (On from stage) (v.threads by).guest ≡ cond (eqb from k) (Some (waits wait.ForAnswer (v.threads by).guest)) None

joins_as_asked : (n from seq : ℕ) (by : Tid) (v : Spots) → (v.threads by).life ≡ On from (Asks (tid n seq)) → IsAsking n from seq by (Asks (tid n seq)) (joined by from) (Joins by (tid n seq)) v
joins_as_asked n from seq by v x = record { was = x; may = refl; births = refl; sems = refl; going = refl; ways = refl; idle = λ k. refl; quiet = refl; holds = refl; shows = λ k. refl }

detaches_as_asked : (n from seq : ℕ) (by : Tid) (v : Spots) → (v.threads by).life ≡ On from (Detaches (tid n seq)) → IsAsking n from seq by (Detaches (tid n seq)) detached (Detaching by (tid n seq)) v
detaches_as_asked n from seq by v x = record { was = x; may = refl; births = refl; sems = refl; going = refl; ways = refl; idle = λ k. refl; quiet = refl; holds = refl; shows = λ k. refl }

-- it is to be answered then, or waits for an end
of_answered : {n from seq : ℕ} {by : Tid} {stage : Stage} {change : Birth → Birth} {word : Word} {v : Spots} (reply : TheReply) (second : Option ℕ) → IsAsking n from seq by stage change word v → IsOfHeard v by (record (v.threads by) { life = On from (Answers n reply second) })
of_answered {by = by} {v = v} reply second k = record {
  quiet = quiet k.was k.quiet;
  phase = sym (ap phase_of k.was);
  holds = sym (ap (λ z. held z (v.threads by).guest) k.was ∙ k.holds);
  stays = λ m e. absurd (cc e);
  signals = λ m id up e. absurd (cc e);
  seeks = λ m e. absurd (cc e);
  queues = λ h j. refl;
}

of_awaiting : {n from seq : ℕ} {by : Tid} {stage : Stage} {change : Birth → Birth} {word : Word} {v : Spots} (u : Tid) → IsAsking n from seq by stage change word v → IsOfHeard v by (record (v.threads by) { life = On from (Awaits u) })
of_awaiting {by = by} {v = v} u k = record {
  quiet = quiet k.was k.quiet;
  phase = sym (ap phase_of k.was);
  holds = sym (ap (λ z. held z (v.threads by).guest) k.was ∙ k.holds);
  stays = λ m e. absurd (cc e);
  signals = λ m id up e. absurd (cc e);
  seeks = λ m e. absurd (cc e);
  queues = λ h j. refl;
}

detached_phase : (b : Birth) → phase_at (Some (detached b)) ≡ phase_at (Some b)
detached_phase Lives = refl
detached_phase (Awaited by at) = refl
detached_phase Detached = refl
detached_phase (Ended_birth end) = refl
detached_phase Over = refl

-- a detach neither makes a joiner nor takes one away
detached_awaited : (b : Birth) (c : Tid) (at : ℕ) → Some (detached b) ≡ Some (Awaited c at) → Some b ≡ Some (Awaited c at)
detached_awaited (Awaited by k) c at e = e
detached_awaited Lives c at e = absurd (cc e)
detached_awaited Detached c at e = absurd (cc e)
detached_awaited (Ended_birth end) c at e = absurd (cc e)
detached_awaited Over c at e = absurd (cc e)

awaited_detached : (b : Birth) (c : Tid) (at : ℕ) → Some b ≡ Some (Awaited c at) → Some (detached b) ≡ Some (Awaited c at)
awaited_detached b c at e = let same : b ≡ Awaited c at = cc e in ap (λ z. Some (detached z)) same

-- where there is no birth of that number, nothing changes
renewed_none : (n seq : ℕ) (old : ℕ → List Birth) (change : Birth → Birth) → slice_get (old n) seq ≡ None → Renewed n seq old (with_birth (old n) seq change) None
renewed_none n seq old change e = record {
  gets = λ j. ap (λ bs. slice_get bs j) (with-none (old n) seq change e) ∙ elim (eqb seq j) as (λ v. eqb seq j ≡ v → slice_get (old n) j ≡ cond v None (slice_get (old n) j)) [
    | true ↦ λ f. ap (λ i. slice_get (old n) i) (sym (eqb-true seq j f)) ∙ e
    | false ↦ λ f. refl
  ] refl;
}

same_none : (n seq : ℕ) (old : ℕ → List Birth) (change : Birth → Birth) → slice_get (old n) seq ≡ None → SameJoiner n seq old (with_birth (old n) seq change) None
same_none n seq old change e = record {
  renewed = renewed_none n seq old change e;
  phase = ap phase_at (sym e);
  awaited = λ b at f. absurd (cc f);
  keeps = λ b at f. absurd (cc (e, f));
}

module _ {outset : Outset} {ahead : List Item} {L : Links} where
  open outset use {program as p, net, occasion as q, node as n, opening, world as w}

  -- a home hears a thread, which comes to this life
  hears_as : (s : Local) {from seq : ℕ} (by : Tid) {stage : Stage} {change : Birth → Birth} {word : Word} (life : Life) (more : List Busy) → (m : Midst outset (Says (Heard by) ∷ ahead) L (nothing s) [])
      → IsAsking n from seq by stage change word m.now.spots
      → heard_at m.now.spots.births m.now.spots.sems (On from stage) ≡ life
      → IsHeard n stage from by life (m.now.spots.threads by)
      → StandsFor is_tid busy_name (busy_part n) more (update m.now.spots.threads by (record (m.now.spots.threads by) { life = life }))
      → Agrees p (spots_with (update m.now.spots.threads by (record (m.now.spots.threads by) { life = life })) m.now.spots.slots (at_node m.now.spots.births n (with_birth (m.now.spots.births n) seq change)) m.now.spots.sems m.now.spots.forests m.now.spots.halts m.now.spots.remote)
      → doing more ahead ≡ (items_in n by life ++ []) ++ ahead
      → Midst outset ahead (links_less n L from by) (change_birth seq change (say (Heard by) (nothing s))) more
  unfolding change_birth say
  hears_as s {from} {seq} by {stage} {change} {word} life more m asking becomes heard hand agrees still =
      let v : Spots = m.now.spots in
      let o : Spot = v.threads by in
      let x : o.life ≡ On from stage = asking.was in
      let r : Spot = record o { life = life } in
      let births : List Birth = with_birth (v.births n) seq change in
      let same = ap (λ z. spots_with (update (set_going (wakes_heard v.sems z) v.threads) by (record o { life = heard_at v.births v.sems z })) v.slots (births_heard by z v.births) (sems_heard by z v.sems) v.forests v.halts v.remote) x
      ∙ ap (λ z. spots_with (update (set_going (wakes_heard v.sems (On from stage)) v.threads) by (record o { life = z })) v.slots (births_heard by (On from stage) v.births) (sems_heard by (On from stage) v.sems) v.forests v.halts v.remote) becomes
      ∙ ap (λ z. spots_with (update (set_going z v.threads) by r) v.slots (births_heard by (On from stage) v.births) (sems_heard by (On from stage) v.sems) v.forests v.halts v.remote) asking.going
      ∙ ap (λ z. spots_with (update v.threads by r) v.slots z (sems_heard by (On from stage) v.sems) v.forests v.halts v.remote) asking.births
      ∙ ap (λ z. spots_with (update v.threads by r) v.slots (at_node v.births n births) z v.forests v.halts v.remote) asking.sems in
      (labelled (links_less n L from by) more (Heard by) (spots_with (update v.threads by r) v.slots (at_node v.births n births) v.sems v.forests v.halts v.remote) _ m
      same
      (record { solo = tt; holders = tt; life = subst (λ z. MayHear n z) (sym x) asking.may; replies = tt; grants = tt }) refl refl
      (record {
        here = record {
          threads = map_kept is_tid is-true is-refl (thread_part n) v.threads by r s.threads m.here.threads (heard.threads n ∙ sym (ap (λ z. thread_in_life n z o.guest) x));
          busy = hand;
          seekers = seekers_kept n v.threads by r m.here.seekers refl ((quiet x asking.quiet).seeks n) (heard.rests n);
          forest = m.here.forest;
          births = rw (eq-eqb n n refl) (ap (λ bs. with_birth bs seq change) m.here.births);
          sems = m.here.sems;
          free = m.here.free;
          halted = m.here.halted;
        };
        there = λ k e. here_kept k v by r (net.nodes k) [] [] (m.there k e)
            (record {
              thread = heard.threads k ∙ sym (ap (λ z. thread_in_life k z o.guest) x);
              busy = busy_none k by r life refl (heard.idle k e) ∙ sym (busy_none k by o (On from stage) x (asking.idle k));
              seeker = both_idle k by o r ((quiet x asking.quiet).seeks k) (heard.rests k);
            })
            (rw e refl) refl refl (λ y. refl) refl;
        links = λ i j. nothing_sent n (links_less n L from by) i j (update v.threads by r) (take_link from n word by r L v.threads (links_whole m) (ap (λ z. ways_of by z o.verdict o.guest) x ∙ asking.ways ∙ ap (λ xs. way from n word ++ xs) (sym heard.ways)) i j);
        turns = still_in_turn (Heard by) from by m;
        agrees = agrees;
      })
      (beside {due = Says (Heard by) ∷ ahead} {ahead = ahead} {hand = []} {more = more} (record { heir = ap (λ z. as_list (one_going (wakes_heard v.sems z)) ++ Thread by ∷ []) x ∙ ap (λ z. as_list (one_going z) ++ Thread by ∷ []) asking.going; only = tt; front = λ sends talk. refl; next = refl; still = still })
      (life_then p n v (Heard by) by r _ same refl) tt refl refl)).midst

  -- the home answers it
  hears_answer : (s : Local) {from seq : ℕ} (by : Tid) (reply : TheReply) (second : Option ℕ) {stage : Stage} {change : Birth → Birth} {word : Word} {new : Option Birth} → (m : Midst outset (Says (Heard by) ∷ ahead) L (nothing s) [])
      → IsAsking n from seq by stage change word m.now.spots
      → heard_at m.now.spots.births m.now.spots.sems (On from stage) ≡ On from (Answers n reply second)
      → SameJoiner n seq m.now.spots.births (with_birth (m.now.spots.births n) seq change) new
      → Midst outset ahead (links_less n L from by) (reply_by_link by from reply second (change_birth seq change (say (Heard by) (nothing s)))) []
  hears_answer s {from} {seq} by reply second {stage} {change} m asking becomes same =
      let o : Spot = m.now.spots.threads by in
      let life : Life = On from (Answers n reply second) in
      let r : Spot = record o { life = life } in
      reply_ok (change_birth seq change (say (Heard by) (nothing s))) by from reply second []
      (hears_as s by life (busy by life ∷ []) m asking becomes (record { threads = λ k. sym (asking.shows k); ways = refl; idle = λ k e. e; rests = λ k. refl })
      (fronted is_tid is-true is-refl busy_name (busy_part n) m.now.spots.threads by r [] (busy by life) m.here.busy refl (busy_none n by o (On from stage) asking.was (asking.idle n)) (rw (eq-eqb n n refl) refl))
      (joins_agree r m.agrees (of_answered reply second asking) (record {
        renewed = same.renewed;
        phase = same.phase;
        awaited = λ b at e. awaits_same m.now.spots.threads by r b (tid n seq) at ((quiet asking.was asking.quiet).waits (tid n seq) at) (m.agrees.awaits (tid n seq) b at (same.awaited b at e));
        waits = λ u at f. absurd (cc f);
        keeps = same.keeps;
      }))
      (rw (eq-eqb n n refl) refl))

  pub hears_ok : (s : Local) (from seq : ℕ) (by : Tid) → (m : Midst outset (Says (Heard by) ∷ ahead) L (nothing s) []) → (m.now.spots.threads by).life ≡ On from (Asks (tid n seq))
      → Midst outset ahead (links_less n L from by) (judges_join by from (verdict (slice_get s.births seq)) (hears by seq from (nothing s))) []
  unfolding hears
  hears_ok s from seq by m x = subst (λ bs. Midst outset ahead (links_less n L from by) (judges_join by from (verdict (slice_get bs seq)) (change_birth seq (joined by from) (say (Heard by) (nothing s)))) []) (sym m.here.births) (by_birth (slice_get (m.now.spots.births n) seq) refl)
    where
      o : Spot
      o = m.now.spots.threads by

      asking : IsAsking n from seq by (Asks (tid n seq)) (joined by from) (Joins by (tid n seq)) m.now.spots
      asking = joins_as_asked n from seq by m.now.spots x

      answer : (reply : TheReply) (second : Option ℕ) (b : Birth) (v : Verdict) → slice_get (m.now.spots.births n) seq ≡ Some b → verdict (Some b) ≡ v → heard_life from (tid n seq) v ≡ On from (Answers n reply second)
          → ((c : Tid) (at : ℕ) → Some (joined by from b) ≡ Some (Awaited c at) → Some b ≡ Some (Awaited c at))
          → ((c : Tid) (at : ℕ) → Some b ≡ Some (Awaited c at) → Some (joined by from b) ≡ Some (Awaited c at))
          → Midst outset ahead (links_less n L from by) (reply_by_link by from reply second (change_birth seq (joined by from) (say (Heard by) (nothing s)))) []
      answer reply second b v e f h awaited keeps =
          hears_answer s by reply second {new = Some (joined by from b)} m asking (ap (λ z. heard_life from (tid n seq) (verdict z)) e ∙ ap (heard_life from (tid n seq)) f ∙ h) (record {
            renewed = record { gets = λ j. get-with (m.now.spots.births n) seq j (joined by from) b e };
            phase = joined_phase b by from ∙ ap phase_at (sym e);
            awaited = λ c at g. e ∙ awaited c at g;
            keeps = λ c at g. keeps c at (sym e ∙ g);
          })

      by_birth : (b : Option Birth) → slice_get (m.now.spots.births n) seq ≡ b → Midst outset ahead (links_less n L from by) (judges_join by from (verdict b) (change_birth seq (joined by from) (say (Heard by) (nothing s)))) []
      by_birth None e =
          hears_answer s by replies.NoSuch None {new = None} m asking (ap (λ z. heard_life from (tid n seq) (verdict z)) e) (same_none n seq m.now.spots.births (joined by from) e)
      by_birth (Some Lives) e = hears_as s by life [] m asking (ap (λ z. heard_life from (tid n seq) (verdict z)) e) (record { threads = λ k. refl; ways = refl; idle = λ k f. refl; rests = λ k. refl })
          (kept is_tid is-true is-refl busy_name (busy_part n) m.now.spots.threads by r [] m.here.busy (sym (busy_none n by o (On from (Asks (tid n seq))) x refl)))
          (joins_agree r m.agrees (of_awaiting (tid n seq) asking) join)
          refl
        where
          life : Life
          life = On from (Awaits (tid n seq))

          r : Spot
          r = record o { life = life }

          births : List Birth
          births = with_birth (m.now.spots.births n) seq (joined by from)

          taken : Renewed n seq m.now.spots.births births (Some (Awaited by from))
          taken = record { gets = λ j. get-with (m.now.spots.births n) seq j (joined by from) Lives e }

          -- the joiner waits from now on
          join : IsJoined n seq m.now.spots by r births (Some (Awaited by from))
          join = record {
            renewed = taken;
            phase = ap phase_at (sym e);
            awaited = λ b at f.
                let same : Awaited by from ≡ Awaited b at = cc f in
                let who : by ≡ b = cc same in
                let node : from ≡ at = cc same in
                subst (λ k. (update m.now.spots.threads by r b).life ≡ On k (Awaits (tid n seq))) node (subst (λ z. (update m.now.spots.threads by r z).life ≡ On from (Awaits (tid n seq))) who (ap (λ (z : Spot). z.life) (updated m.now.spots.threads by r)));
            waits = λ u at f.
                let of : Awaits (tid n seq) ≡ Awaits u = cc f in
                let one : tid n seq ≡ u = cc of in
                let node : from ≡ at = cc f in
                subst (λ (z : Tid). slice_get (at_node m.now.spots.births n births z.home) z.seq ≡ Some (Awaited by at)) one
                (subst (λ k. slice_get (at_node m.now.spots.births n births n) seq ≡ Some (Awaited by k)) node (own_birth taken));
            keeps = λ b at f. absurd (cc (e, f));
          }
      by_birth (Some (Awaited c at)) e = answer replies.Taken None (Awaited c at) verdicts.Taken e refl refl (λ d k f. f) (λ d k f. f)
      by_birth (Some Detached) e = answer replies.NoSuch None Detached verdicts.NoSuch e refl refl (λ d k f. absurd (cc f)) (λ d k f. absurd (cc f))
      by_birth (Some (Ended_birth end)) e = answer (end_reply end) (Some (end_value end)) (Ended_birth end) (verdicts.Now end) e refl refl (λ d k f. absurd (cc f)) (λ d k f. absurd (cc f))
      by_birth (Some Over) e = answer replies.NoSuch None Over verdicts.NoSuch e refl refl (λ d k f. absurd (cc f)) (λ d k f. absurd (cc f))

  -- a detach is answered at once
  pub hears_detach_ok : (s : Local) (from seq : ℕ) (by : Tid) → (m : Midst outset (Says (Heard by) ∷ ahead) L (nothing s) []) → (m.now.spots.threads by).life ≡ On from (Detaches (tid n seq))
      → Midst outset ahead (links_less n L from by) (reply_by_link by from (detached_reply (detach_verdict (slice_get s.births seq))) None (hears_detach by seq (nothing s))) []
  unfolding hears_detach
  hears_detach_ok s from seq by m x = subst (λ bs. Midst outset ahead (links_less n L from by) (reply_by_link by from (detached_reply (detach_verdict (slice_get bs seq))) None (change_birth seq detached (say (Heard by) (nothing s)))) []) (sym m.here.births) (by_birth (slice_get (m.now.spots.births n) seq) refl)
    where
      asking : IsAsking n from seq by (Detaches (tid n seq)) detached (Detaching by (tid n seq)) m.now.spots
      asking = detaches_as_asked n from seq by m.now.spots x

      by_birth : (b : Option Birth) → slice_get (m.now.spots.births n) seq ≡ b → Midst outset ahead (links_less n L from by) (reply_by_link by from (detached_reply (detach_verdict b)) None (change_birth seq detached (say (Heard by) (nothing s)))) []
      by_birth None e = hears_answer s by replies.NoSuch None {new = None} m asking (ap (λ z. On from (Answers n (detached_reply (detach_verdict z)) None)) e) (same_none n seq m.now.spots.births detached e)
      by_birth (Some b) e = hears_answer s by (detached_reply (detach_verdict (Some b))) None {new = Some (detached b)} m asking (ap (λ z. On from (Answers n (detached_reply (detach_verdict z)) None)) e) (record {
        renewed = record { gets = λ j. get-with (m.now.spots.births n) seq j detached b e };
        phase = detached_phase b ∙ ap phase_at (sym e);
        awaited = λ c at g. e ∙ detached_awaited b c at g;
        keeps = λ c at g. awaited_detached b c at (sym e ∙ g);
      })
