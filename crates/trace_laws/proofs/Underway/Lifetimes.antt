-- Births and ends, on an event in its midst: the steps that move slots and change births.
use Rattle.std.proofs.Common.{◌≡◌, ℕ, ◌+◌, List, [], ◌∷◌, ◌++◌, length, Option, Some, None, Bool, true, false, eqb, cond, refl, sym, ap, ◌∙◌, subst, arith}
use Rattle.std.specs.Prelude.{slice_get, nat_lt, is_some}
use Rattle.std.specs.BTreeMap.{insert_entry}
use Rattle.std.proofs.lemmas.Bool.{eq-eqb, eqb-true, lt-ltb, ltb-true}
use Rattle.std.proofs.lemmas.List.{append-nil}
use Rattle.slot_space.specs.Sets.{has, minus, union, run}
use Rattle.slot_space.specs.Replies.{tid_value}
use Rattle.slot_space.specs.declared.names.Tid.{Tid}
use Rattle.slot_space.proofs.Lemmas.{has-union, has-minus, has-run, lowest_run-same, found}
use Rattle.marcel_core.specs.declared.end.End.{End}
use Rattle.marcel_core.specs.declared.birth.Birth.{Birth}
use Rattle.marcel_core.specs.declared.birth.Birth.TheVariants.{Lives, Awaited}
use Rattle.marcel_sync.specs.Semaphores.{node_in}
use Rattle.run_trace.specs.declared.label.Label.{Label}
use Rattle.run_trace.specs.declared.label.Label.TheVariants.{Born, Gave, Ended, Told}
use Rattle.run_trace.specs.declared.label.Why.{Why}
use Rattle.run_trace.specs.declared.label.Why.TheVariants as why
use Rattle.run_trace.specs.declared.node.Wait.{Wait}
use Rattle.run_trace.specs.declared.packet.Body.TheVariants.{EndNote}
use Rattle.run_trace.specs.declared.node.Wait.TheVariants as wait
use Rattle.run_trace.specs.Names.{is_tid, tid, tid_cmp}
use Rattle.run_trace.specs.Program.{Program, nodes_of, main_priority}
use Rattle.run_trace.specs.Guests.{Guest, Thread, waits, told, newborn, stack_end, stack_start, guest_slots, gives_slots}
use Rattle.run_trace.specs.Local.{Local, EventSoFar, with_threads}
use Rattle.bubbles.specs.Forests.{ForestView, enters}
use Rattle.bubbles.specs.Forests.{leaves as without_thread}
use Rattle.run_trace.specs.Bubbles.{bubble_for}
use Rattle.trace_laws.proofs.Lists.SeatedLabels.{IsShifted}
use Rattle.std.specs.Map.{set_value, lookup}
use Rattle.run_trace.specs.Calls.{call_of}
use Rattle.run_trace.specs.Steps.{say, put, enter, depart, arrive, thread_in, thread_out, slots_out, slots_in, birth_in, next_name, birth, gives, ends, keep, judge, tell, tell_found}
use Rattle.run_trace.specs.Machine.{free_run, free_slot, end_thread, answer, creates, creates_in}
use Rattle.run_trace.specs.Cluster.{Net}
use Rattle.run_trace.specs.Spots.{Stage, Stays, Seeks, Ready, Due, Ends, Leaves, Awaits, Signals, Life, Unborn, On, Moving, Noting, Gone, Spot, Spots, Holder, Of_node, Of_thread, update, at_node, after_label, gave_life, born_spot, no_response, is_free, lowest_free, forests_after, priority_by, stack_bytes}
use Rattle.run_trace.specs.Rules.{MayGive}
use Rattle.run_trace.specs.Stands.{itself, seeker_part, serving, WantsSlots, Here, Agrees, Busy, busy, busy_name, busy_part, thread_part, thread_in_life, ways_of, phase_of, phase_at, Before, During, held, slots_held, IsWellHeld, is_thread, waiter_in_life}
use Rattle.run_trace.proofs.Lemmas.{is-other, is-true, is-refl, is-false, is-flip, same_name}
use Rattle.trace_laws.proofs.Lists.KeyedLemmas.{lookup-set_same, lookup-insert, set-insert, kept, fronted, map_set, unfronted, refronted, map_kept, map_removed, map_added}
use Rattle.trace_laws.proofs.Lists.Births.{get-push, get-past, no_bytes, plain_start}
use Rattle.run_trace.specs.World.{World}
use Rattle.run_trace.specs.Obeying.{Allows, IsBy}
use Rattle.trace_laws.proofs.Underway.Midst.{Speaks, as_before, in_turn_kept, no_seeker, Outset, StandsAmid, amid, having_said, Then, Own, beside, Links, Midst, plain, keeps, under, spots_with, own_forest, labelled, here_kept, agrees_changed, links_kept, Quiet, quiet, Plain, fits, queued, queued_kept}
use Rattle.trace_laws.proofs.Lists.Parts.{thread_holds, node_holds, thread_was, busy_was, frame_home, away_thread, busy_none, both_idle}
use Rattle.trace_laws.proofs.Lists.Stages.{home_way, home_quiet, home_plain}
use Rattle.trace_laws.proofs.Underway.Steps.{on_node, IsAtHome, is_spoken, after_first, stands_as, seekers_kept, own_stays, own_goes, life_then, Ties, in_hand, send_step}
use Rattle.trace_laws.proofs.Underway.ReplySteps.{answer_ok}
use Rattle.trace_laws.proofs.Underway.Seeking.{IsCreation, near_amid, seeks_first}
use Rattle.run_trace.specs.Items.{Says, Serves, Item, is_seeking, has_slots, as_list}

unborn_of : (life : Life) → Before ≡ phase_of life → life ≡ Unborn
unborn_of Unborn e = refl
unborn_of (On n stage) e = absurd (cc e)
unborn_of (Moving n to) e = absurd (cc e)
unborn_of (Noting n end) e = absurd (cc e)
unborn_of (Gone end) e = absurd (cc e)

-- ## Slots that change hands

-- these slots go to node n
abbrev pub given : ℕ → List ℕ → (ℕ → Holder) → ℕ → Holder
given n slots f y = cond (has y slots) (Of_node n) (f y)

-- these slots go to thread t
abbrev pub taken : Tid → List ℕ → (ℕ → Holder) → ℕ → Holder
taken t slots f y = cond (has y slots) (Of_thread t) (f y)

-- who holds what, once it has changed hands between node n and thread t, whose is.threads s then
pub record Changes (n : ℕ) (w : Spots) (t : Tid) (s : Spot) (now : List ℕ) (f : ℕ → Holder) : Type 0 where
  pub free : (y : ℕ) → has y now ≡ is_free n (f y)
  pub there : (k : ℕ) → eqb n k ≡ false → (y : ℕ) → is_free k (f y) ≡ is_free k (w.slots y)
  pub slots : (u : Tid) (y : ℕ) → has y (slots_held (held (update w.threads t s u).life (update w.threads t s u).guest)) ≡ is_thread u (f y)

module _ (p : Program) (n : ℕ) (w : Spots) (t : Tid) (s : Spot) (old slots : List ℕ) (a : Agrees p w) (mine : (y : ℕ) → has y old ≡ is_free n (w.slots y)) where
  -- the node's slots
  abbrev before : ℕ → Bool
  before y = has y (slots_held (held (w.threads t).life (w.threads t).guest))

  abbrev after : ℕ → Bool
  after y = has y (slots_held (held s.life s.guest))

  pub gives_change : ((y : ℕ) → has y slots ≡ true → w.slots y ≡ Of_thread t) → ((y : ℕ) → after y ≡ cond (has y slots) false (before y)) → Changes n w t s (union old slots) (given n slots w.slots)
  gives_change holder less = record {
    free = λ y. has-union y old slots ∙ elim (has y slots) as (λ b. cond (has y old) true b ≡ is_free n (cond b (Of_node n) (w.slots y))) [
      | true ↦ elim (has y old) as (λ b. cond b true true ≡ eqb n n) [ true ↦ sym (eq-eqb n n refl) | false ↦ sym (eq-eqb n n refl) ]
      | false ↦ elim (has y old) as (λ b. has y old ≡ b → cond b true false ≡ is_free n (w.slots y)) [ true ↦ λ e. sym e ∙ mine y | false ↦ λ e. sym e ∙ mine y ] refl
    ];
    there = λ k e y. elim (has y slots) as (λ b. has y slots ≡ b → is_free k (cond b (Of_node n) (w.slots y)) ≡ is_free k (w.slots y)) [
      | true ↦ λ h. e ∙ ap (is_free k) (sym (holder y h))
      | false ↦ λ h. refl
    ] refl;
    slots = λ u y. elim (is_tid t u) as (λ b. is_tid t u ≡ b → has y (slots_held (held (cond b s (w.threads u)).life (cond b s (w.threads u)).guest)) ≡ is_thread u (given n slots w.slots y)) [
      | true ↦ λ e. subst (λ z. after y ≡ is_thread z (given n slots w.slots y)) (is-true t u e) (less y ∙ elim (has y slots) as (λ b. cond b false (before y) ≡ is_thread t (cond b (Of_node n) (w.slots y))) [ true ↦ refl | false ↦ a.slots t y ])
      | false ↦ λ e. a.slots u y ∙ elim (has y slots) as (λ b. has y slots ≡ b → is_thread u (w.slots y) ≡ is_thread u (cond b (Of_node n) (w.slots y))) [
        | true ↦ λ h. ap (is_thread u) (holder y h) ∙ is-flip t u e
        | false ↦ λ h. refl
      ] refl
    ] refl;
  }

  pub takes_change : ((y : ℕ) → has y slots ≡ true → w.slots y ≡ Of_node n) → ((y : ℕ) → after y ≡ cond (has y slots) true (before y)) → Changes n w t s (minus old slots) (taken t slots w.slots)
  takes_change holder more = record {
    free = λ y. has-minus y old slots ∙ elim (has y slots) as (λ b. cond b false (has y old) ≡ is_free n (cond b (Of_thread t) (w.slots y))) [ true ↦ refl | false ↦ mine y ];
    there = λ k e y. elim (has y slots) as (λ b. has y slots ≡ b → is_free k (cond b (Of_thread t) (w.slots y)) ≡ is_free k (w.slots y)) [
      | true ↦ λ h. sym e ∙ ap (is_free k) (sym (holder y h))
      | false ↦ λ h. refl
    ] refl;
    slots = λ u y. elim (is_tid t u) as (λ b. is_tid t u ≡ b → has y (slots_held (held (cond b s (w.threads u)).life (cond b s (w.threads u)).guest)) ≡ is_thread u (taken t slots w.slots y)) [
      | true ↦ λ e. subst (λ z. after y ≡ is_thread z (taken t slots w.slots y)) (is-true t u e) (more y ∙ elim (has y slots) as (λ b. cond b true (before y) ≡ is_thread t (cond b (Of_thread t) (w.slots y))) [ true ↦ sym (is-refl t) | false ↦ a.slots t y ])
      | false ↦ λ e. a.slots u y ∙ elim (has y slots) as (λ b. has y slots ≡ b → is_thread u (w.slots y) ≡ is_thread u (cond b (Of_thread t) (w.slots y))) [
        | true ↦ λ h. ap (is_thread u) (holder y h) ∙ sym (is-flip t u e)
        | false ↦ λ h. refl
      ] refl
    ] refl;
  }

-- ## Ends

-- a label by which slots go between the event's node and its thread t, said of the world v, and what it leaves as it was
pub record IsHandover (outset : Outset) (ahead : List Item) (d : EventSoFar) (hand more : List Busy) (l : Label) (t : Tid) (r : Spot) (now : Local) (f : ℕ → Holder) (v : World) : Type 0 where
  pub same : after_label outset.program outset.node l v.spots ≡ spots_with (update v.spots.threads t r) f v.spots.births v.spots.sems v.spots.forests v.spots.halts v.spots.remote
  pub may : Allows outset.program (having_said d.labels outset.occasion) outset.node l v
  pub ties : Ties outset.node v.spots t r now more
  pub births : now.births ≡ d.node.births
  pub sems : now.sems ≡ d.node.sems
  pub halted : now.halted ≡ d.node.halted
  pub change : Changes outset.node v.spots t r now.slots.free f
  pub well : IsWellHeld (held r.life r.guest)
  pub next : Own outset.program outset.node l t v.spots ahead ahead hand more r.life
  pub forest : now.forest ≡ d.node.forest
  pub shifted : IsShifted outset.node l v.spots
  pub booted : now.booted ≡ d.node.booted
  pub talk : now.talk ≡ d.node.talk

module _ {outset : Outset} {ahead : List Item} {L : Links} where
  open outset use {program as p, net, occasion as q, node as n, opening, world as w}

  -- by it the thread stays on the node
  pub slots_step : {d : EventSoFar} {hand : List Busy} (more : List Busy) (l : Label) (t : Tid) (r : Spot) (now : Local) (f : ℕ → Holder) (a b : Stage)
      → (m : Midst outset ahead L d hand) → IsHandover outset ahead d hand more l t r now f m.now → IsAtHome p n l t r a b m.now.spots
      → Then outset ahead L m.now l (record { node = now; labels = d.labels ++ l ∷ []; sends = d.sends; prints = d.prints }) more
  slots_step {d} more l t r now f a b m move home =
      let v : Spots = m.now.spots in
      let s : Spot = v.threads t in
      let x : s.life ≡ On n a = home.was in
      let y : r.life ≡ On n b = home.is in
      let before : ways_of t s.life s.verdict s.guest ≡ [] = ap (λ z. ways_of t z s.verdict s.guest) x ∙ home_way t n a s.verdict s.guest home.home_was in
      let after : ways_of t r.life r.verdict r.guest ≡ [] = ap (λ z. ways_of t z r.verdict r.guest) y ∙ home_way t n b r.verdict r.guest home.home_is in
      let old_quiet : Quiet s.life = home_quiet n a s.life x home.home_was in
      let new_plain : Plain r.life = subst (λ z. Plain z) (sym y) (home_plain n b home.home_is) in
      labelled L more l (spots_with (update v.threads t r) f v.births v.sems v.forests v.halts v.remote) now m move.same move.may
      (sym (append-nil d.sends) ∙ ap (λ z. d.sends ++ z) (sym home.sent)) (sym (append-nil d.prints) ∙ ap (λ z. d.prints ++ z) (sym home.shown))
      (record {
        here = record { threads = move.ties.threads; forest = move.forest ∙ m.here.forest; busy = move.ties.busy; seekers = seekers_kept n v.threads t r m.here.seekers (ap (λ z. serving ahead ++ z.claims) move.talk) (old_quiet.seeks n) (new_plain.seeks n); births = move.births ∙ m.here.births; sems = move.sems ∙ m.here.sems; free = move.change.free; halted = move.halted ∙ m.here.halted };
        there = λ k e. here_kept k v t r (net.nodes k) [] [] (m.there k e) (frame_home n k t s r a b x y home.home_was home.home_is e) refl refl refl (move.change.there k e) refl;
        links = λ i j. links_kept t r v.threads (under n L d.sends) m.links (after ∙ sym before) i j;
        turns = in_turn_kept net n d.node.talk now.talk (under n L d.sends) (under n L d.sends) ahead ahead m.turns move.talk (λ i j. refl) refl refl;
        agrees = agrees_changed p v t r m.agrees (ap phase_of y ∙ sym (ap phase_of x)) old_quiet.born old_quiet.waits (fits new_plain)
            (queued_kept v.threads t r (queued m.agrees) (λ j k. old_quiet.queues j k t) (λ j k. new_plain.queues j k t)) (λ k e. e) move.change.slots move.well;
      })
      (beside move.next (life_then p n m.now.spots l t r _ move.same refl) move.shifted move.booted move.talk)

  pub gives_ok : (d : EventSoFar) (t : Tid) (end : End) (hs : List Busy) → (m : Midst outset ahead L d (busy t (On n (Ends end)) ∷ hs)) → Midst outset ahead L (gives t (waits wait.No (m.now.spots.threads t).guest) d) (busy t (On n (Leaves end)) ∷ hs)
  unfolding gives thread_out slots_in say
  gives_ok d t end hs m =
      let v : Spots = m.now.spots in
      let s : Spot = m.now.spots.threads t in
      let x : s.life ≡ On n (Ends end) = in_hand m in
      let mine : List ℕ = guest_slots s.guest in
      let r : Spot = record s { life = On n (Leaves end); guest = gives_slots mine s.guest } in
      let had : (y : ℕ) → has y (slots_held (held s.life s.guest)) ≡ has y mine = λ y. ap (λ z. has y (slots_held (held z s.guest))) x in
      let holder : (y : ℕ) → has y mine ≡ true → v.slots y ≡ Of_thread t = λ y h. thread_holds t (v.slots y) (sym (sym (had y) ∙ m.agrees.slots t y) ∙ h) in
      (slots_step (busy t (On n (Leaves end)) ∷ hs) (Gave t mine) t r _ (given n mine v.slots) (Ends end) (Leaves end) m
      (record {
        same = ap (λ z. spots_with (update v.threads t (record s { life = gave_life z; guest = gives_slots mine s.guest })) (given n mine v.slots) v.births v.sems v.forests v.halts v.remote) x;
        may = record { solo = tt; holders = holder; life = subst (λ z. MayGive n z s.guest mine) (sym x) (refl, refl); replies = tt; grants = tt };
        ties = record {
          threads = map_removed is_tid is-true is-refl (thread_part n) v.threads t r d.node.threads m.here.threads (thread_was n t r (Leaves end) refl);
          busy = refronted is_tid is-true is-refl busy_name (busy_part n) v.threads t r hs (busy t (On n (Ends end))) (busy t (On n (Leaves end))) m.here.busy refl refl (busy_was n t r (On n (Leaves end)) refl (eq-eqb n n refl));
        };
        births = refl;
        sems = refl;
        halted = refl;
        change = gives_change p n v t r d.node.slots.free mine m.agrees m.here.free holder (λ y. elim (has y mine) as (λ b. has y mine ≡ b → false ≡ cond b false (has y (slots_held (held s.life s.guest)))) [ true ↦ λ h. refl | false ↦ λ h. sym (had y ∙ h) ] refl);
        well = tt;
        next = own_stays m refl refl tt (eq-eqb n n refl);
        talk = refl;
        forest = refl;
        shifted = tt;
        booted = refl;
      })
      (record {
        sent = refl;
        shown = refl;
        was = x;
        is = refl;
        home_was = refl;
        home_is = refl;
      })).midst

  pub ends_ok : (d : EventSoFar) (t : Tid) (end : End) (hs : List Busy) → (m : Midst outset ahead L d (busy t (On n (Leaves end)) ∷ hs)) → Midst outset ahead L (ends t end d) hs
  unfolding ends put say depart
  ends_ok d t end hs m =
      let v : Spots = m.now.spots in
      let s : Spot = m.now.spots.threads t in
      let x : s.life ≡ On n (Leaves end) = in_hand m in
      let r : Spot = record s { life = Noting n end } in
      (send_step hs (Ended t end) t r _ t.home (EndNote t.seq end) m
      (record {
        same = refl;
        may = record { solo = tt; holders = tt; life = x; replies = tt; grants = tt };
        ties = record {
          threads = map_kept is_tid is-true is-refl (thread_part n) v.threads t r d.node.threads m.here.threads (sym (thread_was n t s (Leaves end) x));
          busy = unfronted is_tid is-true is-refl busy_name (busy_part n) v.threads t r hs (busy t (On n (Leaves end))) m.here.busy refl refl;
        };
        births = refl;
        sems = refl;
        free = refl;
        halted = refl;
        next = own_goes m refl refl tt refl refl;
        after = as_before;
        talk = refl;
        forest = ap (without_thread t) m.here.forest ∙ own_forest v.forests n (without_thread t (v.forests n));
        shifted = tt;
        booted = refl;
      })
      (record {
        sent = refl;
        shown = refl;
        before = ap (λ z. ways_of t z s.verdict s.guest) x;
        after = refl;
        name = refl;
      })
      (record {
        frame = λ k e. record {
          thread = sym (away_thread n k t s (Leaves end) x e);
          busy = sym (busy_none k t s (On n (Leaves end)) x e);
          seeker = both_idle k t s r (ap (is_seeking k) x) refl;
        };
        phase = sym (ap phase_of x);
        quiet = quiet x refl;
        holds = keeps _ _ (sym (ap (λ z. held z s.guest) x));
        whole = plain _ refl;
      })).midst

  pub end_thread_ok : (d : EventSoFar) (t : Tid) (end : End) (hs : List Busy) → (m : Midst outset ahead L d (busy t (On n (Ends end)) ∷ hs)) → Midst outset ahead L (end_thread t (waits wait.No (m.now.spots.threads t).guest) end d) hs
  end_thread_ok d t end hs m = ends_ok (gives t (waits wait.No (m.now.spots.threads t).guest) d) t end hs (gives_ok d t end hs m)

-- ## Births

-- a node with one more thread
abbrev with_newborn : Tid → Guest → ℕ → Option ℕ → Local → Local
with_newborn t g slot bubble s = record s {
  slots = record s.slots { free = minus s.slots.free (slot ∷ []) };
  threads = insert_entry tid_cmp s.threads t (waits wait.No g);
  forest = enters t g.priority bubble s.forest;
  births = s.births ++ Lives ∷ [];
}

-- the next name of node n, and what is told once it has a thread with this slot
abbrev new_name : ℕ → Spots → Tid
new_name n v = tid n (length (v.births n))

abbrev new_spot : ℕ → Guest → Spot
new_spot n g = record { life = On n Ready; guest = g; verdict = no_response }

abbrev born_spots : ℕ → Guest → (slot : ℕ) → (bubble : Option ℕ) → Spots → Spots
born_spots n g slot bubble v =
    spots_with (update v.threads (new_name n v) (new_spot n g)) (at_node v.slots slot (Of_thread (new_name n v))) (at_node v.births n (v.births n ++ Lives ∷ [])) v.sems
    (at_node v.forests n (enters (new_name n v) g.priority bubble (v.forests n))) v.halts v.remote

-- a guest that node n can begin with this slot: it has its stack alone, and no block
record Newborn (n : ℕ) (v : Spots) (g : Guest) (slot : ℕ) : Type 0 where
  holder : v.slots slot ≡ Of_node n
  mine : guest_slots g ≡ slot ∷ []
  well : IsWellHeld (held (On n Ready) g)

new_guest : (n : ℕ) (v : Spots) (entry a0 a1 sp slot priority : ℕ) → v.slots slot ≡ Of_node n → Newborn n v (newborn entry a0 a1 sp slot priority) slot
new_guest n v entry a0 a1 sp slot priority holder = record { holder = holder; mine = refl; well = record { stack = rw (eq-eqb slot slot refl) refl; blocks = λ x h. absurd (cc h) } }

unborn : {p : Program} {v : Spots} (n : ℕ) → Agrees p v → (v.threads (new_name n v)).life ≡ Unborn
unborn {v = v} n a = unborn_of (v.threads (new_name n v)).life (sym (ap phase_at (get-past (v.births n))) ∙ a.named (new_name n v))

-- the births of another thread are as before
other_births : (n : ℕ) (v : Spots) (u : Tid) → is_tid (new_name n v) u ≡ false → slice_get (at_node v.births n (v.births n ++ Lives ∷ []) u.home) u.seq ≡ slice_get (v.births u.home) u.seq
other_births n v u e = elim (eqb n u.home) as (λ b. eqb n u.home ≡ b → slice_get (cond b (v.births n ++ Lives ∷ []) (v.births u.home)) u.seq ≡ slice_get (v.births u.home) u.seq) [
  | true ↦ λ h.
      let home : n ≡ u.home = eqb-true n u.home h in
      subst (λ k. slice_get (v.births n ++ Lives ∷ []) u.seq ≡ slice_get (v.births k) u.seq) home
      (get-push (v.births n) Lives u.seq ∙ elim (eqb u.seq (length (v.births n))) as (λ b. eqb u.seq (length (v.births n)) ≡ b → cond b (Some Lives) (slice_get (v.births n) u.seq) ≡ slice_get (v.births n) u.seq) [
        | true ↦ λ k. absurd (is-false (new_name n v) u e (same_name (new_name n v) u home (sym (eqb-true u.seq (length (v.births n)) k))))
        | false ↦ λ k. refl
      ] refl)
  | false ↦ λ h. refl
] refl

own_birth : (n : ℕ) (v : Spots) → slice_get (at_node v.births n (v.births n ++ Lives ∷ []) n) (length (v.births n)) ≡ Some Lives
own_birth n v = rw (eq-eqb n n refl) (get-push (v.births n) Lives (length (v.births n)) ∙ (rw (eq-eqb (length (v.births n)) (length (v.births n)) refl) refl))

-- nodes and links stand for what is told with it
newcomer : {p : Program} {net : Net} {n : ℕ} {v : Spots} {M : Links} {s : Local} {hand : List Busy} {ahead : List Item} (g : Guest) (slot : ℕ) (bubble : Option ℕ) → nat_lt n (nodes_of p) ≡ true → Newborn n v g slot → StandsAmid p net n v M s hand ahead
    → StandsAmid p net n (born_spots n g slot bubble v) M (with_newborn (new_name n v) g slot bubble s) hand ahead
newcomer {p} {net} {n} {v} {M} {s} {hand} g slot bubble below new o =
    let t : Tid = new_name n v in
    let r : Spot = new_spot n g in
    let old : Spot = v.threads t in
    let x : old.life ≡ Unborn = unborn n o.agrees in
    record {
      here = record {
        threads = map_added is_tid is-true is-refl tid_cmp (λ a b. refl) (thread_part n) v.threads t r s.threads (waits wait.No g) o.here.threads (ap (λ z. thread_in_life n z old.guest) x) (rw (eq-eqb n n refl) refl);
        busy = kept is_tid is-true is-refl busy_name (busy_part n) v.threads t r hand o.here.busy (sym (busy_none n t old Unborn x refl));
        forest = ap (enters t g.priority bubble) o.here.forest ∙ own_forest v.forests n (enters t g.priority bubble (v.forests n));
        seekers = seekers_kept n v.threads t r o.here.seekers refl (ap (is_seeking n) x) refl;
        births = rw (eq-eqb n n refl) (ap (λ bs. bs ++ Lives ∷ []) o.here.births);
        sems = o.here.sems;
        free = λ y. has-minus y s.slots.free (slot ∷ []) ∙ elim (eqb slot y) as (λ b. cond (cond b true false) false (has y s.slots.free) ≡ is_free n (cond b (Of_thread t) (v.slots y))) [ true ↦ refl | false ↦ o.here.free y ];
        halted = o.here.halted;
      };
      there = λ k e. here_kept k v t r (net.nodes k) [] [] (o.there k e)
          (record {
            thread = away_thread n k t r Ready refl e ∙ sym (ap (λ z. thread_in_life k z old.guest) x);
            busy = sym (busy_none k t old Unborn x refl);
            seeker = both_idle k t old r (ap (is_seeking k) x) refl;
          })
          (rw e refl)
          refl
          (rw e refl)
          (λ y. elim (eqb slot y) as (λ b. eqb slot y ≡ b → is_free k (cond b (Of_thread t) (v.slots y)) ≡ is_free k (v.slots y)) [
            | true ↦ λ h. sym e ∙ ap (is_free k) (sym new.holder ∙ ap v.slots (eqb-true slot y h))
            | false ↦ λ h. refl
          ] refl)
          refl;
      links = λ i j. links_kept t r v.threads M o.links (sym (ap (λ z. ways_of t z old.verdict old.guest) x)) i j;
      turns = o.turns;
      agrees = record {
        sems = o.agrees.sems;
        signals = λ u k id up e. elim (is_tid t u) as (λ b. (cond b r (v.threads u)).life ≡ On k (Signals id up) → eqb (node_in id) k ≡ false) [ true ↦ λ f. absurd (cc f) | false ↦ λ f. o.agrees.signals u k id up f ] e;
        queues = (queued_kept v.threads t r (queued o.agrees) (λ j k. ap (waiter_in_life j k t) x) (λ j k. refl)).queues;
        homes = λ u out. elim (is_tid t u) as (λ b. is_tid t u ≡ b → (cond b r (v.threads u)).life ≡ Unborn) [
          | true ↦ λ e. let h : n ≡ u.home = ap (λ (z : Tid). z.home) (is-true t u e) in absurd (cc (below, out, ap (λ k. nat_lt k (nodes_of p)) h))
          | false ↦ λ e. o.agrees.homes u out
        ] refl;
        named = λ u. elim (is_tid t u) as (λ b. is_tid t u ≡ b → phase_at (slice_get (at_node v.births n (v.births n ++ Lives ∷ []) u.home) u.seq) ≡ phase_of (cond b r (v.threads u)).life) [
          | true ↦ λ e. subst (λ (z : Tid). phase_at (slice_get (at_node v.births n (v.births n ++ Lives ∷ []) z.home) z.seq) ≡ During) (is-true t u e) (ap phase_at (own_birth n v))
          | false ↦ λ e. ap phase_at (other_births n v u e) ∙ o.agrees.named u
        ] refl;
        waits = λ u by at e. elim (is_tid t by) as (λ b. (cond b r (v.threads by)).life ≡ On at (Awaits u) → slice_get (at_node v.births n (v.births n ++ Lives ∷ []) u.home) u.seq ≡ Some (Awaited by at)) [
          | true ↦ λ f. absurd (cc f)
          | false ↦ λ f.
              let was : slice_get (v.births u.home) u.seq ≡ Some (Awaited by at) = o.agrees.waits u by at f in
              elim (is_tid t u) as (λ b. is_tid t u ≡ b → slice_get (at_node v.births n (v.births n ++ Lives ∷ []) u.home) u.seq ≡ Some (Awaited by at)) [
                | true ↦ λ g. let none : slice_get (v.births u.home) u.seq ≡ None = subst (λ (z : Tid). slice_get (v.births z.home) z.seq ≡ None) (is-true t u g) (get-past (v.births n)) in absurd (cc (was, none))
                | false ↦ λ g. other_births n v u g ∙ was
              ] refl
        ] e;
        seeks = λ u k e. elim (is_tid t u) as (λ b. (cond b r (v.threads u)).life ≡ On k Seeks → WantsSlots (call_of (cond b r (v.threads u)).guest.solo.state)) [ true ↦ λ f. absurd (cc f) | false ↦ λ f. o.agrees.seeks u k f ] e;
        stays = λ u k e. elim (is_tid t u) as (λ b. (cond b r (v.threads u)).life ≡ On k Stays → v.halts k ≡ true) [ true ↦ λ f. absurd (cc f) | false ↦ λ f. o.agrees.stays u k f ] e;
        awaits = λ u by at e. elim (is_tid t u) as (λ b. is_tid t u ≡ b → (update v.threads t r by).life ≡ On at (Awaits u)) [
          | true ↦ λ f. let same : Some Lives ≡ Some (Awaited by at) = sym (own_birth n v) ∙ subst (λ (z : Tid). slice_get (at_node v.births n (v.births n ++ Lives ∷ []) z.home) z.seq ≡ Some (Awaited by at)) (sym (is-true t u f)) e in absurd (cc same)
          | false ↦ λ f.
              let was : (v.threads by).life ≡ On at (Awaits u) = o.agrees.awaits u by at (sym (other_births n v u f) ∙ e) in
              elim (is_tid t by) as (λ b. is_tid t by ≡ b → (cond b r (v.threads by)).life ≡ On at (Awaits u)) [
                | true ↦ λ h. absurd (cc (x, was, ap (λ z. (v.threads z).life) (is-true t by h)))
                | false ↦ λ h. was
              ] refl
        ] refl;
        slots = λ u y. elim (is_tid t u) as (λ b. is_tid t u ≡ b → has y (slots_held (held (cond b r (v.threads u)).life (cond b r (v.threads u)).guest)) ≡ is_thread u (cond (eqb slot y) (Of_thread t) (v.slots y))) [
          | true ↦ λ e. ap (λ xs. has y xs) new.mine ∙ subst (λ z. cond (eqb slot y) true false ≡ is_thread z (cond (eqb slot y) (Of_thread t) (v.slots y))) (is-true t u e)
              (elim (eqb slot y) as (λ b. cond b true false ≡ is_thread t (cond b (Of_thread t) (v.slots y))) [
                | true ↦ sym (is-refl t)
                | false ↦ ap (λ z. has y (slots_held (held z old.guest))) (sym x) ∙ o.agrees.slots t y
              ])
          | false ↦ λ e. o.agrees.slots u y ∙ elim (eqb slot y) as (λ b. eqb slot y ≡ b → is_thread u (v.slots y) ≡ is_thread u (cond b (Of_thread t) (v.slots y))) [
            | true ↦ λ h. ap (is_thread u) (sym (ap v.slots (eqb-true slot y h)) ∙ new.holder) ∙ sym (is-flip t u e)
            | false ↦ λ h. refl
          ] refl
        ] refl;
        blocks = λ u. elim (is_tid t u) as (λ b. IsWellHeld (held (cond b r (v.threads u)).life (cond b r (v.threads u)).guest)) [ true ↦ new.well | false ↦ o.agrees.blocks u ];
      };
    }

-- ## The steps of a birth

-- an event in which a thread waits for nothing more; in the machine's it does when it is told
abbrev freed : Tid → Guest → EventSoFar → EventSoFar
freed t g d = with_threads (set_value (is_tid t) d.node.threads (waits wait.No g)) d

-- a node's lowest run is the lowest that no thread holds
pub lowest_is : (n count : ℕ) (v : Spots) (s : Local) (hand : List Busy) (served : List Tid) → Here n v s hand served → lowest_free n count v ≡ free_run s.slots.free count
lowest_is n count v s hand served h = lowest_run-same (λ x. is_free n (v.slots x)) (λ x. has x s.slots.free) count 4096 (λ x. sym (h.free x))

pub lowest_held : (n count : ℕ) (v : Spots) (first y : ℕ) → lowest_free n count v ≡ Some first → has y (run first count) ≡ true → v.slots y ≡ Of_node n
lowest_held n count v first y e h = node_holds n (v.slots y) (found (λ x. is_free n (v.slots x)) count 4096 first y e h)

one_run : (slot : ℕ) → has slot (run slot 1) ≡ true
one_run slot = has-run slot slot 1 ∙ grind (arith, ltb-true slot slot, lt-ltb slot (slot + 1))

least_held : (n : ℕ) (v : Spots) (slot : ℕ) → lowest_free n 1 v ≡ Some slot → v.slots slot ≡ Of_node n
least_held n v slot e = lowest_held n 1 v slot slot e (one_run slot)

-- it is told the same then, whatever it waited for
born_same : (me : ℕ) (why : Why) (e a k slot : ℕ) (d : EventSoFar) (t : Tid) (code : ℕ) (g : Guest) (waiting : Wait) → lookup (is_tid t) d.node.threads ≡ Some (waits waiting g) → is_tid t (next_name me d) ≡ false
    → answer t code (birth me why e a k slot (freed t g d)) ≡ answer t code (birth me why e a k slot d)
unfolding birth enter arrive thread_in birth_in slots_out tell judge say keep
born_same me why e a k slot d t code g waiting there apart =
    let u : Tid = next_name me d in
    let y : Thread = waits wait.No (newborn e a 0 (stack_end slot) slot k) in
    let es : List (Tid × Thread) = d.node.threads in
    let with_it : (zs : List (Tid × Thread)) (z : Thread) → lookup (is_tid t) zs ≡ Some z → lookup (is_tid t) (insert_entry tid_cmp zs u y) ≡ Some z =
    λ zs z h. lookup-insert is_tid is-true is-refl tid_cmp (λ b c. refl) zs u t y ∙ (rw apart h) in
    ap (λ o. tell_found t code None o (judge t code None (birth me why e a k slot (freed t g d)))) (with_it _ (waits wait.No g) (lookup-set_same is_tid is-true is-refl es t (waits wait.No g) (waits waiting g) there))
    ∙ ap (λ zs. arrive t (say (Told t) (with_threads zs (judge t code None (birth me why e a k slot d))))) (set-insert is_tid is-true is-refl tid_cmp (λ b c. refl) es t u y (waits wait.No g) (waits wait.No (told code None g)) apart)
    ∙ sym (ap (λ o. tell_found t code None o (judge t code None (birth me why e a k slot d))) (with_it es (waits waiting g) there))

module _ {outset : Outset} {ahead : List Item} {L : Links} (below : nat_lt outset.node (nodes_of outset.program) ≡ true) where
  open outset use {program as p, net, occasion as q, node as n, opening, world as w}

  -- the first thread
  pub main_born_ok : (d : EventSoFar) (slot : ℕ) (i : Item) → (m : Midst outset (i ∷ ahead) L d []) → i ≡ Says (Born (tid n (length (m.now.spots.births n))) why.Main p.image.main 0 0 (stack_end slot) slot) → n ≡ 0 → free_slot d.node.slots.free ≡ Some slot
      → Midst outset ahead L (birth n why.Main p.image.main 0 main_priority slot d) []
  unfolding birth enter thread_in birth_in slots_out say
  main_born_ok d slot i m says zero free =
      let v : Spots = m.now.spots in
      let t : Tid = new_name n v in
      let g : Guest = newborn p.image.main 0 0 (stack_end slot) slot main_priority in
      let least : lowest_free n 1 v ≡ Some slot = lowest_is n 1 v d.node [] _ m.here ∙ free in
      let holder : v.slots slot ≡ Of_node n = least_held n v slot least in
      let label : Label = Born t why.Main p.image.main 0 0 (stack_end slot) slot in
      subst (λ (k : ℕ). Midst outset ahead L (record { node = with_newborn (tid n k) g slot None d.node; labels = d.labels ++ Born (tid n k) why.Main p.image.main 0 0 (stack_end slot) slot ∷ []; sends = d.sends; prints = d.prints }) [])
      (ap length (sym m.here.births))
      (labelled L [] label (born_spots n g slot None v) _ m
      (ap (λ z. spots_with (update v.threads t (new_spot n z)) (at_node v.slots slot (Of_thread t)) (at_node v.births n (v.births n ++ Lives ∷ [])) v.sems (forests_after p n label v) v.halts v.remote) (no_bytes (stack_end slot) g))
      (record { solo = ((refl, refl, zero), refl, plain_start slot); holders = holder; life = (unborn n m.agrees, refl); replies = tt; grants = least })
      (sym (append-nil d.sends)) (sym (append-nil d.prints))
      (newcomer g slot None below (new_guest n v p.image.main 0 0 (stack_end slot) slot main_priority holder) (stands_as (after_first i (ap is_spoken says)) (amid m)))
      (record { shifted = tt; booted = refl; talk = refl; front = subst (λ j. Speaks n v (j ∷ ahead)) (sym says) (λ sends talk. refl); next = subst (λ j. IsBy n label v j) (sym says) refl; still = refl })).midst

  -- a thread that another one creates, which sought a slot, waits for nothing more, and is due the new name then
  pub born_ok : (d : EventSoFar) (by : Tid) (reason : Why) (e a k slot : ℕ) → (m : Midst outset (Serves by ∷ ahead) L d []) → IsCreation p n by m.now.spots reason e a k → free_slot d.node.slots.free ≡ Some slot
      → Midst outset ahead L (birth n reason e a k slot (freed by (m.now.spots.threads by).guest d)) (busy by (On n (Due (tid_value (next_name n d)))) ∷ [])
  unfolding birth enter thread_in birth_in slots_out say
  born_ok d by reason e a k slot m made free =
      let v : Spots = m.now.spots in
      let s : Spot = v.threads by in
      let x : s.life ≡ On n Seeks = seeks_first n by (serving ahead ++ d.node.talk.claims) v.threads m.here.seekers in
      let t : Tid = tid n (length (v.births n)) in
      let g : Guest = newborn e a 0 (stack_end slot) slot k in
      let b : Stage = Due (tid_value t) in
      let r : Spot = record s { life = On n b } in
      let label : Label = Born t reason e a 0 (stack_end slot) slot in
      let least : lowest_free n 1 v ≡ Some slot = lowest_is n 1 v d.node [] _ m.here ∙ free in
      let holder : v.slots slot ≡ Of_node n = least_held n v slot least in
      let v1 : Spots = spots_with (update v.threads by r) v.slots v.births v.sems v.forests v.halts v.remote in
      let hand : List Busy = busy by (On n b) ∷ [] in
      let d1 : EventSoFar = freed by s.guest d in
      let served : StandsAmid p net n v1 (under n L d.sends) d1.node hand ahead = near_amid d1.node.threads hand by Seeks b (amid m) x refl refl (λ f. absurd (cc f))
      (record {
        threads = map_set is_tid is-true is-refl (thread_part n) v.threads by r d.node.threads (waits wait.ForSlots s.guest) (waits wait.No s.guest) m.here.threads (thread_was n by s Seeks x) (thread_was n by r b refl);
        busy = fronted is_tid is-true is-refl busy_name (busy_part n) v.threads by r [] (busy by (On n b)) m.here.busy refl (busy_none n by s (On n Seeks) x refl) (busy_was n by r (On n b) refl (eq-eqb n n refl));
      })
      (unfronted is_tid is-true is-refl itself (seeker_part n) v.threads by r (serving ahead ++ d.node.talk.claims) by m.here.seekers refl (no_seeker n by r refl))
      refl refl in
      let fresh : (v.threads t).life ≡ Unborn = unborn n m.agrees in
      let slots : ℕ → Holder = at_node v.slots slot (Of_thread t) in
      let births : ℕ → List Birth = at_node v.births n (v.births n ++ Lives ∷ []) in
      let forests : ℕ → ℕ → ForestView = λ j. at_node v.forests n (enters t j (bubble_for reason) (v.forests n)) in
      let same : after_label p n label v ≡ born_spots n g slot (bubble_for reason) v1 =
      ap (λ f. spots_with (update f t (born_spot n (stack_bytes reason v.remote) e a 0 (stack_end slot) slot (priority_by v.threads reason))) slots births v.sems (forests (priority_by v.threads reason)) v.halts v.remote) (made.served t)
      ∙ ap (λ j. spots_with (update (update v.threads by r) t (born_spot n (stack_bytes reason v.remote) e a 0 (stack_end slot) slot j)) slots births v.sems (forests j) v.halts v.remote) made.priority_is
      ∙ ap (λ xs. spots_with (update (update v.threads by r) t (born_spot n xs e a 0 (stack_end slot) slot k)) slots births v.sems (forests k) v.halts v.remote) made.bytes
      ∙ ap (λ z. spots_with (update (update v.threads by r) t (new_spot n z)) slots births v.sems (forests k) v.halts v.remote) (no_bytes (stack_end slot) g) in
      let some : has_slots n by v ≡ true = ap (λ j. is_some (lowest_free n j v)) made.wants ∙ ap is_some least in
      subst (λ (j : ℕ). Midst outset ahead L (record { node = with_newborn (tid n j) g slot (bubble_for reason) d1.node; labels = d.labels ++ Born (tid n j) reason e a 0 (stack_end slot) slot ∷ []; sends = d.sends; prints = d.prints }) (busy by (On n (Due (tid_value (tid n j)))) ∷ []))
      (ap length (sym m.here.births))
      (labelled L hand label _ _ m same
      (record {
        solo = (made.born, ap length (sym made.bytes), plain_start slot ∙ ap (λ xs. stack_start slot (length xs)) (sym made.bytes));
        holders = holder;
        life = (fresh, refl);
        replies = tt;
        grants = least;
      })
      (sym (append-nil d.sends)) (sym (append-nil d.prints))
      (newcomer g slot (bubble_for reason) below (new_guest n v1 e a 0 (stack_end slot) slot k holder) served)
      (beside {due = Serves by ∷ ahead} {ahead = ahead} {hand = []} {more = hand} {new = On n b} (record { heir = ap as_list (made.doer t 0 (stack_end slot) slot); only = tt; front = λ sends talk. rw some refl; next = (made.doer t 0 (stack_end slot) slot, ap (is_seeking n) x ∙ eq-eqb n n refl); still = rw (eq-eqb n n refl) refl })
      (ap (λ (z : Spots). (z.threads by).life) same ∙ at_by t r v (new_spot n g) x fresh)
      tt refl refl)).midst
    where
      at_by : (t : Tid) (r : Spot) (v : Spots) (s : Spot) → (v.threads by).life ≡ On n Seeks → (v.threads t).life ≡ Unborn → (update (update v.threads by r) t s by).life ≡ r.life
      at_by t r v s x fresh = rw (is-other t by (λ g. absurd (cc (fresh, x, ap (λ z. (v.threads z).life) g)))) (rw (is-refl by) refl)

  -- a creator for which the node has a slot has its reply at once
  pub creates_ok : (d : EventSoFar) (t : Tid) (reason : Why) (e a k : ℕ) → (m : Midst outset (Serves t ∷ ahead) L d []) → IsCreation p n t m.now.spots reason e a k → has_slots n t m.now.spots ≡ true
      → Midst outset ahead L (creates n t reason e a k d) []
  creates_ok d t reason e a k m made some = by (free_slot d.node.slots.free) refl
    where
      v : Spots
      v = m.now.spots

      x : (v.threads t).life ≡ On n Seeks
      x = seeks_first n t (serving ahead ++ d.node.talk.claims) v.threads m.here.seekers

      by : (o : Option ℕ) → free_slot d.node.slots.free ≡ o → Midst outset ahead L (creates_in n t reason e a k o d) []
      by None f = let none : has_slots n t v ≡ false = ap (λ j. is_some (lowest_free n j v)) made.wants ∙ ap is_some (lowest_is n 1 v d.node [] _ m.here ∙ f) in absurd (cc (some, none))
      by (Some slot) f =
          let apart : is_tid t (next_name n d) ≡ false = subst (λ j. is_tid t (tid n j) ≡ false) (ap length (sym m.here.births)) (is-other t (new_name n v) (λ g. absurd (cc (unborn n m.agrees, x, g)))) in
          subst (λ z. Midst outset ahead L z []) (born_same n reason e a k slot d t (tid_value (next_name n d)) (v.threads t).guest wait.ForSlots (on_node t Seeks m x) apart)
          (answer_ok (birth n reason e a k slot (freed t (v.threads t).guest d)) t (tid_value (next_name n d)) [] (born_ok d t reason e a k slot m made f))
