-- The steps of a call of a semaphore of the event's own node, and the replies of it, on an event in its midst.
use Rattle.std.proofs.Common.{◌≡◌, ℕ, List, [], ◌∷◌, ◌++◌, Some, None, Bool, true, false, eqb, cond, refl, sym, ap, ◌∙◌, subst}
use Rattle.std.specs.Prelude.{All}
use Rattle.std.specs.Map.{lookup}
use Rattle.std.proofs.lemmas.Bool.{eq-eqb, eqb-true}
use Rattle.std.proofs.lemmas.List.{append-nil}
use Rattle.slot_space.specs.Replies.{reply_code}
use Rattle.slot_space.specs.declared.names.Tid.{Tid}
use Rattle.slot_space.specs.declared.names.Reply.{Reply}
use Rattle.slot_space.specs.declared.names.Reply.TheVariants as replies
use Rattle.marcel_sync.specs.declared.sem.SemRow.{SemRow}
use Rattle.marcel_sync.specs.Semaphores.{IsSemaphore, node_in, number_in, waiters_at}
use Rattle.run_trace.specs.declared.label.Label.TheVariants.{Told}
use Rattle.run_trace.specs.declared.node.Wait.{Wait}
use Rattle.run_trace.specs.declared.node.Wait.TheVariants as wait
use Rattle.run_trace.specs.Names.{is_tid}
use Rattle.run_trace.specs.Program.{Program}
use Rattle.run_trace.specs.Guests.{Guest, waits, told}
use Rattle.run_trace.specs.Local.{Local, EventSoFar, with_threads}
use Rattle.run_trace.specs.Cluster.{Net}
use Rattle.run_trace.specs.Steps.{say, keep, arrive, judge, tell, tell_found, asks, asks_here, asks_waiting, reply_by_link}
use Rattle.run_trace.specs.Machine.{answer, replies_to}
use Rattle.run_trace.specs.Keyed.{StandsFor}
use Rattle.run_trace.specs.Causes.{asked_causes}
use Rattle.run_trace.specs.Spots.{Stage, Running, Due, Queues, Answers, Going, Life, On, Spot, Spots, Remote, update, at_node, answered_stage, stage_of_call, going_by_call, sems_by_call, remote_after, after_label, forests_after}
use Rattle.run_trace.specs.Stands.{Here, Busy, busy, busy_name, busy_part, thread_part, waiter_in_life, ways_of, phase_of, held}
use Rattle.run_trace.specs.Items.{is_seeking, Thread as Its, Item, is_busy, as_list, one_going}
use Rattle.run_trace.proofs.Lemmas.{is-true, is-refl, is-other, is-flip}
use Rattle.trace_laws.proofs.Lists.KeyedLemmas.{refronted, reseconded, unfronted, map_kept, map_set, set-set, lookup-set_same}
use Rattle.trace_laws.proofs.Lists.Queues.{IsShortened}
use Rattle.trace_laws.proofs.Lists.Parts.{both_idle, thread_was, busy_was, busy_none, away_thread}
use Rattle.trace_laws.proofs.Underway.Midst.{Outset, doing, StandsAmid, amid, Links, Midst, under, spots_with, updated, labelled, Beside, beside, beside_both, links_kept, AreQueued, queued, queued_kept, keeps}
use Rattle.trace_laws.proofs.Underway.Steps.{own_stays, own_goes, own_next, in_hand}
use Rattle.trace_laws.proofs.Underway.CallSteps.{IsNoBubbles, asked_label, call_at, bytes_at, asked_spots, asked_as, asked_amid, nobody_leaves}
use Rattle.trace_laws.proofs.Underway.ReplySteps.{answer_ok}
use Rattle.trace_laws.proofs.Underway.Takes.{reply_ok}
use Rattle.trace_laws.proofs.Underway.Semaphores.{queued_same, queued_more, spot_amid, home_spot, woken_life, roused, woken_amid, others_same, waiting_first, IsWaiting}

-- ## What the node and the others have, where only semaphores change, or a thread in hand comes to be due a reply

-- node n has these semaphores then
pub sems_amid : {p : Program} {net : Net} {n : ℕ} {v : Spots} {M : Links} {s : Local} {hand : List Busy} {ahead : List Item} (new : List SemRow) → StandsAmid p net n v M s hand ahead → AreQueued (at_node v.sems n new) v.threads
    → StandsAmid p net n (spots_with v.threads v.slots v.births (at_node v.sems n new) v.forests v.halts v.remote) M (record s { sems = new }) hand ahead
sems_amid {p} {net} {n} {v} new o queues = record {
  here = record { threads = o.here.threads; forest = o.here.forest; busy = o.here.busy; seekers = o.here.seekers; births = o.here.births; sems = rw (eq-eqb n n refl) refl; free = o.here.free; halted = o.here.halted };
  there = λ k e. (let h : Here k v (net.nodes k) [] [] = o.there k e in record { threads = h.threads; forest = h.forest; busy = h.busy; seekers = h.seekers; births = h.births; sems = h.sems ∙ sym (others_same v.sems n new k e); free = h.free; halted = h.halted });
  links = o.links;
  turns = o.turns;
  agrees = record {
    seeks = o.agrees.seeks;
    homes = o.agrees.homes;
    named = o.agrees.named;
    awaits = o.agrees.awaits;
    waits = o.agrees.waits;
    sems = queues.sems;
    queues = queues.queues;
    signals = o.agrees.signals;
    stays = o.agrees.stays;
    slots = o.agrees.slots;
    blocks = o.agrees.blocks;
  };
}

abbrev pub due_spot : ℕ → ℕ → Spot → Spot
due_spot n code s = record s { life = On n (Due code) }

-- a thread that has come to a call is due this reply
pub due_amid : {p : Program} {net : Net} {n : ℕ} {v : Spots} {M : Links} {s : Local} {hand : List Busy} {ahead : List Item} {remote : Remote} (code : ℕ) (more : List Busy) (t : Tid) → StandsAmid p net n v M s hand ahead → (v.threads t).life ≡ On n Running
    → StandsFor is_tid busy_name (busy_part n) more (update v.threads t (due_spot n code (v.threads t)))
    → StandsAmid p net n (spots_with (update v.threads t (due_spot n code (v.threads t))) v.slots v.births v.sems v.forests v.halts remote) M s more ahead
due_amid {n = n} {v} {M} {s} code more t o x hands =
    let old : Spot = v.threads t in
    let r : Spot = due_spot n code old in
    spot_amid s more t r o
    (record {
      threads = map_kept is_tid is-true is-refl (thread_part n) v.threads t r s.threads o.here.threads (thread_was n t r (Due code) refl ∙ sym (thread_was n t old Running x));
      busy = hands;
    })
    (record { births = refl; forest = refl; sems = o.here.sems; free = refl; halted = refl; talk = refl })
    (home_spot r Running (Due code) x refl refl refl (keeps _ _ (sym (ap (λ l. held l old.guest) x)))
    (queued_kept v.threads t r (queued o.agrees) (λ h j. ap (λ l. waiter_in_life h j t l) x) (λ h j. refl)) (λ k e. refl))
    (links_kept t r v.threads M o.links (sym (ap (λ l. ways_of t l old.verdict old.guest) x))) (λ i j. refl)

-- ## Replies to threads of any node

-- a thread that is told is told the same, whatever it waited for
told_same : (d : EventSoFar) (u : Tid) (code : ℕ) (g : Guest) (waiting : Wait) → lookup (is_tid u) d.node.threads ≡ Some (waits waiting g) → answer u code (record d { node = roused true u g d.node }) ≡ answer u code d
unfolding tell judge say keep arrive
told_same d u code g waiting there =
    ap (λ o. tell_found u code None o (judge u code None (record d { node = roused true u g d.node }))) (lookup-set_same is_tid is-true is-refl d.node.threads u (waits wait.No g) (waits waiting g) there)
    ∙ ap (λ es. arrive u (say (Told u) (with_threads es (judge u code None d)))) (set-set is_tid is-true is-refl d.node.threads u (waits wait.No g) (waits wait.No (told code None g)))
    ∙ sym (ap (λ o. tell_found u code None o (judge u code None d)) there)

module _ {outset : Outset} {ahead : List Item} {L : Links} where
  open outset use {program as p, net, occasion as q, node as n, opening, world as w}

  -- one that is here has it at once, the node of another is sent it
  pub replies_ok : (d : EventSoFar) (t : Tid) (at : ℕ) (reply : Reply) (hs : List Busy) → Midst outset ahead L d (busy t (On at (answered_stage n at reply)) ∷ hs) → Midst outset ahead L (replies_to n at t reply d) hs
  replies_ok d t at reply hs m = by (eqb n at) refl m
    where
      by : (b : Bool) → eqb n at ≡ b → Midst outset ahead L d (busy t (On at (cond b (Due (reply_code reply)) (Answers n reply None))) ∷ hs) → Midst outset ahead L (cond b (answer t (reply_code reply) d) (reply_by_link t at reply None d)) hs
      by true e k = answer_ok d t (reply_code reply) hs (subst (λ i. Midst outset ahead L d (busy t (On i (Due (reply_code reply))) ∷ hs)) (sym (eqb-true n at e)) k)
      by false e k = reply_ok d t at reply None hs k

  -- and so has one that is let go, which waits in the node's list as yet
  pub woken_ok : (d : EventSoFar) (u : Tid) (at : ℕ) (g : Guest) (hs : List Busy) → (eqb n at ≡ true → lookup (is_tid u) d.node.threads ≡ Some (waits wait.ForSemaphore g))
      → Midst outset ahead L (record d { node = roused (eqb n at) u g d.node }) (busy u (woken_life n at) ∷ hs) → Midst outset ahead L (replies_to n at u (replies.Value 0) d) hs
  woken_ok d u at g hs there m = by (eqb n at) refl (replies_ok _ u at (replies.Value 0) hs m)
    where
      by : (b : Bool) → eqb n at ≡ b → Midst outset ahead L (cond b (answer u 0 (record d { node = roused b u g d.node })) (reply_by_link u at (replies.Value 0) None (record d { node = roused b u g d.node }))) hs
          → Midst outset ahead L (cond b (answer u 0 d) (reply_by_link u at (replies.Value 0) None d)) hs
      by true e k = subst (λ z. Midst outset ahead L z hs) (told_same d u 0 g wait.ForSemaphore (there e)) k
      by false e k = k

pub woken_busy : (n at : ℕ) → is_busy n (woken_life n at) ≡ true
woken_busy n at = by (eqb n at) refl
  where
    by : (b : Bool) → eqb n at ≡ b → is_busy n (On at (cond b (Due 0) (Answers n (replies.Value 0) None))) ≡ true
    by true e = eq-eqb at n (sym (eqb-true n at e))
    by false e = eq-eqb n n refl

-- ## Calls of this node's threads

-- a call that names no bytes: whom else it sets going, in which stage its thread goes on, and the node's semaphores then
pub record IsAsked (p : Program) (n : ℕ) (t : Tid) (v : Spots) (other : Going) (b : Stage) (new : List SemRow) : Type 0 where
  pub going : going_by_call p n t v ≡ other
  pub stage : stage_of_call p n t v ≡ b
  pub sems : sems_by_call p n t v ≡ new
  pub bytes : [] ≡ bytes_at p v t
  pub bubbles : IsNoBubbles p n t v

-- u, which is set going, after a change of t, which isn't u
pub at_first_of : (w : Tid → Spot) (u t : Tid) (r s : Spot) → is_tid u t ≡ false → update (update w u r) t s u ≡ r
at_first_of w u t r s apart = rw (is-flip u t apart, is-refl u) refl

-- what the node has beside its threads is as before
pub roused_talk : (b : Bool) (u : Tid) (g : Guest) (s : Local) → (roused b u g s).talk ≡ s.talk
roused_talk true u g s = refl
roused_talk false u g s = refl

pub roused_booted : (b : Bool) (u : Tid) (g : Guest) (s : Local) → (roused b u g s).booted ≡ s.booted
roused_booted true u g s = refl
roused_booted false u g s = refl

module _ {outset : Outset} {ahead : List Item} {L : Links} where
  open outset use {program as p, net, occasion as q, node as n, opening, world as w}

  pub asks_then : (d : EventSoFar) (t : Tid) {other : Going} {b : Stage} {new : List SemRow} (now : Local) (more : List Busy) → (m : Midst outset ahead L d (busy t (On n Running) ∷ []))
      → IsAsked p n t m.now.spots other b new → asked_causes t b ≡ []
      → StandsAmid p net n (asked_spots n m.now.spots t [] other b (at_node m.now.spots.sems n new) m.now.spots.forests) (under n L d.sends) now more ahead
      → Beside p n m.now.spots (asked_label m.now.spots t []) d.node now (doing (busy t (On n Running) ∷ []) ahead) (doing more ahead)
      → Midst outset ahead L (record { node = now; labels = d.labels ++ asked_label m.now.spots t [] ∷ []; sends = d.sends; prints = d.prints }) more
  asks_then d t {other} {b} {new} now more m asked quiet stands aside =
      (labelled L more (asked_label m.now.spots t []) (asked_spots n m.now.spots t [] other b (at_node m.now.spots.sems n new) (forests_after p n (asked_label m.now.spots t []) m.now.spots)) now m
      (asked_as p n m.now.spots t [] other b (at_node m.now.spots.sems n new) asked.going asked.stage (ap (at_node m.now.spots.sems n) asked.sems))
      (record { solo = (refl, refl, asked.bytes); holders = tt; life = in_hand m; replies = tt; grants = tt })
      (sym (append-nil d.sends) ∙ ap (λ z. d.sends ++ z) (sym (ap (asked_causes t) asked.stage ∙ quiet))) (sym (append-nil d.prints))
      (asked_amid t [] asked.bubbles refl stands) aside).midst

  -- t and the thread that it sets going, after the label
  asked_of : (d : EventSoFar) (t : Tid) {other : Going} {b : Stage} {new : List SemRow} → (m : Midst outset ahead L d (busy t (On n Running) ∷ [])) → IsAsked p n t m.now.spots other b new
      → (u : Tid) (life : Life) → ((asked_spots n m.now.spots t [] other b (at_node m.now.spots.sems n new) m.now.spots.forests).threads u).life ≡ life
      → ((after_label p n (asked_label m.now.spots t []) m.now.spots).threads u).life ≡ life
  asked_of d t {other} {b} {new} m asked u life is =
      ap (λ (z : Spots). (z.threads u).life) (asked_as p n m.now.spots t [] other b (at_node m.now.spots.sems n new) asked.going asked.stage (ap (at_node m.now.spots.sems n) asked.sems)) ∙ is

  -- the node's semaphores are others then, with the same queues, and the thread is due a reply
  pub asks_here_ok : (d : EventSoFar) (t : Tid) (code : ℕ) (new : List SemRow) → (m : Midst outset ahead L d (busy t (On n Running) ∷ []))
      → IsAsked p n t m.now.spots None (Due code) new → All IsSemaphore new → ((j : ℕ) → waiters_at j new ≡ waiters_at j (m.now.spots.sems n))
      → Midst outset ahead L (asks_here t (call_at m.now.spots t) new d) (busy t (On n (Due code)) ∷ [])
  unfolding asks_here asks say
  asks_here_ok d t code new m asked all same =
      let v : Spots = m.now.spots in
      let x : (v.threads t).life ≡ On n Running = in_hand m in
      let r : Spot = due_spot n code (v.threads t) in
      asks_then d t (record d.node { sems = new }) (busy t (On n (Due code)) ∷ []) m asked refl
      (due_amid code (busy t (On n (Due code)) ∷ []) t (sems_amid new (amid m) (queued_same n new (queued m.agrees) all same)) x
      (refronted is_tid is-true is-refl busy_name (busy_part n) v.threads t r [] (busy t (On n Running)) (busy t (On n (Due code))) m.here.busy refl refl (busy_was n t r (On n (Due code)) refl (eq-eqb n n refl))))
      (beside {due = ahead} {ahead = ahead} {hand = busy t (On n Running) ∷ []} {more = busy t (On n (Due code)) ∷ []} (own_stays m refl (ap (λ z. as_list (one_going z) ++ Its t ∷ []) asked.going) asked.bubbles.gathers (eq-eqb n n refl))
      (asked_of d t m asked t (On n (Due code)) (ap (λ (z : Spot). z.life) (updated v.threads t r))) (nobody_leaves m) refl refl)

  -- the thread waits for a semaphore of the node, as the last
  pub asks_waiting_ok : (d : EventSoFar) (t : Tid) (id : ℕ) (new : List SemRow) → (m : Midst outset ahead L d (busy t (On n Running) ∷ []))
      → IsAsked p n t m.now.spots None (Queues id) new → node_in id ≡ n → All IsSemaphore new
      → ((j : ℕ) → waiters_at j new ≡ cond (eqb (number_in id) j) (waiters_at (number_in id) (m.now.spots.sems n) ++ (t, n) ∷ []) (waiters_at j (m.now.spots.sems n)))
      → Midst outset ahead L (asks_waiting t (call_at m.now.spots t) new (waits wait.No (m.now.spots.threads t).guest) d) []
  unfolding asks_waiting asks say keep
  asks_waiting_ok d t id new m asked here all more =
      let v : Spots = m.now.spots in
      let s : Spot = v.threads t in
      let x : s.life ≡ On n Running = in_hand m in
      let r : Spot = record s { life = On n (Queues id) } in
      asks_then d t _ [] m asked refl
      (spot_amid _ [] t r (amid m)
      (record {
        threads = map_set is_tid is-true is-refl (thread_part n) v.threads t r d.node.threads (waits wait.No s.guest) (waits wait.ForSemaphore s.guest) m.here.threads (thread_was n t s Running x) (thread_was n t r (Queues id) refl ∙ (rw (eq-eqb (node_in id) n here) refl));
        busy = unfronted is_tid is-true is-refl busy_name (busy_part n) v.threads t r [] (busy t (On n Running)) m.here.busy refl (busy_none n t r (On n (Queues id)) refl refl);
      })
      (record { births = refl; forest = refl; sems = sym (own_sems v.sems); free = refl; halted = refl; talk = refl })
      (record {
        frame = λ k e. record {
          thread = away_thread n k t r (Queues id) refl e ∙ sym (away_thread n k t s Running x e);
          busy = busy_none k t r (On n (Queues id)) refl refl ∙ sym (busy_none k t s (On n Running) x e);
          seeker = both_idle k t s r (ap (is_seeking k) x) refl;
        };
        phase = sym (ap phase_of x);
        born = λ e. absurd (cc (e, x));
        waits = λ u k e. absurd (cc (e, x));
        holds = keeps _ _ (sym (ap (λ l. held l s.guest) x));
        fits = record { seeks = λ k e. absurd (cc e); waits = λ u k e. absurd (cc e); signals = λ k i up e. absurd (cc e); stays = λ k e. absurd (cc e) };
        seeks = λ k. ap (is_seeking k) x;
        rests = λ k. refl;
        queued = queued_more v.threads t r n n id new (queued m.agrees) (λ h j. ap (λ l. waiter_in_life h j t l) x) refl here all more;
        others = others_same v.sems n new;
      })
      (links_kept t r v.threads (under n L d.sends) m.links (sym (ap (λ l. ways_of t l s.verdict s.guest) x))) (λ i j. refl))
      (beside {due = ahead} {ahead = ahead} {hand = busy t (On n Running) ∷ []} {more = []} (own_goes m refl (ap (λ z. as_list (one_going z) ++ Its t ∷ []) asked.going) asked.bubbles.gathers refl refl)
      (asked_of d t m asked t (On n (Queues id)) (ap (λ (z : Spot). z.life) (updated v.threads t r))) (nobody_leaves m) refl refl)
    where
      own_sems : (z : ℕ → List SemRow) → at_node z n new n ≡ new
      own_sems z = rw (eq-eqb n n refl) refl

  -- a thread that is set going is in hand before the one in hand, which is due a reply; nodes and links stand for the first change as yet
  pub asks_both : (d : EventSoFar) (t u : Tid) (code : ℕ) (life : Life) {new : List SemRow} (now : Local) → (m : Midst outset ahead L d (busy t (On n Running) ∷ []))
      → IsAsked p n t m.now.spots (Some (u, life)) (Due code) new → is_tid u t ≡ false → is_busy n life ≡ true
      → StandsAmid p net n (spots_with (update m.now.spots.threads u (record (m.now.spots.threads u) { life = life })) m.now.spots.slots m.now.spots.births (at_node m.now.spots.sems n new) m.now.spots.forests m.now.spots.halts m.now.spots.remote) (under n L d.sends) now (busy u life ∷ busy t (On n Running) ∷ []) ahead
      → now.booted ≡ d.node.booted → now.talk ≡ d.node.talk
      → Midst outset ahead L (record { node = now; labels = d.labels ++ asked_label m.now.spots t [] ∷ []; sends = d.sends; prints = d.prints }) (busy u life ∷ busy t (On n (Due code)) ∷ [])
  asks_both d t u code life {new} now m asked apart busied stands booted talk =
      let v : Spots = m.now.spots in
      let x : (v.threads t).life ≡ On n Running = in_hand m in
      let ru : Spot = record (v.threads u) { life = life } in
      let f : Tid → Spot = update v.threads u ru in
      let here : f t ≡ v.threads t = rw apart refl in
      let r : Spot = due_spot n code (f t) in
      let second = due_amid code (busy u life ∷ busy t (On n (Due code)) ∷ []) t stands (ap (λ (z : Spot). z.life) here ∙ x)
      (reseconded is_tid is-true is-refl busy_name (busy_part n) f t r [] (busy u life) (busy t (On n Running)) (busy t (On n (Due code))) stands.here.busy refl refl (busy_was n t r (On n (Due code)) refl (eq-eqb n n refl))) in
      asks_then d t now (busy u life ∷ busy t (On n (Due code)) ∷ []) m asked refl
      (subst (λ (s : Spot). StandsAmid p net n (spots_with (update f t (due_spot n code s)) v.slots v.births (at_node v.sems n new) v.forests v.halts (remote_after (asked_label v t []) v.remote)) (under n L d.sends) now (busy u life ∷ busy t (On n (Due code)) ∷ []) ahead) here second)
      (beside_both {due = ahead} {ahead = ahead} {hand = busy t (On n Running) ∷ []} {more = busy u life ∷ busy t (On n (Due code)) ∷ []} {first = life} {second = On n (Due code)} (record {
        heirs = ap (λ z. as_list (one_going z) ++ Its t ∷ []) asked.going;
        only = asked.bubbles.gathers;
        front = λ sends talk. refl;
        next = own_next (asked_label v t []) m refl;
        still = rw (busied, eq-eqb n n refl) refl;
      })
      (asked_of d t m asked u life (ap (λ (z : Spot). z.life) (at_first_of v.threads u t ru _ apart)))
      (asked_of d t m asked t (On n (Due code)) (ap (λ (z : Spot). z.life) (updated f t _)))
      (nobody_leaves m) booted talk)

  -- the thread that waited first is let go, and has its reply before the one that raised the semaphore
  pub asks_woken_ok : (d : EventSoFar) (t u : Tid) (at k : ℕ) (new : List SemRow) → (m : Midst outset ahead L d (busy t (On n Running) ∷ []))
      → IsAsked p n t m.now.spots (Some (u, woken_life n at)) (Due 0) new → IsShortened k (u, at) (m.now.spots.sems n) new → All IsSemaphore new
      → Midst outset ahead L (replies_to n at u (replies.Value 0) (asks_here t (call_at m.now.spots t) new d)) (busy t (On n (Due 0)) ∷ [])
  unfolding asks_here asks say
  asks_woken_ok d t u at k new m asked less all =
      let v : Spots = m.now.spots in
      let g : Guest = (v.threads u).guest in
      let was : IsWaiting n k at (v.threads u).life = waiting_first n k u at (waiters_at k new) (queued m.agrees) less.was in
      let x : (v.threads t).life ≡ On n Running = in_hand m in
      let apart : is_tid u t ≡ false = is-other u t (λ e. (let y = was.life in absurd (cc (y, x, ap (λ z. (v.threads z).life) e)))) in
      woken_ok (asks_here t (call_at v t) new d) u at g (busy t (On n (Due 0)) ∷ [])
      (λ e. m.here.threads.shows u ∙ thread_was n u (v.threads u) (Queues was.id) (was.life ∙ ap (λ i. On i (Queues was.id)) (sym (eqb-true n at e))) ∙ (rw (eq-eqb (node_in was.id) n was.node) refl))
      (asks_both d t u 0 (woken_life n at) (roused (eqb n at) u g (record d.node { sems = new })) m asked apart (woken_busy n at) (woken_amid k at u new (amid m) less all) (roused_booted (eqb n at) u g (record d.node { sems = new })) (roused_talk (eqb n at) u g (record d.node { sems = new })))
