-- A packet by which a thread of another node lowers or raises a semaphore, on an event in its midst.
use Rattle.run_trace.specs.declared.call.Call.{Call}
use Rattle.run_trace.specs.Calls.{call_of}
use Rattle.std.proofs.Common.{◌≡◌, ℕ, List, [], ◌∷◌, ◌++◌, Some, None, Bool, true, false, eqb, cond, refl, sym, ap, ◌∙◌, subst}
use Rattle.std.specs.Prelude.{All}
use Rattle.std.proofs.lemmas.Bool.{eq-eqb, eqb-true}
use Rattle.slot_space.specs.declared.names.Tid.{Tid}
use Rattle.slot_space.specs.declared.names.Reply.{Reply}
use Rattle.slot_space.specs.declared.names.Reply.TheVariants as replies
use Rattle.marcel_sync.specs.declared.sem.SemRow.{SemRow}
use Rattle.marcel_sync.specs.declared.sem.Pgot.{Pgot}
use Rattle.marcel_sync.specs.declared.sem.Pgot.TheVariants as lowering
use Rattle.marcel_sync.specs.declared.sem.Vgot.{Vgot}
use Rattle.marcel_sync.specs.declared.sem.Vgot.TheVariants as raising
use Rattle.marcel_sync.specs.Semaphores.{IsSemaphore, node_in, number_in, waiters_at, lowered_answer, lowered, raised_answer, raised}
use Rattle.run_trace.specs.declared.label.Label.TheVariants.{Heard}
use Rattle.run_trace.specs.declared.node.Wait.TheVariants as wait
use Rattle.run_trace.specs.Names.{is_tid}
use Rattle.run_trace.specs.Program.{Program}
use Rattle.run_trace.specs.Guests.{Guest, waits}
use Rattle.run_trace.specs.Local.{Local, nothing}
use Rattle.run_trace.specs.Cluster.{Net}
use Rattle.run_trace.specs.Steps.{say, hears_signal}
use Rattle.run_trace.specs.Machine.{replies_to, answers_p, answers_v, hears_call}
use Rattle.run_trace.specs.Keyed.{StandsFor, MapStandsFor}
use Rattle.run_trace.specs.Rules.{MayHear}
use Rattle.run_trace.specs.Spots.{Stage, Queues, Signals, Answers, Going, Life, On, Spot, Spots, Remote, update, set_going, at_node, answered_stage, lowering_stage, raising_stage, woken, signal_stage, signal_wakes, signalled, heard_at, births_heard, sems_heard, wakes_heard, after_label}
use Rattle.run_trace.specs.Stands.{AreInTurn, words_about, Busy, busy, busy_name, busy_part, thread_part, thread_in_life, Signalling, way, ways_of, phase_of, held, waiter_in_life}
use Rattle.run_trace.specs.Items.{Turns, is_seeking, Thread as Its, Item, Says, is_busy, as_list, one_going}
use Rattle.run_trace.proofs.Lemmas.{is-true, is-refl, is-other}
use Rattle.trace_laws.proofs.Lists.KeyedLemmas.{kept, added, fronted, map_kept}
use Rattle.trace_laws.proofs.Lists.Queues.{IsShortened, lowered_sems, raised_sems, lowered_same, lowered_more, raised_same, raised_less}
use Rattle.trace_laws.proofs.Lists.Parts.{both_idle, thread_was, busy_was, busy_none, away_thread}
use Rattle.trace_laws.proofs.Underway.Midst.{talks_amid, to_do_amid, turn_words, in_turn_kept, none_under, under, take_turns, Outset, doing, StandsAmid, Links, Midst, links_less, take_link, nothing_sent, spots_with, updated, labelled, Beside, beside, beside_both, AreQueued, queued, queued_kept, fits, Fits, plain, keeps}
use Rattle.trace_laws.proofs.Underway.Takes.{still_in_turn, links_whole}
use Rattle.trace_laws.proofs.Underway.Semaphores.{queued_same, queued_more, spot_amid, woken_life, woken_spot, roused, woken_amid, others_same, waiting_first, IsWaiting}
use Rattle.trace_laws.proofs.Underway.SemaphoreSteps.{roused_talk, replies_ok, woken_ok, woken_busy, at_first_of, roused_booted}

-- by's packet has come to node n, which is another
pub record IsCalling (n from id : ℕ) (up : Bool) (by : Tid) (v : Spots) : Type 0 where
  pub was : (v.threads by).life ≡ On from (Signals id up)
  pub node : node_in id ≡ n
  pub away : eqb n from ≡ false

pub flipped : (a b : ℕ) → eqb a b ≡ false → eqb b a ≡ false
flipped a b e = elim (eqb b a) as (λ v. eqb b a ≡ v → v ≡ false) [ true ↦ λ f. (let one : b ≡ a = eqb-true b a f in absurd (cc (e, eq-eqb a b (sym one)))) | false ↦ λ f. refl ] refl

-- the stage in which it goes on: to be answered, or to wait
record IsHeardStage (n from : ℕ) (by : Tid) (b : Stage) (s : Spot) : Type 0 where
  thread : (k : ℕ) → eqb n k ≡ false → thread_in_life k (On from b) s.guest ≡ cond (eqb from k) (Some (waits wait.ForAnswer s.guest)) None
  idle : (k : ℕ) → eqb n k ≡ false → is_busy k (On from b) ≡ false
  ways : ways_of by (On from b) s.verdict s.guest ≡ []
  holds : held (On from b) s.guest ≡ held (On from (Answers n replies.NoSuch None)) s.guest
  fits : (h : ℕ → Bool) (c : Call) → Fits h c (On from b)
  rests : (k : ℕ) → is_seeking k (On from b) ≡ false

answered_heard : (n from : ℕ) (by : Tid) (reply : Reply) (s : Spot) → IsHeardStage n from by (Answers n reply None) s
answered_heard n from by reply s = record { thread = λ k e. refl; idle = λ k e. e; ways = refl; holds = refl; fits = λ h c. fits (plain _ refl); rests = λ k. refl }

waits_heard : (n from id : ℕ) (by : Tid) (s : Spot) → node_in id ≡ n → IsHeardStage n from by (Queues id) s
waits_heard n from id by s here = record {
  thread = λ k e. ap (λ b. cond (eqb from k) (Some (waits (cond b wait.ForSemaphore wait.ForAnswer) s.guest)) None) (ap (λ i. eqb i k) here ∙ e);
  idle = λ k e. refl;
  ways = refl;
  holds = refl;
  fits = λ h c. record { seeks = λ k e. absurd (cc e); waits = λ u k e. absurd (cc e); signals = λ k i up e. absurd (cc e); stays = λ k e. absurd (cc e) };
  rests = λ k. refl;
}

-- its packet is off the link, and it goes on in that stage
heard_amid : {p : Program} {net : Net} {n : ℕ} {v : Spots} {s : Local} {hand : List Busy} {ahead : List Item} {remote : Remote} {from id : ℕ} {up : Bool} {by : Tid} (L : Links) (b : Stage) (z : ℕ → List SemRow) (now : Local) (more : List Busy)
    → StandsAmid p net n v L s hand ahead → IsCalling n from id up by v → IsHeardStage n from by b (v.threads by) → now ≡ record s { sems = z n }
    → ((k : ℕ) → eqb n k ≡ false → z k ≡ v.sems k) → AreQueued z (update v.threads by (record (v.threads by) { life = On from b }))
    → StandsFor is_tid busy_name (busy_part n) more (update v.threads by (record (v.threads by) { life = On from b }))
    → StandsAmid p net n (spots_with (update v.threads by (record (v.threads by) { life = On from b })) v.slots v.births z v.forests v.halts remote) (links_less n L from by) now more ahead
heard_amid {n = n} {v} {s} {from = from} {id} {up} {by} L b z now more o calling then is others queues hands =
    let old : Spot = v.threads by in
    let r : Spot = record old { life = On from b } in
    let x : old.life ≡ On from (Signals id up) = calling.was in
    let off : eqb from n ≡ false = flipped n from calling.away in
    spot_amid now more by r o
    (record {
      threads = subst (λ (l : Local). MapStandsFor is_tid (thread_part n) l.threads (update v.threads by r)) (sym is)
          (map_kept is_tid is-true is-refl (thread_part n) v.threads by r s.threads o.here.threads (away_thread from n by r b refl off ∙ sym (away_thread from n by old (Signals id up) x off)));
      busy = hands;
    })
    (record { births = ap (λ (l : Local). l.births) is; forest = ap (λ (l : Local). l.forest) is; sems = ap (λ (l : Local). l.sems) is; free = ap (λ (l : Local). l.slots.free) is; halted = ap (λ (l : Local). l.halted) is; talk = ap (λ (l : Local). l.talk) is })
    (record {
      frame = λ k e. record {
        thread = then.thread k e ∙ sym (ap (λ l. thread_in_life k l old.guest) x);
        busy = busy_none k by r (On from b) refl (then.idle k e) ∙ sym (busy_none k by old (On from (Signals id up)) x refl);
        seeker = both_idle k by old r (ap (is_seeking k) x) (then.rests k);
      };
      phase = sym (ap phase_of x);
      born = λ e. absurd (cc (e, x));
      waits = λ u k e. absurd (cc (e, x));
      holds = keeps _ _ (then.holds ∙ sym (ap (λ l. held l old.guest) x));
      fits = then.fits v.halts (call_of old.guest.solo.state);
      seeks = λ k. ap (is_seeking k) x;
      rests = then.rests;
      queued = queues;
      others = others;
    })
    (take_link from n (Signalling by id up) by r L v.threads o.links
    (ap (λ l. ways_of by l old.verdict old.guest) x ∙ ap (λ i. way from i (Signalling by id up)) calling.node ∙ ap (λ xs. way from n (Signalling by id up) ++ xs) (sym then.ways))) (take_turns from n by L)

-- what is told with it
abbrev heard_spots : Spots → Tid → (from : ℕ) → Going → Stage → (ℕ → List SemRow) → Spots
heard_spots v by from other b z = spots_with (update (set_going other v.threads) by (record (v.threads by) { life = On from b })) v.slots v.births z v.forests v.halts v.remote

heard_as : (p : Program) {n from id : ℕ} {up : Bool} {by : Tid} {v : Spots} → IsCalling n from id up by v
    → after_label p n (Heard by) v ≡ heard_spots v by from (signal_wakes n id up (v.sems n)) (signal_stage n from id up (v.sems n)) (at_node v.sems n (signalled from id up by (v.sems n)))
heard_as p {n} {from} {id} {up} {by} {v} calling =
    ap (λ l. spots_with (update (set_going (wakes_heard v.sems l) v.threads) by (record (v.threads by) { life = heard_at v.births v.sems l })) v.slots (births_heard by l v.births) (sems_heard by l v.sems) v.forests v.halts v.remote) calling.was
    ∙ ap (λ i. heard_spots v by from (signal_wakes i id up (v.sems i)) (signal_stage i from id up (v.sems i)) (at_node v.sems i (signalled from id up by (v.sems i)))) calling.node

-- whom else it sets going, in which stage it goes on, and the node's semaphores then
record IsHeardSem (n from id : ℕ) (up : Bool) (by : Tid) (v : Spots) (other : Going) (b : Stage) (new : List SemRow) : Type 0 where
  calling : IsCalling n from id up by v
  going : signal_wakes n id up (v.sems n) ≡ other
  stage : signal_stage n from id up (v.sems n) ≡ b
  sems : signalled from id up by (v.sems n) ≡ new

heard_same : (p : Program) {n from id : ℕ} {up : Bool} {by : Tid} {v : Spots} {other : Going} {b : Stage} {new : List SemRow} → IsHeardSem n from id up by v other b new → after_label p n (Heard by) v ≡ heard_spots v by from other b (at_node v.sems n new)
heard_same p {n} {from} {id} {up} {by} {v} {other} {b} {new} k = heard_as p k.calling
    ∙ ap (λ z. heard_spots v by from z (signal_stage n from id up (v.sems n)) (at_node v.sems n (signalled from id up by (v.sems n)))) k.going
    ∙ ap (λ z. heard_spots v by from other z (at_node v.sems n (signalled from id up by (v.sems n)))) k.stage
    ∙ ap (λ z. heard_spots v by from other b (at_node v.sems n z)) k.sems

heard_heirs : {n from id : ℕ} {up : Bool} {by : Tid} {v : Spots} {other : Going} {b : Stage} {new : List SemRow} → IsHeardSem n from id up by v other b new
    → as_list (one_going (wakes_heard v.sems (v.threads by).life)) ++ Its by ∷ [] ≡ as_list (one_going other) ++ Its by ∷ []
heard_heirs {n} {from} {id} {up} {by} {v} k =
    ap (λ l. as_list (one_going (wakes_heard v.sems l)) ++ Its by ∷ []) k.calling.was
    ∙ ap (λ i. as_list (one_going (signal_wakes i id up (v.sems i))) ++ Its by ∷ []) k.calling.node
    ∙ ap (λ z. as_list (one_going z) ++ Its by ∷ []) k.going

-- the midst before it, with the links as they stand
whole : {outset : Outset} {due : List Item} {L : Links} (s : Local) → (m : Midst outset due L (nothing s) []) → StandsAmid outset.program outset.net outset.node m.now.spots L s [] due
whole {outset} {due} {L} s m = record {
  here = m.here;
  there = m.there;
  links = links_whole m;
  turns = in_turn_kept outset.net outset.node s.talk s.talk (under outset.node L []) L due due m.turns refl (λ i j. ap (λ xs. words_about xs Turns) (sym (none_under outset.node L i j))) refl refl;
  agrees = m.agrees;
}

module _ {outset : Outset} {ahead : List Item} {L : Links} where
  open outset use {program as p, net, occasion as q, node as n, opening, world as w}

  hears_then : (s : Local) {from id : ℕ} {up : Bool} (by : Tid) {other : Going} {b : Stage} {new : List SemRow} (now : Local) (more : List Busy) → (m : Midst outset (Says (Heard by) ∷ ahead) L (nothing s) [])
      → IsHeardSem n from id up by m.now.spots other b new
      → StandsAmid p net n (heard_spots m.now.spots by from other b (at_node m.now.spots.sems n new)) (links_less n L from by) now more (Says (Heard by) ∷ ahead)
      → Beside p n m.now.spots (Heard by) s now (Says (Heard by) ∷ ahead) (doing more ahead)
      → Midst outset ahead (links_less n L from by) (record { node = now; labels = Heard by ∷ []; sends = []; prints = [] }) more
  hears_then s {from} {id} {up} by {other} {b} {new} now more m heard stands aside =
      (labelled (links_less n L from by) more (Heard by) (heard_spots m.now.spots by from other b (at_node m.now.spots.sems n new)) now m
      (heard_same p heard)
      (record { solo = tt; holders = tt; life = subst (λ z. MayHear n z) (sym heard.calling.was) heard.calling.node; replies = tt; grants = tt }) refl refl
      (record { here = stands.here; there = stands.there; links = λ i j. nothing_sent n (links_less n L from by) i j _ (stands.links i j); turns = subst (λ z. AreInTurn (talks_amid net n z) (turn_words (under n (links_less n L from by) [])) (to_do_amid n ahead)) (sym aside.talk) (still_in_turn (Heard by) from by m); agrees = stands.agrees })
      aside).midst

  -- it is to be answered, and no other goes on
  hears_alone : (s : Local) {from id : ℕ} {up : Bool} (by : Tid) (reply : Reply) (new : List SemRow) → (m : Midst outset (Says (Heard by) ∷ ahead) L (nothing s) [])
      → IsHeardSem n from id up by m.now.spots None (answered_stage n from reply) new → All IsSemaphore new → ((j : ℕ) → waiters_at j new ≡ waiters_at j (m.now.spots.sems n))
      → Midst outset ahead (links_less n L from by) (replies_to n from by reply (hears_signal by new (nothing s))) []
  unfolding hears_signal say
  hears_alone s {from} {id} {up} by reply new m heard all same =
      let v : Spots = m.now.spots in
      let b : Stage = Answers n reply None in
      let x : (v.threads by).life ≡ On from (Signals id up) = heard.calling.was in
      let life : Life = On from b in
      let r : Spot = record (v.threads by) { life = life } in
      let z : ℕ → List SemRow = at_node v.sems n new in
      let away : answered_stage n from reply ≡ b = rw heard.calling.away refl in
      let as_told : IsHeardSem n from id up by v None b new = record { calling = heard.calling; going = heard.going; stage = heard.stage ∙ away; sems = heard.sems } in
      let own : z n ≡ new = rw (eq-eqb n n refl) refl in
      replies_ok (hears_signal by new (nothing s)) by from reply []
      (subst (λ c. Midst outset ahead (links_less n L from by) (hears_signal by new (nothing s)) (busy by (On from c) ∷ [])) (sym away)
      (hears_then s by (record s { sems = new }) (busy by life ∷ []) m as_told
      (heard_amid L b z (record s { sems = new }) (busy by life ∷ []) (whole s m) heard.calling (answered_heard n from by reply (v.threads by)) (ap (λ (xs : List SemRow). record s { sems = xs }) (sym own))
      (others_same v.sems n new)
      (queued_kept v.threads by r (queued_same n new (queued m.agrees) all same) (λ h j. ap (waiter_in_life h j by) x) (λ h j. refl))
      (fronted is_tid is-true is-refl busy_name (busy_part n) v.threads by r [] (busy by life) m.here.busy refl (busy_none n by (v.threads by) (On from (Signals id up)) x refl) (busy_was n by r life refl (eq-eqb n n refl))))
      (beside {due = Says (Heard by) ∷ ahead} {ahead = ahead} {hand = []} {more = busy by life ∷ []} {new = life} (record { heir = heard_heirs as_told; only = tt; front = λ sends talk. refl; next = refl; still = rw (eq-eqb n n refl) refl })
      (ap (λ (y : Spots). (y.threads by).life) (heard_same p as_told) ∙ ap (λ (y : Spot). y.life) (updated v.threads by r)) tt refl refl)))

  -- it waits, as the last
  hears_waiting : (s : Local) {from id : ℕ} {up : Bool} (by : Tid) (new : List SemRow) → (m : Midst outset (Says (Heard by) ∷ ahead) L (nothing s) [])
      → IsHeardSem n from id up by m.now.spots None (Queues id) new → All IsSemaphore new
      → ((j : ℕ) → waiters_at j new ≡ cond (eqb (number_in id) j) (waiters_at (number_in id) (m.now.spots.sems n) ++ (by, from) ∷ []) (waiters_at j (m.now.spots.sems n)))
      → Midst outset ahead (links_less n L from by) (hears_signal by new (nothing s)) []
  unfolding hears_signal say
  hears_waiting s {from} {id} {up} by new m heard all more =
      let v : Spots = m.now.spots in
      let x : (v.threads by).life ≡ On from (Signals id up) = heard.calling.was in
      let life : Life = On from (Queues id) in
      let r : Spot = record (v.threads by) { life = life } in
      let z : ℕ → List SemRow = at_node v.sems n new in
      let own : z n ≡ new = rw (eq-eqb n n refl) refl in
      hears_then s by (record s { sems = new }) [] m heard
      (heard_amid L (Queues id) z (record s { sems = new }) [] (whole s m) heard.calling (waits_heard n from id by (v.threads by) heard.calling.node) (ap (λ (xs : List SemRow). record s { sems = xs }) (sym own))
      (others_same v.sems n new)
      (queued_more v.threads by r n from id new (queued m.agrees) (λ h j. ap (waiter_in_life h j by) x) refl heard.calling.node all more)
      (kept is_tid is-true is-refl busy_name (busy_part n) v.threads by r [] m.here.busy (sym (busy_none n by (v.threads by) (On from (Signals id up)) x refl))))
      (beside {due = Says (Heard by) ∷ ahead} {ahead = ahead} {hand = []} {more = []} {new = life} (record { heir = heard_heirs heard; only = tt; front = λ sends talk. refl; next = refl; still = refl })
      (ap (λ (y : Spots). (y.threads by).life) (heard_same p heard) ∙ ap (λ (y : Spot). y.life) (updated v.threads by r)) tt refl refl)

  -- the thread that waited first is let go, and has its reply before the one that raised the semaphore
  hears_woken : (s : Local) {from id : ℕ} {up : Bool} (by u : Tid) (at k : ℕ) (new : List SemRow) → (m : Midst outset (Says (Heard by) ∷ ahead) L (nothing s) [])
      → IsHeardSem n from id up by m.now.spots (Some (u, woken_life n at)) (answered_stage n from (replies.Value 0)) new → IsShortened k (u, at) (m.now.spots.sems n) new → All IsSemaphore new
      → Midst outset ahead (links_less n L from by) (replies_to n from by (replies.Value 0) (replies_to n at u (replies.Value 0) (hears_signal by new (nothing s)))) []
  unfolding hears_signal say
  hears_woken s {from} {id} {up} by u at k new m heard less all =
      let v : Spots = m.now.spots in
      let g : Guest = (v.threads u).guest in
      let b : Stage = Answers n (replies.Value 0) None in
      let x : (v.threads by).life ≡ On from (Signals id up) = heard.calling.was in
      let was : IsWaiting n k at (v.threads u).life = waiting_first n k u at (waiters_at k new) (queued m.agrees) less.was in
      let apart : is_tid u by ≡ false = is-other u by (λ e. (let y = was.life in absurd (cc (y, x, ap (λ t. (v.threads t).life) e)))) in
      let life : Life = On from b in
      let first : Life = woken_life n at in
      let ru : Spot = woken_spot n at (v.threads u) in
      let f : Tid → Spot = update v.threads u ru in
      let here : f by ≡ v.threads by = rw apart refl in
      let z : ℕ → List SemRow = at_node v.sems n new in
      let own : z n ≡ new = rw (eq-eqb n n refl) refl in
      let node : Local = roused (eqb n at) u g (record s { sems = new }) in
      let v1 : Spots = spots_with f v.slots v.births z v.forests v.halts v.remote in
      let o1 : StandsAmid p net n v1 L node (busy u first ∷ []) (Says (Heard by) ∷ ahead) = woken_amid k at u new (whole s m) less all in
      let x1 : (f by).life ≡ On from (Signals id up) = ap (λ (y : Spot). y.life) here ∙ x in
      let calls1 : IsCalling n from id up by v1 = record { was = x1; node = heard.calling.node; away = heard.calling.away } in
      let r : Spot = record (f by) { life = life } in
      let away : answered_stage n from (replies.Value 0) ≡ b = rw heard.calling.away refl in
      let as_told : IsHeardSem n from id up by v (Some (u, first)) b new = record { calling = heard.calling; going = heard.going; stage = heard.stage ∙ away; sems = heard.sems } in
      let second = heard_amid {remote = v.remote} L b z node (busy u first ∷ busy by life ∷ []) o1 calls1 (answered_heard n from by (replies.Value 0) (f by)) (ap (λ (xs : List SemRow). record node { sems = xs }) (sym (own ∙ sym (roused_sems (eqb n at) u g (record s { sems = new })))))
      (λ j e. refl)
      (queued_kept f by r (queued o1.agrees) (λ h j. ap (waiter_in_life h j by) x1) (λ h j. refl))
      (added is_tid is-true is-refl busy_name (busy_part n) f by r (busy u first ∷ []) (busy by life) o1.here.busy refl (busy_none n by (f by) (On from (Signals id up)) x1 refl) (busy_was n by r life refl (eq-eqb n n refl))) in
      replies_ok (replies_to n at u (replies.Value 0) (hears_signal by new (nothing s))) by from (replies.Value 0) []
      (subst (λ c. Midst outset ahead (links_less n L from by) (replies_to n at u (replies.Value 0) (hears_signal by new (nothing s))) (busy by (On from c) ∷ [])) (sym away)
      (woken_ok (hears_signal by new (nothing s)) u at g (busy by life ∷ [])
      (λ e. m.here.threads.shows u ∙ thread_was n u (v.threads u) (Queues was.id) (was.life ∙ ap (λ i. On i (Queues was.id)) (sym (eqb-true n at e))) ∙ (rw (eq-eqb (node_in was.id) n was.node) refl))
      (hears_then s by node (busy u first ∷ busy by life ∷ []) m as_told
      (subst (λ (y : Spot). StandsAmid p net n (spots_with (update f by (record y { life = life })) v.slots v.births z v.forests v.halts v.remote) (links_less n L from by) node (busy u first ∷ busy by life ∷ []) (Says (Heard by) ∷ ahead)) here second)
      (beside_both {due = Says (Heard by) ∷ ahead} {ahead = ahead} {hand = []} {more = busy u first ∷ busy by life ∷ []} {first = first} {second = life} (record { heirs = heard_heirs as_told; only = tt; front = λ sends talk. refl; next = refl; still = rw (woken_busy n at, eq-eqb n n refl) refl })
      (ap (λ (y : Spots). (y.threads u).life) (heard_same p as_told) ∙ ap (λ (y : Spot). y.life) (at_first_of v.threads u by ru _ apart))
      (ap (λ (y : Spots). (y.threads by).life) (heard_same p as_told) ∙ ap (λ (y : Spot). y.life) (updated f by _))
      tt (roused_booted (eqb n at) u g (record s { sems = new })) (roused_talk (eqb n at) u g (record s { sems = new }))))))
    where
      roused_sems : (b : Bool) (u : Tid) (g : Guest) (s : Local) → (roused b u g s).sems ≡ s.sems
      roused_sems true u g s = refl
      roused_sems false u g s = refl

  raises_heard : (s : Local) (from id : ℕ) (by : Tid) → (m : Midst outset (Says (Heard by) ∷ ahead) L (nothing s) []) → IsCalling n from id true by m.now.spots
      → Midst outset ahead (links_less n L from by) (answers_v n from by (raised_answer (number_in id) (m.now.spots.sems n)) (hears_signal by (raised (number_in id) (m.now.spots.sems n)) (nothing s))) []
  raises_heard s from id by m calling = each (raised_answer (number_in id) rows) refl
    where
      rows : List SemRow
      rows = m.now.spots.sems n

      all : All IsSemaphore (raised (number_in id) rows)
      all = raised_sems (number_in id) rows (m.agrees.sems n)

      alone : (got : Vgot) → raised_answer (number_in id) rows ≡ got → ((u : Tid) (at : ℕ) → got ≡ raising.Woke u at → ⊥) → (reply : Reply) → woken n got ≡ None → raising_stage n from got ≡ answered_stage n from reply
          → Midst outset ahead (links_less n L from by) (replies_to n from by reply (hears_signal by (raised (number_in id) rows) (nothing s))) []
      alone got e other reply none stage = hears_alone s by reply (raised (number_in id) rows) m
          (record { calling = calling; going = ap (woken n) e ∙ none; stage = ap (raising_stage n from) e ∙ stage; sems = refl }) all (raised_same (number_in id) rows (λ u at f. other u at (sym e ∙ f)))

      each : (got : Vgot) → raised_answer (number_in id) rows ≡ got → Midst outset ahead (links_less n L from by) (answers_v n from by got (hears_signal by (raised (number_in id) rows) (nothing s))) []
      each (raising.Woke u at) e = hears_woken s by u at (number_in id) (raised (number_in id) rows) m
          (record { calling = calling; going = ap (woken n) e; stage = ap (raising_stage n from) e; sems = refl }) (raised_less (number_in id) rows u at e) all
      each raising.Stored e = alone raising.Stored e (λ u at f. absurd (cc f)) (replies.Value 0) refl refl
      each raising.AtLimit e = alone raising.AtLimit e (λ u at f. absurd (cc f)) replies.BadArgument refl refl
      each raising.NoSuch e = alone raising.NoSuch e (λ u at f. absurd (cc f)) replies.NoSuch refl refl

  lowers_heard : (s : Local) (from id : ℕ) (by : Tid) → (m : Midst outset (Says (Heard by) ∷ ahead) L (nothing s) []) → IsCalling n from id false by m.now.spots
      → Midst outset ahead (links_less n L from by) (answers_p n from by (lowered_answer (number_in id) (m.now.spots.sems n)) (hears_signal by (lowered (number_in id) (by, from) (m.now.spots.sems n)) (nothing s))) []
  lowers_heard s from id by m calling = each (lowered_answer (number_in id) rows) refl
    where
      rows : List SemRow
      rows = m.now.spots.sems n

      new : List SemRow
      new = lowered (number_in id) (by, from) rows

      all : All IsSemaphore new
      all = lowered_sems (number_in id) (by, from) rows (m.agrees.sems n)

      alone : (got : Pgot) → lowered_answer (number_in id) rows ≡ got → (got ≡ lowering.Later → ⊥) → (reply : Reply) → lowering_stage n from id got ≡ answered_stage n from reply
          → Midst outset ahead (links_less n L from by) (replies_to n from by reply (hears_signal by new (nothing s))) []
      alone got e other reply stage = hears_alone s by reply new m (record { calling = calling; going = refl; stage = ap (lowering_stage n from id) e ∙ stage; sems = refl }) all
          (lowered_same (number_in id) (by, from) rows (λ f. other (sym e ∙ f)))

      each : (got : Pgot) → lowered_answer (number_in id) rows ≡ got → Midst outset ahead (links_less n L from by) (answers_p n from by got (hears_signal by new (nothing s))) []
      each lowering.Got e = alone lowering.Got e (λ f. absurd (cc f)) (replies.Value 0) refl
      each lowering.Later e = hears_waiting s by new m (record { calling = calling; going = refl; stage = ap (lowering_stage n from id) e; sems = refl }) all (lowered_more (number_in id) (by, from) rows e)
      each lowering.NoSuch e = alone lowering.NoSuch e (λ f. absurd (cc f)) replies.NoSuch refl

  -- what a thread of another node asks of a semaphore
  pub hears_call_ok : (s : Local) (from id : ℕ) (up : Bool) (by : Tid) → (m : Midst outset (Says (Heard by) ∷ ahead) L (nothing s) []) → IsCalling n from id up by m.now.spots
      → Midst outset ahead (links_less n L from by) (hears_call n from by id up (nothing s)) []
  hears_call_ok s from id true by m calling = subst (λ z. Midst outset ahead (links_less n L from by) (answers_v n from by (raised_answer (number_in id) z) (hears_signal by (raised (number_in id) z) (nothing s))) []) (sym m.here.sems) (raises_heard s from id by m calling)
  hears_call_ok s from id false by m calling = subst (λ z. Midst outset ahead (links_less n L from by) (answers_p n from by (lowered_answer (number_in id) z) (hears_signal by (lowered (number_in id) (by, from) z) (nothing s))) []) (sym m.here.sems) (lowers_heard s from id by m calling)
