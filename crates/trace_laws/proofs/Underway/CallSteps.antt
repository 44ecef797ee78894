-- Calls, on an event in its midst: one that goes on, one that waits for what its packet brings, a halt, and a thread that leaves.
use Rattle.std.proofs.Common.{◌≡◌, ℕ, ◌<◌, List, [], ◌∷◌, ◌++◌, Some, None, Bool, true, false, eqb, cond, refl, sym, ap, ◌∙◌, subst}
use Rattle.std.specs.Prelude.{nat_lt, not}
use Rattle.std.proofs.Math.Path.{fun_ext}
use Rattle.std.proofs.lemmas.Bool.{eq-eqb, eqb-true}
use Rattle.std.proofs.lemmas.List.{append-nil}
use Rattle.slot_space.specs.declared.names.Tid.{Tid}
use Rattle.marcel_sync.specs.declared.sem.SemRow.{SemRow}
use Rattle.marcel_sync.specs.Semaphores.{node_in}
use Rattle.run_trace.specs.declared.label.Label.{Label}
use Rattle.run_trace.specs.declared.label.Label.TheVariants.{Asked, Left, Halted}
use Rattle.run_trace.specs.declared.packet.Body.{Body}
use Rattle.run_trace.specs.declared.packet.Body.TheVariants.{Mover, Show, JoinAsk, DetachAsk, SemAsk}
use Rattle.run_trace.specs.declared.node.Wait.{Wait}
use Rattle.run_trace.specs.declared.node.Wait.TheVariants as wait
use Rattle.run_trace.specs.Names.{is_tid}
use Rattle.run_trace.specs.Program.{Program, nodes_of}
use Rattle.run_trace.specs.Guests.{waits, packed, Solo}
use Rattle.run_trace.specs.declared.call.Call.{Call}
use Rattle.run_trace.specs.Calls.{call_of, number_of, args_of, refusal, said_bytes}
use Rattle.run_trace.specs.Cluster.{Net}
use Rattle.run_trace.specs.Local.{Local, EventSoFar}
use Rattle.bubbles.specs.Forests.{ForestView}
use Rattle.bubbles.specs.Forests.{leaves as without_thread}
use Rattle.run_trace.specs.Bubbles.{is_listed}
use Rattle.run_trace.specs.Steps.{say, put, depart, keep, halt, asks, asks_show, asks_join, asks_detach, asks_signal, halts, leaves, thread_out}
use Rattle.run_trace.specs.Machine.{goes}
use Rattle.run_trace.specs.Keyed.{StandsFor}
use Rattle.run_trace.specs.World.{World, world_after}
use Rattle.run_trace.specs.Spots.{Stage, Ready, Running, Departs, Halts, Stays, Shows, Asks, Detaches, Signals, Unborn, On, Moving, Spot, Spots, Going, update, set_going, remote_after, after_label, stage_of_call, going_by_call, sems_by_call, forest_by_call, gathered_by_call, forests_after, at_node}
use Rattle.run_trace.specs.Rules.{MayLeave}
use Rattle.run_trace.specs.Stands.{Here, Busy, busy, busy_name, busy_part, thread_part, word_subject, word_of, way, ways_of, phase_of, held, held_in_stage, holding_of}
use Rattle.run_trace.proofs.Lemmas.{is-true, is-refl}
use Rattle.trace_laws.proofs.Lists.KeyedLemmas.{kept, unfronted, refronted, map_kept, map_removed, map_set}
use Rattle.trace_laws.proofs.Underway.Steps.{in_hand, own_stays, own_goes, own_alone, after_first, seekers_kept, home_step, send_step, life_then}
use Rattle.run_trace.specs.Talks.{one_send}
use Rattle.run_trace.specs.Causes.{asked_causes}
use Rattle.trace_laws.proofs.Underway.Midst.{Then, updated, IsAsBefore, as_before, plain_seeks, Outset, StandsAmid, Own, beside, Links, Midst, under, spots_with, own_forest, labelled, here_kept, agrees_kept, quiet, plain, links_kept, Keeps, keeps}
use Rattle.trace_laws.proofs.Lists.Parts.{thread_was, busy_was, away_thread, busy_none, both_idle}
use Rattle.trace_laws.proofs.Lists.Stages.{is_in_hand, hand_home, hand_busy, hand_thread, leaves_home, leaves_holding, StandsWaiting, is_home, home_way, home_quiet, home_busy}
use Rattle.run_trace.specs.Items.{is_seeking, Thread as Its, Item, Says, as_list, one_going, goes_on_with}
use Rattle.trace_laws.proofs.Lists.SeatedLabels.{forest_elsewhere, nobody_departs}

abbrev pub solo_at : Spots → Tid → Solo
solo_at v t = (v.threads t).guest.solo

abbrev pub call_at : Spots → Tid → Call
call_at v t = call_of (solo_at v t).state

abbrev pub bytes_at : Program → Spots → Tid → List ℕ
bytes_at p v t = said_bytes p (solo_at v t).state (call_at v t) (refusal p t (solo_at v t) (call_at v t))

abbrev pub asked_label : Spots → Tid → (bytes : List ℕ) → Label
asked_label v t bytes = Asked t (number_of (call_at v t)) (args_of (call_at v t)) bytes

-- what is told with a call: whom else it sets going, in which stage its thread goes on, and the semaphores and forests then
abbrev pub asked_spots : ℕ → Spots → Tid → (bytes : List ℕ) → Going → Stage → (ℕ → List SemRow) → (ℕ → ForestView) → Spots
asked_spots n v t bytes going b z f =
    spots_with (update (set_going going v.threads) t (record (v.threads t) { life = On n b })) v.slots v.births z f v.halts (remote_after (asked_label v t bytes) v.remote)

pub asked_as : (p : Program) (n : ℕ) (v : Spots) (t : Tid) (bytes : List ℕ) (going : Going) (b : Stage) (z : ℕ → List SemRow) → going_by_call p n t v ≡ going → stage_of_call p n t v ≡ b → at_node v.sems n (sems_by_call p n t v) ≡ z
    → after_label p n (asked_label v t bytes) v ≡ asked_spots n v t bytes going b z (forests_after p n (asked_label v t bytes) v)
asked_as p n v t bytes going b z other st sems =
    let f : ℕ → ForestView = forests_after p n (asked_label v t bytes) v in
    ap (λ k. asked_spots n v t bytes k (stage_of_call p n t v) (at_node v.sems n (sems_by_call p n t v)) f) other
    ∙ ap (λ k. asked_spots n v t bytes going k (at_node v.sems n (sems_by_call p n t v)) f) st
    ∙ ap (λ k. asked_spots n v t bytes going b k f) sems

pub same_at : {A : Type 0} (f : ℕ → A) (n : ℕ) (x : A) → x ≡ f n → at_node f n x ≡ f
same_at f n x e = fun_ext (λ m. elim (eqb n m) as (λ v. eqb n m ≡ v → cond v x (f m) ≡ f m) [ true ↦ λ h. e ∙ ap f (eqb-true n m h) | false ↦ λ h. refl ] refl)

-- a call that leaves the node's forest as it was, and gathers no bubble
pub record IsNoBubbles (p : Program) (n : ℕ) (t : Tid) (v : Spots) : Type 0 where
  pub forest : forest_by_call p n t v ≡ v.forests n
  pub gathers : gathered_by_call p n t v ≡ None

-- a call that changes its thread alone
pub record IsItsOwn (p : Program) (n : ℕ) (t : Tid) (v : Spots) (b : Stage) : Type 0 where
  pub stage : stage_of_call p n t v ≡ b
  pub going : going_by_call p n t v ≡ None
  pub sems : sems_by_call p n t v ≡ v.sems n
  pub bubbles : IsNoBubbles p n t v

pub asked_same : (p : Program) (n : ℕ) (v : Spots) (t : Tid) (bytes : List ℕ) (b : Stage) → IsItsOwn p n t v b
    → after_label p n (asked_label v t bytes) v ≡ spots_with (update v.threads t (record (v.threads t) { life = On n b })) v.slots v.births v.sems (forests_after p n (asked_label v t bytes) v) v.halts (remote_after (asked_label v t bytes) v.remote)
asked_same p n v t bytes b own = asked_as p n v t bytes None b v.sems own.going own.stage (same_at v.sems n _ own.sems)

-- and nothing of its guest
pub asked_guest : (p : Program) (n : ℕ) (v u : World) (t : Tid) (bytes : List ℕ) (b : Stage) → IsItsOwn p n t v.spots b → u ≡ world_after p n (asked_label v.spots t bytes) v
    → (u.spots.threads t).guest ≡ (v.spots.threads t).guest
asked_guest p n v u t bytes b own e = ap (λ (z : World). (z.spots.threads t).guest) e ∙ ap (λ (z : Spots). (z.threads t).guest) (asked_same p n v.spots t bytes b own) ∙ ap (λ (z : Spot). z.guest) (updated v.spots.threads t _)

-- after which the event may go on with its thread alone
pub goes_alone : {p : Program} {n : ℕ} {v : Spots} {b : Stage} (t : Tid) (bytes : List ℕ) → IsItsOwn p n t v b → goes_on_with p n (asked_label v t bytes) v ≡ Its t ∷ []
goes_alone t bytes own = ap (λ k. as_list (one_going k) ++ Its t ∷ []) own.going

-- the forest then, on a node that has this one
pub asked_forest_is : {p : Program} {n : ℕ} {v : Spots} {f : ForestView} (t : Tid) (bytes : List ℕ) → IsNoBubbles p n t v → f ≡ v.forests n → f ≡ forests_after p n (asked_label v t bytes) v n
asked_forest_is {n = n} {v} t bytes none e = e ∙ sym none.forest ∙ own_forest v.forests n _

here_with : {k : ℕ} {w : Spots} {s : Local} {hand : List Busy} {served : List Tid} (f : ℕ → ForestView) → Here k w s hand served → s.forest ≡ f k → Here k (record w { forests = f }) s hand served
here_with f h forest = record { threads = h.threads; forest = forest; busy = h.busy; seekers = h.seekers; births = h.births; sems = h.sems; free = h.free; halted = h.halted }

-- nodes and links that stand for the rest of what is told with the call stand for the forests too
pub asked_amid : {p : Program} {net : Net} {n : ℕ} {v w : Spots} {M : Links} {s : Local} {hand : List Busy} {ahead : List Item} (t : Tid) (bytes : List ℕ) → IsNoBubbles p n t v → w.forests ≡ v.forests → StandsAmid p net n w M s hand ahead
    → StandsAmid p net n (record w { forests = forests_after p n (asked_label v t bytes) v }) M s hand ahead
asked_amid {p} {net} {n} {v} {w} t bytes none same o =
    let f : ℕ → ForestView = forests_after p n (asked_label v t bytes) v in
    record {
      here = here_with f o.here (asked_forest_is t bytes none (o.here.forest ∙ ap (λ g. g n) same));
      there = λ k e. (let h : Here k w (net.nodes k) [] [] = o.there k e in here_with f h (h.forest ∙ ap (λ g. g k) same ∙ sym (forest_elsewhere p n (asked_label v t bytes) v k e)));
      links = o.links;
      turns = o.turns;
      agrees = record {
        homes = o.agrees.homes;
        named = o.agrees.named;
        awaits = o.agrees.awaits;
        waits = o.agrees.waits;
        sems = o.agrees.sems;
        queues = o.agrees.queues;
        signals = o.agrees.signals;
        stays = o.agrees.stays;
        seeks = o.agrees.seeks;
        slots = o.agrees.slots;
        blocks = o.agrees.blocks;
      };
    }

-- its home is a node, as each thread's is
home_of : {outset : Outset} {due : List Item} {L : Links} {d : EventSoFar} {hand : List Busy} (t : Tid) (a : Stage) → (m : Midst outset due L d hand) → (m.now.spots.threads t).life ≡ On outset.node a → nat_lt t.home (nodes_of outset.program) ≡ true
home_of {outset} t a m x = elim (nat_lt t.home (nodes_of outset.program)) as (λ v. nat_lt t.home (nodes_of outset.program) ≡ v → v ≡ true) [
  | true ↦ λ e. refl
  | false ↦ λ e. (let none : (m.now.spots.threads t).life ≡ Unborn = m.agrees.homes t e in absurd (cc (none, x)))
] refl

-- at a call its thread alone is in hand, so nobody is about to leave
pub nobody_leaves : {outset : Outset} {due : List Item} {L : Links} {d : EventSoFar} {t : Tid} → (m : Midst outset due L d (busy t (On outset.node Running) ∷ [])) → (u : Tid) (to : ℕ) → (m.now.spots.threads u).life ≡ On outset.node (Departs to) → ⊥
nobody_leaves {outset} {t = t} m = nobody_departs outset.node m.now.spots.threads (busy t (On outset.node Running) ∷ []) m.here.busy (λ to e. absurd (cc e), tt)

-- the packet by which a call waits, which is all that is under way of its thread
record IsPosted (n : ℕ) (t : Tid) (b : Stage) (to : ℕ) (body : Body) (s : Spot) : Type 0 where
  sent : asked_causes t b ≡ one_send to body
  ways : ways_of t (On n b) s.verdict s.guest ≡ way n to (word_of to body)
  name : word_subject (word_of to body) ≡ Its t

module _ {outset : Outset} {ahead : List Item} {L : Links} where
  open outset use {program as p, net, occasion as q, node as n, opening, world as w}

  -- a call that goes on here
  pub asks_then_ok : (d : EventSoFar) (t : Tid) (b : Stage) → (m : Midst outset ahead L d (busy t (On n Running) ∷ []))
      → IsItsOwn p n t m.now.spots b → [] ≡ bytes_at p m.now.spots t → asked_causes t b ≡ []
      → is_in_hand b ≡ true
      → Keeps (Some (holding_of (m.now.spots.threads t).guest)) (held_in_stage b (m.now.spots.threads t).guest)
      → Then outset ahead L m.now (asked_label m.now.spots t []) (asks t (call_at m.now.spots t) d) (busy t (On n b) ∷ [])
  unfolding asks say
  asks_then_ok d t b m st bytes sent here slots =
      let v : Spots = m.now.spots in
      let s : Spot = m.now.spots.threads t in
      let x : s.life ≡ On n Running = in_hand m in
      let r : Spot = record s { life = On n b } in
      home_step (busy t (On n b) ∷ []) (asked_label m.now.spots t []) t r d.node Running b m
      (record {
        same = asked_same p n m.now.spots t [] b st;
        may = record { solo = (refl, refl, bytes); holders = tt; life = x; replies = tt; grants = tt };
        ties = record {
          threads = map_kept is_tid is-true is-refl (thread_part n) v.threads t r d.node.threads m.here.threads (thread_was n t r b refl ∙ hand_thread n b s.guest here ∙ sym (thread_was n t s Running x));
          busy = refronted is_tid is-true is-refl busy_name (busy_part n) v.threads t r [] (busy t (On n Running)) (busy t (On n b)) m.here.busy refl refl (busy_was n t r (On n b) refl (hand_busy n b here));
        };
        births = refl;
        sems = refl;
        free = refl;
        halted = refl;
        next = own_stays m refl (goes_alone t [] st) st.bubbles.gathers (hand_busy n b here);
        after = as_before;
        talk = refl;
        forest = asked_forest_is t [] st.bubbles m.here.forest;
        shifted = nobody_leaves m;
        booted = refl;
      })
      (record {
        sent = ap (asked_causes t) st.stage ∙ sent;
        shown = refl;
        was = x;
        is = refl;
        home_was = refl;
        home_is = hand_home b here;
      })
      slots

  pub asks_ok : (d : EventSoFar) (t : Tid) (b : Stage) → (m : Midst outset ahead L d (busy t (On n Running) ∷ []))
      → IsItsOwn p n t m.now.spots b → [] ≡ bytes_at p m.now.spots t → asked_causes t b ≡ []
      → is_in_hand b ≡ true
      → Keeps (Some (holding_of (m.now.spots.threads t).guest)) (held_in_stage b (m.now.spots.threads t).guest)
      → Midst outset ahead L (asks t (call_at m.now.spots t) d) (busy t (On n b) ∷ [])
  asks_ok d t b m st bytes sent here slots = (asks_then_ok d t b m st bytes sent here slots).midst

  -- a call that sends a packet
  asks_out_ok : (d : EventSoFar) (t : Tid) (bytes : List ℕ) (b : Stage) (waiting : Wait) (to : ℕ) (body : Body) → (m : Midst outset ahead L d (busy t (On n Running) ∷ []))
      → IsItsOwn p n t m.now.spots b → bytes ≡ bytes_at p m.now.spots t → IsPosted n t b to body (m.now.spots.threads t) → StandsWaiting n t b waiting (m.now.spots.threads t).guest
      → Midst outset ahead L (put to body (say (asked_label m.now.spots t bytes) (keep t (waits waiting (m.now.spots.threads t).guest) d))) []
  unfolding put keep say
  asks_out_ok d t bytes b waiting to body m st said packet still =
      let v : Spots = m.now.spots in
      let s : Spot = m.now.spots.threads t in
      let x : s.life ≡ On n Running = in_hand m in
      let r : Spot = record s { life = On n b } in
      (send_step [] (asked_label m.now.spots t bytes) t r _ to body m
      (record {
        same = asked_same p n m.now.spots t bytes b st;
        may = record { solo = (refl, refl, said); holders = tt; life = x; replies = tt; grants = tt };
        ties = record {
          threads = map_set is_tid is-true is-refl (thread_part n) v.threads t r d.node.threads (waits wait.No s.guest) (waits waiting s.guest) m.here.threads (thread_was n t s Running x) (thread_was n t r b refl ∙ still.thread);
          busy = unfronted is_tid is-true is-refl busy_name (busy_part n) v.threads t r [] (busy t (On n Running)) m.here.busy refl (busy_none n t r (On n b) refl (still.idle n));
        };
        births = refl;
        sems = refl;
        free = refl;
        halted = refl;
        next = own_goes m refl (goes_alone t bytes st) st.bubbles.gathers (still.idle n) (plain_seeks n (On n b) still.plain);
        after = as_before;
        talk = refl;
        forest = asked_forest_is t bytes st.bubbles m.here.forest;
        shifted = nobody_leaves m;
        booted = refl;
      })
      (record {
        sent = ap (asked_causes t) st.stage ∙ packet.sent;
        shown = refl;
        before = ap (λ z. ways_of t z s.verdict s.guest) x;
        after = packet.ways;
        name = packet.name;
      })
      (record {
        frame = λ k e. record {
          thread = away_thread n k t r b refl e ∙ sym (away_thread n k t s Running x e);
          busy = busy_none k t r (On n b) refl (still.idle k) ∙ sym (busy_none k t s (On n Running) x e);
          seeker = both_idle k t s r (ap (is_seeking k) x) (plain_seeks k (On n b) still.plain);
        };
        phase = sym (ap phase_of x);
        quiet = quiet x refl;
        holds = keeps _ _ (still.held ∙ sym (ap (λ z. held z s.guest) x));
        whole = plain (On n b) still.plain;
      })).midst

  pub asks_show_ok : (d : EventSoFar) (t : Tid) (bytes : List ℕ) → (m : Midst outset ahead L d (busy t (On n Running) ∷ []))
      → IsItsOwn p n t m.now.spots (Shows bytes) → bytes ≡ bytes_at p m.now.spots t
      → Midst outset ahead L (asks_show t (call_at m.now.spots t) bytes (waits wait.No (m.now.spots.threads t).guest) d) []
  unfolding asks_show
  asks_show_ok d t bytes m st said = asks_out_ok d t bytes (Shows bytes) wait.ForShow 0 (Show t bytes) m st said
      (record { sent = refl; ways = refl; name = refl }) (record { thread = refl; idle = λ k. refl; held = refl; plain = refl })

  pub asks_join_ok : (d : EventSoFar) (t u : Tid) → (m : Midst outset ahead L d (busy t (On n Running) ∷ []))
      → IsItsOwn p n t m.now.spots (Asks u) → [] ≡ bytes_at p m.now.spots t
      → Midst outset ahead L (asks_join t (call_at m.now.spots t) u (waits wait.No (m.now.spots.threads t).guest) d) []
  unfolding asks_join asks
  asks_join_ok d t u m st said = asks_out_ok d t [] (Asks u) wait.ForAnswer u.home (JoinAsk t u.seq) m st said
      (record { sent = refl; ways = refl; name = refl }) (record { thread = refl; idle = λ k. refl; held = refl; plain = refl })

  pub asks_detach_ok : (d : EventSoFar) (t u : Tid) → (m : Midst outset ahead L d (busy t (On n Running) ∷ []))
      → IsItsOwn p n t m.now.spots (Detaches u) → [] ≡ bytes_at p m.now.spots t
      → Midst outset ahead L (asks_detach t (call_at m.now.spots t) u (waits wait.No (m.now.spots.threads t).guest) d) []
  unfolding asks_detach asks
  asks_detach_ok d t u m st said = asks_out_ok d t [] (Detaches u) wait.ForAnswer u.home (DetachAsk t u.seq) m st said
      (record { sent = refl; ways = refl; name = refl }) (record { thread = refl; idle = λ k. refl; held = refl; plain = refl })

  pub asks_signal_ok : (d : EventSoFar) (t : Tid) (id : ℕ) (up : Bool) → (m : Midst outset ahead L d (busy t (On n Running) ∷ []))
      → IsItsOwn p n t m.now.spots (Signals id up) → [] ≡ bytes_at p m.now.spots t → eqb (node_in id) n ≡ false
      → Midst outset ahead L (asks_signal t (call_at m.now.spots t) id up (waits wait.No (m.now.spots.threads t).guest) d) []
  unfolding asks_signal asks
  asks_signal_ok d t id up m st said away = asks_out_ok d t [] (Signals id up) wait.ForAnswer (node_in id) (SemAsk t id up) m st said
      (record { sent = refl; ways = refl; name = refl }) (record { thread = refl; idle = λ k. refl; held = refl; plain = ap not away })

  pub halts_ok : (d : EventSoFar) (t : Tid) (hs : List Busy) → (m : Midst outset ahead L d (busy t (On n Halts) ∷ hs)) → Midst outset ahead L (halts t (waits wait.No (m.now.spots.threads t).guest) d) hs
  unfolding halts halt say keep
  halts_ok d t hs m =
      let v : Spots = m.now.spots in
      let s : Spot = m.now.spots.threads t in
      let x : s.life ≡ On n Halts = in_hand m in
      let r : Spot = record s { life = On n Stays } in
      (labelled L hs (Halted t) (spots_with (update v.threads t r) v.slots v.births v.sems v.forests (at_node v.halts n true) v.remote) _ m refl
      (record { solo = tt; holders = tt; life = x; replies = tt; grants = tt }) (sym (append-nil d.sends)) (sym (append-nil d.prints))
      (record {
        here = record {
          threads = map_set is_tid is-true is-refl (thread_part n) v.threads t r d.node.threads (waits wait.No s.guest) (waits wait.Halted s.guest) m.here.threads (thread_was n t s Halts x) (thread_was n t r Stays refl);
          busy = unfronted is_tid is-true is-refl busy_name (busy_part n) v.threads t r hs (busy t (On n Halts)) m.here.busy refl (busy_none n t r (On n Stays) refl refl);
          forest = m.here.forest;
          seekers = seekers_kept n v.threads t r m.here.seekers refl (ap (is_seeking n) x) refl;
          births = m.here.births;
          sems = m.here.sems;
          free = m.here.free;
          halted = rw (eq-eqb n n refl) refl;
        };
        there = λ k e. here_kept k v t r (net.nodes k) [] [] (m.there k e)
            (record {
              thread = away_thread n k t r Stays refl e ∙ sym (away_thread n k t s Halts x e);
              busy = busy_none k t r (On n Stays) refl refl ∙ sym (busy_none k t s (On n Halts) x e);
              seeker = both_idle k t s r (ap (is_seeking k) x) refl;
            })
            refl refl refl (λ y. refl) (rw e refl);
        links = λ i j. links_kept t r v.threads (under n L d.sends) m.links (sym (ap (λ z. ways_of t z s.verdict s.guest) x)) i j;
        turns = m.turns;
        agrees = agrees_kept p v t r (at_node v.halts n true) m.agrees (sym (ap phase_of x)) (quiet x refl) (keeps _ _ (ap (λ z. held z s.guest) (sym x)))
            (record { seeks = λ k e. absurd (cc e); waits = λ u k e. absurd (cc e); signals = λ k id up e. absurd (cc e); stays = λ k e. (let same : n ≡ k = cc e in rw (eq-eqb n k same) refl) }) (λ j k. refl) (λ k e. elim (eqb n k) as (λ v. cond v true (m.now.spots.halts k) ≡ true) [ true ↦ refl | false ↦ e ]);
      })
      (beside (own_goes m refl refl tt refl refl) (life_then p n m.now.spots (Halted t) t r _ refl refl) tt refl refl)).midst

  -- ## Moves

  -- a thread on the run list goes to another node of the cluster
  pub leaves_ok : {due : List Item} {hand : List Busy} (d : EventSoFar) (t : Tid) (to : ℕ) (a : Stage) (hs : List Busy) → (m : Midst outset due L d hand) → (m.now.spots.threads t).life ≡ On n a
      → MayLeave n to (On n a) → is_listed t (m.now.spots.forests n) ≡ true → to < nodes_of p → (to ≡ n → ⊥)
      → StandsFor is_tid busy_name (busy_part n) hs (update m.now.spots.threads t (record (m.now.spots.threads t) { life = Moving n to }))
      → Own p n (Left t to) t m.now.spots due ahead hand hs (Moving n to) → IsAsBefore due ahead
      → Midst outset ahead L (leaves t to (waits wait.No (m.now.spots.threads t).guest) d) hs
  unfolding leaves put say thread_out depart
  leaves_ok d t to a hs m x may listed below other hands own after =
      let v : Spots = m.now.spots in
      let s : Spot = m.now.spots.threads t in
      let r : Spot = record s { life = Moving n to } in
      let home : is_home a ≡ true = leaves_home n to a may in
      (send_step hs (Left t to) t r _ to (Mover (packed t s.guest)) m
      (record {
        same = refl;
        may = record { solo = tt; holders = tt; life = (subst (λ z. MayLeave n to z) (sym x) may, listed, below, other); replies = tt; grants = tt };
        ties = record {
          threads = map_removed is_tid is-true is-refl (thread_part n) v.threads t r d.node.threads m.here.threads refl;
          busy = hands;
        };
        births = refl;
        sems = refl;
        free = refl;
        halted = refl;
        next = own;
        after = after;
        talk = refl;
        forest = ap (without_thread t) m.here.forest ∙ own_forest v.forests n (without_thread t (v.forests n));
        shifted = tt;
        booted = refl;
      })
      (record {
        sent = refl;
        shown = refl;
        before = ap (λ z. ways_of t z s.verdict s.guest) x ∙ home_way t n a s.verdict s.guest home;
        after = refl;
        name = refl;
      })
      (record {
        frame = λ k e. record {
          thread = sym (away_thread n k t s a x e);
          busy = sym (busy_none k t s (On n a) x (home_busy n k a home e));
          seeker = both_idle k t s r ((home_quiet n a s.life x home).seeks k) refl;
        };
        phase = sym (ap phase_of x);
        quiet = home_quiet n a s.life x home;
        holds = keeps _ _ (sym (ap (λ z. held z s.guest) x ∙ leaves_holding n to a s.guest may));
        whole = plain _ refl;
      })).midst

  -- by its own call
  pub departs_ok : (d : EventSoFar) (t : Tid) (to : ℕ) (hs : List Busy) → (m : Midst outset ahead L d (busy t (On n (Departs to)) ∷ hs)) → to < nodes_of p → (to ≡ n → ⊥) → Midst outset ahead L (goes p t to (waits wait.No (m.now.spots.threads t).guest) d) hs
  departs_ok d t to hs m below other =
      let v : Spots = m.now.spots in
      let x : (m.now.spots.threads t).life ≡ On n (Departs to) = in_hand m in
      let r : Spot = record (m.now.spots.threads t) { life = Moving n to } in
      subst (λ b. Midst outset ahead L (cond b (leaves t to (waits wait.No (m.now.spots.threads t).guest) d) d) hs) (sym (home_of t (Departs to) m x))
      (leaves_ok d t to (Departs to) hs m x (refl, refl) ((m.seated n).departs t to x) below other
      (unfronted is_tid is-true is-refl busy_name (busy_part n) v.threads t r hs (busy t (On n (Departs to))) m.here.busy refl refl)
      (own_goes m refl refl tt refl refl) as_before)

  -- or because it is sent away
  pub sent_ok : (d : EventSoFar) (t : Tid) (to : ℕ) → (m : Midst outset (Says (Left t to) ∷ ahead) L d []) → (m.now.spots.threads t).life ≡ On n Ready → is_listed t (m.now.spots.forests n) ≡ true → to < nodes_of p → (to ≡ n → ⊥) → Midst outset ahead L (goes p t to (waits wait.No (m.now.spots.threads t).guest) d) []
  sent_ok d t to m x listed below other =
      let v : Spots = m.now.spots in
      let r : Spot = record (m.now.spots.threads t) { life = Moving n to } in
      subst (λ b. Midst outset ahead L (cond b (leaves t to (waits wait.No (m.now.spots.threads t).guest) d) d) []) (sym (home_of t Ready m x))
      (leaves_ok d t to Ready [] m x refl listed below other
      (kept is_tid is-true is-refl busy_name (busy_part n) v.threads t r [] m.here.busy (sym (busy_none n t (m.now.spots.threads t) (On n Ready) x refl)))
      (own_alone refl refl refl tt refl refl) (after_first (Says (Left t to)) refl))
