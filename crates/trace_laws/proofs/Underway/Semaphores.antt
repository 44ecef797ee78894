-- The queues of semaphores, when a thread comes to wait or is let go; and a thread's new spot beside other semaphores.
use Rattle.run_trace.specs.Calls.{call_of}
use Rattle.run_trace.specs.Items.{Item, is_seeking}
use Rattle.std.proofs.Common.{◌≡◌, ℕ, List, [], ◌∷◌, ◌++◌, Option, Some, None, Bool, true, false, eqb, cond, ◌&&◌, refl, sym, ap, ◌∙◌, subst}
use Rattle.std.specs.Prelude.{All}
use Rattle.std.specs.Map.{set_value}
use Rattle.std.proofs.lemmas.Bool.{eq-eqb, eqb-true}
use Rattle.slot_space.specs.Sets.{has}
use Rattle.slot_space.specs.declared.names.Tid.{Tid}
use Rattle.slot_space.specs.declared.names.Reply.TheVariants as replies
use Rattle.marcel_sync.specs.declared.sem.SemRow.{SemRow}
use Rattle.marcel_sync.specs.Semaphores.{IsSemaphore, node_in, number_in, waiters_at}
use Rattle.run_trace.specs.declared.node.Wait.TheVariants as wait
use Rattle.run_trace.specs.Names.{is_tid}
use Rattle.run_trace.specs.Program.{Program}
use Rattle.run_trace.specs.Guests.{Guest, waits}
use Rattle.run_trace.specs.Local.{Local}
use Rattle.run_trace.specs.Cluster.{Net}
use Rattle.run_trace.specs.Keyed.{StandsFor, item_of}
use Rattle.run_trace.specs.Spots.{Stage, Queues, Answers, Due, Awaits, Life, Unborn, On, Spot, Spots, Remote, update, at_node, answered_stage}
use Rattle.run_trace.specs.Stands.{serving, Busy, busy, busy_name, busy_part, thread_part, thread_in_life, ways_of, phase_of, held, waiter_name, waiter_in_life, waiter_part}
use Rattle.run_trace.proofs.Lemmas.{is-true, is-refl}
use Rattle.trace_laws.proofs.Lists.KeyedLemmas.{kept, added, fronted, unfronted, map_kept, map_set}
use Rattle.trace_laws.proofs.Lists.Queues.{IsShortened}
use Rattle.trace_laws.proofs.Lists.Parts.{both_idle, thread_was, busy_was, away_thread, busy_none, frame_home}
use Rattle.trace_laws.proofs.Lists.Stages.{is_home, home_quiet, home_plain}
use Rattle.trace_laws.proofs.Underway.Midst.{in_turn_kept, turn_words, StandsAmid, Links, LinkStands, Frame, spots_with, here_kept, links_kept, agrees_queued, AreQueued, queued, Quiet, Fits, fits, plain, Plain, Keeps, keeps}
use Rattle.trace_laws.proofs.Underway.Steps.{seekers_kept, Ties}

-- ## Queues

-- node n has these semaphores then, and the same threads wait for them
pub queued_same : {z : ℕ → List SemRow} {w : Tid → Spot} (n : ℕ) (new : List SemRow) → AreQueued z w → All IsSemaphore new → ((j : ℕ) → waiters_at j new ≡ waiters_at j (z n)) → AreQueued (at_node z n new) w
queued_same {z} {w} n new a all same = record {
  sems = λ h. elim (eqb n h) as (λ v. All IsSemaphore (cond v new (z h))) [ true ↦ all | false ↦ a.sems h ];
  queues = λ h k. elim (eqb n h) as (λ v. eqb n h ≡ v → StandsFor is_tid waiter_name (waiter_part h k) (waiters_at k (cond v new (z h))) w) [
    | true ↦ λ e. subst (λ xs. StandsFor is_tid waiter_name (waiter_part h k) xs w) (sym (same k ∙ ap (λ i. waiters_at k (z i)) (eqb-true n h e))) (a.queues h k)
    | false ↦ λ e. a.queues h k
  ] refl;
}

-- the queue of one semaphore, as the life of a thread shows it
waits_in : (h j : ℕ) (t : Tid) (m id : ℕ) (life : Life) (a b : Bool) → life ≡ On m (Queues id) → eqb (node_in id) h ≡ a → eqb (number_in id) j ≡ b → waiter_in_life h j t life ≡ cond (a && b) (Some (t, m)) None
waits_in h j t m id life a b x e f = ap (waiter_in_life h j t) x ∙ ap (λ v. cond (v && eqb (number_in id) j) (Some (t, m)) None) e ∙ ap (λ v. cond (a && v) (Some (t, m)) None) f

waits_not : (h j : ℕ) (t : Tid) (m id : ℕ) (life : Life) (a : Bool) → life ≡ On m (Queues id) → eqb (node_in id) h ≡ a → eqb (number_in id) j ≡ false → waiter_in_life h j t life ≡ None
waits_not h j t m id life true x e f = waits_in h j t m id life true false x e f
waits_not h j t m id life false x e f = waits_in h j t m id life false false x e f

waits_elsewhere : (h j : ℕ) (t : Tid) (m id : ℕ) (life : Life) → life ≡ On m (Queues id) → eqb (node_in id) h ≡ false → waiter_in_life h j t life ≡ None
waits_elsewhere h j t m id life x e = waits_in h j t m id life false (eqb (number_in id) j) x e refl

-- thread t, which waited for none, comes to wait for one of node n, as the last
pub queued_more : {z : ℕ → List SemRow} (w : Tid → Spot) (t : Tid) (s : Spot) (n m id : ℕ) (new : List SemRow) → AreQueued z w → ((h j : ℕ) → waiter_part h j t (w t) ≡ None)
    → s.life ≡ On m (Queues id) → node_in id ≡ n → All IsSemaphore new
    → ((j : ℕ) → waiters_at j new ≡ cond (eqb (number_in id) j) (waiters_at (number_in id) (z n) ++ (t, m) ∷ []) (waiters_at j (z n)))
    → AreQueued (at_node z n new) (update w t s)
queued_more {z} w t s n m id new a none x here all more = record {
  sems = λ h. elim (eqb n h) as (λ v. All IsSemaphore (cond v new (z h))) [ true ↦ all | false ↦ a.sems h ];
  queues = λ h j. by h j (eqb n h) (eqb (number_in id) j) refl refl;
}
  where
    old : (h j : ℕ) → waiter_part h j t s ≡ None → StandsFor is_tid waiter_name (waiter_part h j) (waiters_at j (z h)) (update w t s)
    old h j e = kept is_tid is-true is-refl waiter_name (waiter_part h j) w t s (waiters_at j (z h)) (a.queues h j) (e ∙ sym (none h j))

    at_home : (h : ℕ) (v : Bool) → eqb n h ≡ v → eqb (node_in id) h ≡ v
    at_home h v e = ap (λ i. eqb i h) here ∙ e

    by : (h j : ℕ) (v u : Bool) → eqb n h ≡ v → eqb (number_in id) j ≡ u → StandsFor is_tid waiter_name (waiter_part h j) (waiters_at j (cond v new (z h))) (update w t s)
    by h j true true e f =
        let node : n ≡ h = eqb-true n h e in
        let number : number_in id ≡ j = eqb-true (number_in id) j f in
        subst (λ xs. StandsFor is_tid waiter_name (waiter_part h j) xs (update w t s))
        (sym (more j ∙ ap (λ v. cond v (waiters_at (number_in id) (z n) ++ (t, m) ∷ []) (waiters_at j (z n))) f ∙ ap (λ i. waiters_at i (z n) ++ (t, m) ∷ []) number ∙ ap (λ i. waiters_at j (z i) ++ (t, m) ∷ []) node))
        (added is_tid is-true is-refl waiter_name (waiter_part h j) w t s (waiters_at j (z h)) (t, m) (a.queues h j) refl (none h j) (waits_in h j t m id s.life true true x (at_home h true e) f))
    by h j true false e f = subst (λ xs. StandsFor is_tid waiter_name (waiter_part h j) xs (update w t s))
        (sym (more j ∙ ap (λ v. cond v (waiters_at (number_in id) (z n) ++ (t, m) ∷ []) (waiters_at j (z n))) f ∙ ap (λ i. waiters_at j (z i)) (eqb-true n h e)))
        (old h j (waits_not h j t m id s.life true x (at_home h true e) f))
    by h j false u e f = old h j (waits_elsewhere h j t m id s.life x (at_home h false e))

-- a thread that a queue shows first waits for that semaphore
pub record IsWaiting (n k at : ℕ) (waiting : Life) : Type 0 where
  pub id : ℕ
  pub life : waiting ≡ On at (Queues id)
  pub node : node_in id ≡ n
  pub number : number_in id ≡ k

waiting_as : (n k : ℕ) (u : Tid) (at : ℕ) (life : Life) → waiter_in_life n k u life ≡ Some (u, at) → IsWaiting n k at life
waiting_as n k u at (On m (Queues id)) h = by (eqb (node_in id) n) (eqb (number_in id) k) refl refl h
  where
    by : (a b : Bool) → eqb (node_in id) n ≡ a → eqb (number_in id) k ≡ b → cond {A = Option (Tid × ℕ)} (a && b) (Some (u, m)) None ≡ Some (u, at) → IsWaiting n k at (On m (Queues id))
    by true true e f g = let pair : (u, m) ≡ (u, at) = cc g in let same : m ≡ at = ap (λ (x : Tid × ℕ). x.1) pair in record { id = id; life = ap (λ i. On i (Queues id)) same; node = eqb-true (node_in id) n e; number = eqb-true (number_in id) k f }
    by true false e f g = absurd (cc g)
    by false b e f g = absurd (cc g)
waiting_as n k u at life h = absurd (cc h)

pub waiting_first : {z : ℕ → List SemRow} {w : Tid → Spot} (n k : ℕ) (u : Tid) (at : ℕ) (rest : List (Tid × ℕ)) → AreQueued z w → waiters_at k (z n) ≡ (u, at) ∷ rest → IsWaiting n k at (w u).life
waiting_first {z} {w} n k u at rest a first = waiting_as n k u at (w u).life (sym ((a.queues n k).shows u) ∙ ap (λ xs. item_of is_tid waiter_name xs u) first ∙ (rw (is-refl u) refl))

-- the first of those that wait for semaphore k of node n is let go
pub queued_less : {z : ℕ → List SemRow} (w : Tid → Spot) (u : Tid) (s : Spot) (n k at : ℕ) (new : List SemRow) → AreQueued z w → ((h j : ℕ) → waiter_part h j u s ≡ None)
    → IsShortened k (u, at) (z n) new → All IsSemaphore new → AreQueued (at_node z n new) (update w u s)
queued_less {z} w u s n k at new a none less all = record {
  sems = λ h. elim (eqb n h) as (λ v. All IsSemaphore (cond v new (z h))) [ true ↦ all | false ↦ a.sems h ];
  queues = λ h j. by h j (eqb n h) (eqb k j) refl refl;
}
  where
    was : IsWaiting n k at (w u).life
    was = waiting_first n k u at (waiters_at k new) a less.was

    old : (h j : ℕ) → waiter_part h j u (w u) ≡ None → StandsFor is_tid waiter_name (waiter_part h j) (waiters_at j (z h)) (update w u s)
    old h j e = kept is_tid is-true is-refl waiter_name (waiter_part h j) w u s (waiters_at j (z h)) (a.queues h j) (none h j ∙ sym e)

    by : (h j : ℕ) (v b : Bool) → eqb n h ≡ v → eqb k j ≡ b → StandsFor is_tid waiter_name (waiter_part h j) (waiters_at j (cond v new (z h))) (update w u s)
    by h j true true e f =
        let whole : waiters_at j (z h) ≡ (u, at) ∷ waiters_at j new = ap (λ i. waiters_at j (z i)) (sym (eqb-true n h e)) ∙ subst (λ i. waiters_at i (z n) ≡ (u, at) ∷ waiters_at i new) (eqb-true k j f) less.was in
        unfronted is_tid is-true is-refl waiter_name (waiter_part h j) w u s (waiters_at j new) (u, at) (subst (λ xs. StandsFor is_tid waiter_name (waiter_part h j) xs w) whole (a.queues h j)) refl (none h j)
    by h j true false e f = subst (λ xs. StandsFor is_tid waiter_name (waiter_part h j) xs (update w u s)) (sym (less.others j f ∙ ap (λ i. waiters_at j (z i)) (eqb-true n h e)))
        (old h j (waits_not h j u at was.id (w u).life (eqb (node_in was.id) h) was.life refl (ap (λ i. eqb i j) was.number ∙ f)))
    by h j false b e f = old h j (waits_elsewhere h j u at was.id (w u).life was.life (ap (λ i. eqb i h) was.node ∙ e))

-- ## One thread's new spot, beside other semaphores

-- what all others see of t's new spot, where z are the semaphores then
pub record IsSpot (n : ℕ) (t : Tid) (r : Spot) (v : Spots) (z : ℕ → List SemRow) : Type 0 where
  pub frame : (k : ℕ) → eqb n k ≡ false → Frame k t (v.threads t) r
  pub phase : phase_of r.life ≡ phase_of (v.threads t).life
  pub born : (v.threads t).life ≡ Unborn → ⊥
  pub waits : (u : Tid) (k : ℕ) → (v.threads t).life ≡ On k (Awaits u) → ⊥
  pub holds : Keeps (held (v.threads t).life (v.threads t).guest) (held r.life r.guest)
  pub fits : Fits v.halts (call_of r.guest.solo.state) r.life
  pub seeks : (k : ℕ) → is_seeking k (v.threads t).life ≡ false
  pub rests : (k : ℕ) → is_seeking k r.life ≡ false
  pub queued : AreQueued z (update v.threads t r)
  pub others : (k : ℕ) → eqb n k ≡ false → z k ≡ v.sems k

-- what the node keeps
pub record IsBeside (old now : Local) (rows : List SemRow) : Type 0 where
  pub births : now.births ≡ old.births
  pub forest : now.forest ≡ old.forest
  pub sems : now.sems ≡ rows
  pub free : now.slots.free ≡ old.slots.free
  pub halted : now.halted ≡ old.halted
  pub talk : now.talk ≡ old.talk

pub spot_amid : {p : Program} {net : Net} {n : ℕ} {v : Spots} {M N : Links} {s : Local} {hand : List Busy} {ahead : List Item} {z : ℕ → List SemRow} {remote : Remote} (now : Local) (more : List Busy) (t : Tid) (r : Spot)
    → StandsAmid p net n v M s hand ahead → Ties n v t r now more → IsBeside s now (z n) → IsSpot n t r v z → ((i j : ℕ) → LinkStands i j (N i j) (update v.threads t r)) → ((i j : ℕ) → turn_words N i j ≡ turn_words M i j)
    → StandsAmid p net n (spots_with (update v.threads t r) v.slots v.births z v.forests v.halts remote) N now more ahead
spot_amid {p} {net} {n} {v} {M} {N} {s} {ahead = ahead} now more t r o ties keeps spot links words = record {
  here = record {
    threads = ties.threads;
    busy = ties.busy;
    seekers = seekers_kept n v.threads t r o.here.seekers (ap (λ z. serving ahead ++ z.claims) keeps.talk) (spot.seeks n) (spot.rests n);
    forest = keeps.forest ∙ o.here.forest;
    births = keeps.births ∙ o.here.births;
    sems = keeps.sems;
    free = λ x. ap (λ (xs : List ℕ). has x xs) keeps.free ∙ o.here.free x;
    halted = keeps.halted ∙ o.here.halted;
  };
  there = λ k e. here_kept k v t r (net.nodes k) [] [] (o.there k e) (spot.frame k e) refl (spot.others k e) refl (λ x. refl) refl;
  links = links;
  turns = in_turn_kept net n s.talk now.talk M N ahead ahead o.turns keeps.talk words refl refl;
  agrees = agrees_queued p v t r v.halts o.agrees spot.phase spot.born spot.waits spot.holds spot.fits spot.queued (λ k e. e);
}

-- at home before and after
pub home_spot : {n : ℕ} {t : Tid} {v : Spots} {z : ℕ → List SemRow} (r : Spot) (a b : Stage) → (v.threads t).life ≡ On n a → r.life ≡ On n b → is_home a ≡ true → is_home b ≡ true
    → Keeps (held (v.threads t).life (v.threads t).guest) (held r.life r.guest) → AreQueued z (update v.threads t r) → ((k : ℕ) → eqb n k ≡ false → z k ≡ v.sems k) → IsSpot n t r v z
home_spot {n} {t} {v} r a b x y at_first then holds queues others =
    let old : Quiet (v.threads t).life = home_quiet n a (v.threads t).life x at_first in
    let new : Plain r.life = subst (λ l. Plain l) (sym y) (home_plain n b then) in
    record {
      frame = λ k e. frame_home n k t (v.threads t) r a b x y at_first then e;
      phase = ap phase_of y ∙ sym (ap phase_of x);
      born = old.born;
      waits = old.waits;
      holds = holds;
      fits = fits new;
      seeks = old.seeks;
      rests = new.seeks;
      queued = queues;
      others = others;
    }

-- ## A thread that is let go

-- node n answers it where it waits
abbrev pub woken_life : (n at : ℕ) → Life
woken_life n at = On at (answered_stage n at (replies.Value 0))

abbrev pub woken_spot : (n at : ℕ) → Spot → Spot
woken_spot n at s = record s { life = woken_life n at }

-- where that is node n itself, it waits for nothing more
abbrev pub roused : (here : Bool) → Tid → Guest → Local → Local
roused true u g s = record s { threads = set_value (is_tid u) s.threads (waits wait.No g) }
roused false u g s = s

pub others_same : (z : ℕ → List SemRow) (n : ℕ) (new : List SemRow) (k : ℕ) → eqb n k ≡ false → at_node z n new k ≡ z k
others_same z n new k e = rw e refl

-- the thread that waited first is let go
pub woken_amid : {p : Program} {net : Net} {n : ℕ} {v : Spots} {M : Links} {s : Local} {hand : List Busy} {ahead : List Item} {remote : Remote} (k at : ℕ) (u : Tid) (new : List SemRow)
    → StandsAmid p net n v M s hand ahead → IsShortened k (u, at) (v.sems n) new → All IsSemaphore new
    → StandsAmid p net n (spots_with (update v.threads u (woken_spot n at (v.threads u))) v.slots v.births (at_node v.sems n new) v.forests v.halts remote) M
    (roused (eqb n at) u (v.threads u).guest (record s { sems = new })) (busy u (woken_life n at) ∷ hand) ahead
woken_amid {p} {net} {n} {v} {M} {s} {hand} {ahead} {remote} k at u new o less all = by (eqb n at) refl
  where
    old : Spot
    old = v.threads u

    was : IsWaiting n k at old.life
    was = waiting_first n k u at (waiters_at k new) (queued o.agrees) less.was

    new_here : at_node v.sems n new n ≡ new
    new_here = rw (eq-eqb n n refl) refl

    by : (b : Bool) → eqb n at ≡ b
        → StandsAmid p net n (spots_with (update v.threads u (record old { life = On at (cond b (Due 0) (Answers n (replies.Value 0) None)) })) v.slots v.births (at_node v.sems n new) v.forests v.halts remote) M
        (roused b u old.guest (record s { sems = new })) (busy u (On at (cond b (Due 0) (Answers n (replies.Value 0) None))) ∷ hand) ahead
    by true e =
        let same : n ≡ at = eqb-true n at e in
        let x : old.life ≡ On n (Queues was.id) = was.life ∙ ap (λ i. On i (Queues was.id)) (sym same) in
        subst (λ i. StandsAmid p net n (spots_with (update v.threads u (record old { life = On i (Due 0) })) v.slots v.births (at_node v.sems n new) v.forests v.halts remote) M (roused true u old.guest (record s { sems = new })) (busy u (On i (Due 0)) ∷ hand) ahead) same
        (spot_amid _ (busy u (On n (Due 0)) ∷ hand) u (record old { life = On n (Due 0) }) o
        (record {
          threads = map_set is_tid is-true is-refl (thread_part n) v.threads u (record old { life = On n (Due 0) }) s.threads (waits wait.ForSemaphore old.guest) (waits wait.No old.guest) o.here.threads
              (thread_was n u old (Queues was.id) x ∙ (rw (eq-eqb (node_in was.id) n was.node) refl)) (thread_was n u (record old { life = On n (Due 0) }) (Due 0) refl);
          busy = fronted is_tid is-true is-refl busy_name (busy_part n) v.threads u (record old { life = On n (Due 0) }) hand (busy u (On n (Due 0))) o.here.busy refl (busy_none n u old (On n (Queues was.id)) x refl) (busy_was n u (record old { life = On n (Due 0) }) (On n (Due 0)) refl (eq-eqb n n refl));
        })
        (record { births = refl; forest = refl; sems = sym new_here; free = refl; halted = refl; talk = refl })
        (record {
          frame = λ j f. record {
            thread = away_thread n j u (record old { life = On n (Due 0) }) (Due 0) refl f ∙ sym (away_thread n j u old (Queues was.id) x f);
            busy = busy_none j u (record old { life = On n (Due 0) }) (On n (Due 0)) refl f ∙ sym (busy_none j u old (On n (Queues was.id)) x refl);
            seeker = both_idle j u old (record old { life = On n (Due 0) }) (ap (is_seeking j) x) refl;
          };
          phase = sym (ap phase_of x);
          born = λ f. absurd (cc (f, x));
          waits = λ w j f. absurd (cc (f, x));
          holds = keeps _ _ (sym (ap (λ l. held l old.guest) x));
          fits = fits (plain _ refl);
          seeks = λ j. ap (is_seeking j) x;
          rests = λ j. refl;
          queued = queued_less v.threads u (record old { life = On n (Due 0) }) n k at new (queued o.agrees) (λ h j. refl) less all;
          others = others_same v.sems n new;
        })
        (links_kept u (record old { life = On n (Due 0) }) v.threads M o.links (sym (ap (λ l. ways_of u l old.verdict old.guest) x))) (λ i j. refl))
    by false e =
        let x : old.life ≡ On at (Queues was.id) = was.life in
        let life : Life = On at (Answers n (replies.Value 0) None) in
        let r : Spot = record old { life = life } in
        spot_amid _ (busy u life ∷ hand) u r o
        (record {
          threads = map_kept is_tid is-true is-refl (thread_part n) v.threads u r s.threads o.here.threads (away_thread at n u r (Answers n (replies.Value 0) None) refl (off at e) ∙ sym (away_thread at n u old (Queues was.id) x (off at e)));
          busy = fronted is_tid is-true is-refl busy_name (busy_part n) v.threads u r hand (busy u life) o.here.busy refl (busy_none n u old (On at (Queues was.id)) x refl) (busy_was n u r life refl (eq-eqb n n refl));
        })
        (record { births = refl; forest = refl; sems = sym new_here; free = refl; halted = refl; talk = refl })
        (record {
          frame = λ j f. record {
            thread = sym (ap (λ l. thread_in_life j l old.guest) x ∙ ap (λ b. cond (eqb at j) (Some (waits (cond b wait.ForSemaphore wait.ForAnswer) old.guest)) None) (ap (λ i. eqb i j) was.node ∙ f));
            busy = busy_none j u r life refl f ∙ sym (busy_none j u old (On at (Queues was.id)) x refl);
            seeker = both_idle j u old r (ap (is_seeking j) x) refl;
          };
          phase = sym (ap phase_of x);
          born = λ f. absurd (cc (f, x));
          waits = λ w j f. absurd (cc (f, x));
          holds = keeps _ _ (sym (ap (λ l. held l old.guest) x));
          fits = fits (plain _ refl);
          seeks = λ j. ap (is_seeking j) x;
          rests = λ j. refl;
          queued = queued_less v.threads u r n k at new (queued o.agrees) (λ h j. refl) less all;
          others = others_same v.sems n new;
        })
        (links_kept u r v.threads M o.links (sym (ap (λ l. ways_of u l old.verdict old.guest) x))) (λ i j. refl)
      where
        off : (at : ℕ) → eqb n at ≡ false → eqb at n ≡ false
        off at e = elim (eqb at n) as (λ b. eqb at n ≡ b → b ≡ false) [ true ↦ λ f. (let one : at ≡ n = eqb-true at n f in absurd (cc (e, eq-eqb n at (sym one)))) | false ↦ λ f. refl ] refl
