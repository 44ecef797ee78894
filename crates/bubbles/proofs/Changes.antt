-- What calls and choices change of threads.
use Rattle.std.proofs.Common.{◌≡◌, ℕ, zero, suc, ◌+◌, ◌*◌, ◌<◌, ◌≤◌, Bool, true, false, List, [], ◌∷◌, ◌++◌, length, length-append, Option, Some, None, cond, refl, sym, subst, ap, ◌∙◌, inl, inr, arith}
use Rattle.std.specs.Prelude.{is_some, ◌⊎◌}
use Rattle.std.proofs.lemmas.Option.{slice_get_past}
use Rattle.slot_space.specs.declared.names.Tid.{Tid}
use Rattle.levels.specs.declared.entity.Entity.{Entity}
use Rattle.levels.specs.declared.entity.Entity.TheVariants.{Thread, Bubble}
use Rattle.levels.specs.declared.entity.Place.{Place}
use Rattle.levels.specs.Trees.{Tree, processors, next_towards}
use Rattle.levels.specs.Rows.{Row, is_entity, place_of, without}
use Rattle.levels.specs.Choice.{choice, has_ready}
use Rattle.levels.proofs.Lemmas.{is_itself, not_back, not_ready, place_added_other, place_without_other}
use Rattle.bubbles.specs.declared.bubble.BubbleState.{BubbleState}
use Rattle.bubbles.specs.declared.bubble.BubbleRow.{BubbleRow}
use Rattle.bubbles.specs.declared.bubble.KnownThread.{KnownThread}
use Rattle.bubbles.specs.declared.bubble.BubbleState.TheVariants.{Filling, Held, Queued, Burst as IsBurst}
use Rattle.bubbles.specs.declared.bubble.Shift.{Shift}
use Rattle.bubbles.specs.declared.bubble.Shift.TheVariants.{Down, Burst}
use Rattle.bubbles.specs.declared.bubble.Step.{Step}
use Rattle.bubbles.specs.declared.bubble.Step.TheVariants.{Empty, Takes, Shifts}
use Rattle.bubbles.specs.Rows.{bubble_row, bubble_of, members_of, thread_of, known_thread, last_list, picked_from, with_last, without_thread, without_member, first_out, with_state, is_filling}
use Rattle.bubbles.specs.Forests.{ForestView, empty_forest, arrives, all_arrive, joined, holding, with_bubble, wakes, inserts, enters, enters_at, with_thread, goes_on, gone, leaves, gathers, apart_from_others, members_back, off_list}
use Rattle.bubbles.specs.Standing.{on, queued, held, shows, count, inside, seats, IsForest, IsMidst, IsLoose}
use Rattle.bubbles.specs.Picking.{Stepped, step, step_by, chosen, bursts_at, takes, taken, burst, bursting, down, Picks}
use Rattle.bubbles.specs.Changes.{KeepsThreads, ChangesThread, IsTaken, PicksEnd}
use Rattle.bubbles.proofs.Weights.{below, weight, weight_as, weight_of}
use Rattle.bubbles.proofs.Counts.{place_added_same, place_without_same, total_most}
use Rattle.bubbles.proofs.Midst.{on_none, below_most}
use Rattle.bubbles.proofs.Arrive.{row_of, all_midst, midst_open}
use Rattle.bubbles.proofs.Known.{known_added, known_added_other, known_last, known_last_other, known_out, known_out_other}
use Rattle.bubbles.proofs.Ends.{tree_arrives}
use Rattle.bubbles.proofs.Picks.{forest_down}
use Rattle.bubbles.proofs.Members.{inside_member, inside_new}
use Rattle.bubbles.proofs.Calls.{coming_thread, forest_new, forest_wakes, forest_inserts, forest_enters, forest_goes_on}
use Rattle.bubbles.proofs.Leaving.{inside_other, forest_leaves}
use Rattle.bubbles.proofs.Gathering.{forest_gathers, on_one, nowhere_loose}
use Rattle.bubbles.proofs.Whole.{forest_takes, step_empty, IsUnderway, left, begun, falls, further}
use Rattle.bubbles.proofs.Kept.{length_state, length_member, length_left, length_refill, threads_arrive, count_arrive, tree_back, threads_back, count_back}
use Rattle.bubbles.proofs.Seats.{seats_with, seats_arrive, seats_burst, seats_down, filled_again, seats_filled, seats_woken, seats_inserted}
use Rattle.bubbles.proofs.Cases.{by_wake, by_insert, by_gather, by_step, still_filling}

-- ## Once or nowhere

pub seats_most : (t : Tid) (w : ForestView) → IsForest w → seats t w ≤ 1
seats_most t w m = omega (arith, m.threads t)

pub seats_listed : (t : Tid) (w : ForestView) → IsForest w → is_some (place_of (Thread t) w.lists.rows) ≡ true → seats t w ≡ 1
seats_listed t w m h = omega (arith, m.threads t, on_one (place_of (Thread t) w.lists.rows) h)

pub seats_unlisted : (t : Tid) (w : ForestView) → seats t w ≡ 0 → place_of (Thread t) w.lists.rows ≡ None
seats_unlisted t w z = on_none (place_of (Thread t) w.lists.rows) (omega (arith, z))

pub loose_away : (t : Tid) (w : ForestView) → seats t w ≡ 0 → IsLoose t w
loose_away t w z = λ b. nowhere_loose (Thread t) w.bubbles b (omega (arith, z))

pub loose_listed : (t : Tid) (w : ForestView) → IsForest w → is_some (place_of (Thread t) w.lists.rows) ≡ true → IsLoose t w
loose_listed t w m h = λ b. nowhere_loose (Thread t) w.bubbles b (omega (arith, m.threads t, on_one (place_of (Thread t) w.lists.rows) h))

-- ## Bubbles that are made, woken, inserted and gathered

pub keeps_new : (priority depth : ℕ) (w : ForestView) → IsForest w → KeepsThreads w (with_bubble priority depth w)
keeps_new priority depth w m = record {
  forest = forest_new priority depth w m;
  tree = refl;
  seats = λ u. omega (arith, inside_new w.bubbles (bubble_row Filling priority depth []) (Thread u) refl);
  threads = refl;
}

pub keeps_wakes : (b : ℕ) (w : ForestView) → IsForest w → KeepsThreads w (wakes b w).after
keeps_wakes b w m = record {
  forest = forest_wakes b w m;
  tree = by_wake (λ v. v.lists.tree ≡ w.lists.tree) b w refl (λ f. refl);
  seats = λ u. by_wake (λ v. seats u v ≡ seats u w) b w refl (λ f. seats_woken b w u f);
  threads = by_wake (λ v. v.threads ≡ w.threads) b w refl (λ f. refl);
}

pub places_wakes : (b : ℕ) (w : ForestView) (u : Tid) → place_of (Thread u) (wakes b w).after.lists.rows ≡ place_of (Thread u) w.lists.rows
places_wakes b w u = by_wake (λ v. place_of (Thread u) v.lists.rows ≡ place_of (Thread u) w.lists.rows) b w refl (λ f. place_added_other w.lists.rows (row_of 0 (Bubble b) w) (Thread u) refl)

pub keeps_inserts : (b c : ℕ) (w : ForestView) → IsForest w → KeepsThreads w (inserts b c w).after
keeps_inserts b c w m = record {
  forest = forest_inserts b c w m;
  tree = by_insert (λ v. v.lists.tree ≡ w.lists.tree) b c w refl (λ n f g. refl);
  seats = λ u. by_insert (λ v. seats u v ≡ seats u w) b c w refl (λ n f g. seats_inserted b c w u g (still_filling b c w n f));
  threads = by_insert (λ v. v.threads ≡ w.threads) b c w refl (λ n f g. refl);
}

pub lists_inserts : (b c : ℕ) (w : ForestView) → (inserts b c w).after.lists ≡ w.lists
lists_inserts b c w = by_insert (λ v. v.lists ≡ w.lists) b c w refl (λ n f g. refl)

pub keeps_gathers : (b : ℕ) (w : ForestView) → IsForest w → KeepsThreads w (gathers b w).after
keeps_gathers b w m =
    let v = apart_from_others b w in
    let es = members_of (bubble_of b v.bubbles) in
    record {
      forest = forest_gathers b w m;
      tree = by_gather (λ u. u.lists.tree ≡ w.lists.tree) b w refl (λ h. tree_back es v);
      seats = λ u. by_gather (λ v. seats u v ≡ seats u w) b w refl (λ h. seats_filled b w u m h);
      threads = by_gather (λ u. u.threads ≡ w.threads) b w refl (λ h. threads_back es v);
    }

pub count_new : (priority depth : ℕ) (w : ForestView) → length (with_bubble priority depth w).bubbles ≡ suc (length w.bubbles)
count_new priority depth w = omega (arith, length-append w.bubbles (bubble_row Filling priority depth [] ∷ []))

pub count_wakes : (b : ℕ) (w : ForestView) → length (wakes b w).after.bubbles ≡ length w.bubbles
count_wakes b w = by_wake (λ v. length v.bubbles ≡ length w.bubbles) b w refl (λ f. length_state w.bubbles b _)

pub count_inserts : (b c : ℕ) (w : ForestView) → length (inserts b c w).after.bubbles ≡ length w.bubbles
count_inserts b c w = by_insert (λ v. length v.bubbles ≡ length w.bubbles) b c w refl (λ n f g. length_member (with_state c Held w.bubbles) b _ ∙ length_state w.bubbles c _)

pub count_gathers : (b : ℕ) (w : ForestView) → length (gathers b w).after.bubbles ≡ length w.bubbles
count_gathers b w =
    let v = apart_from_others b w in
    let es = members_of (bubble_of b v.bubbles) in
    by_gather (λ u. length u.bubbles ≡ length w.bubbles) b w refl (λ h. length_refill (members_back b v).after.bubbles b _ ∙ count_back es v ∙ length_left w.bubbles (Bubble b))

pub bubble_beyond : (b : ℕ) (w : ForestView) → length w.bubbles ≤ b → bubble_of b w.bubbles ≡ None
bubble_beyond b w h = slice_get_past w.bubbles b h

-- ## Threads that come and go

pub known_enters : (t : Tid) (priority : ℕ) (bubble : Option ℕ) (w : ForestView) → thread_of t w.threads ≡ None → thread_of t (enters t priority bubble w).threads ≡ Some (known_thread t priority 0)
known_enters t priority None w n = known_added w.threads (known_thread t priority 0) n
known_enters t priority (Some b) w n =
    elim (is_filling (bubble_of b w.bubbles)) as (λ v. thread_of t (cond v (joined b (Thread t) (with_thread t priority w)) (arrives 0 (Thread t) (with_thread t priority w))).threads ≡ Some (known_thread t priority 0))
    [ true ↦ known_added w.threads (known_thread t priority 0) n | false ↦ known_added w.threads (known_thread t priority 0) n ]

-- it arrives on a list, or becomes a member of a Filling bubble
pub by_entry : (P : ForestView → Type 0) (t : Tid) (bubble : Option ℕ) (w : ForestView) → P (arrives 0 (Thread t) w) → ((b : ℕ) → is_filling (bubble_of b w.bubbles) ≡ true → P (joined b (Thread t) w)) → P (enters_at bubble t w)
by_entry P t None w listed member = listed
by_entry P t (Some b) w listed member =
    elim (is_filling (bubble_of b w.bubbles)) as (λ v. is_filling (bubble_of b w.bubbles) ≡ v → P (cond v (joined b (Thread t) w) (arrives 0 (Thread t) w))) [ true ↦ λ f. member b f | false ↦ λ f. listed ] refl

count_alone : (t : Tid) → count (Thread t) (Thread t ∷ []) ≡ 1
count_alone t = rw (is_itself (Thread t)) refl

count_apart : (t u : Tid) → is_entity (Thread u) (Thread t) ≡ false → count (Thread u) (Thread t ∷ []) ≡ 0
count_apart t u h = rw (not_back (Thread u) (Thread t) h) refl

arrive_own : (list : ℕ) (t : Tid) (w : ForestView) → seats t w ≡ 0 → seats t (arrives list (Thread t) w) ≡ 1
arrive_own list t w z = omega (arith, z, place_added_same w.lists.rows (row_of list (Thread t) w) (Thread t) (is_itself (Thread t)))

arrive_place : (list : ℕ) (t u : Tid) (w : ForestView) → is_entity (Thread u) (Thread t) ≡ false → place_of (Thread u) (arrives list (Thread t) w).lists.rows ≡ place_of (Thread u) w.lists.rows
arrive_place list t u w h = place_added_other w.lists.rows (row_of list (Thread t) w) (Thread u) (not_back (Thread u) (Thread t) h)

arrive_other : (list : ℕ) (t u : Tid) (w : ForestView) → is_entity (Thread u) (Thread t) ≡ false → seats u (arrives list (Thread t) w) ≡ seats u w
arrive_other list t u w h = ap (λ o. on o + inside (Thread u) w.bubbles) (arrive_place list t u w h)

pub thread_enters : (t : Tid) (priority : ℕ) (bubble : Option ℕ) (w : ForestView) → IsForest w → seats t w ≡ 0 → thread_of t w.threads ≡ None → ChangesThread t 1 w (enters t priority bubble w)
thread_enters t priority bubble w m z n =
    let v = with_thread t priority w in
    record {
      forest = forest_enters t priority bubble w m z n;
      tree = by_entry (λ x. x.lists.tree ≡ w.lists.tree) t bubble v refl (λ b f. refl);
      own = by_entry (λ x. seats t x ≡ 1) t bubble v (arrive_own 0 t v z) (λ b f. omega (arith, z, inside_member w.bubbles b (Thread t) (Thread t) f, count_alone t));
      others = λ u h. by_entry (λ x. seats u x ≡ seats u w) t bubble v (arrive_other 0 t u v h) (λ b f. omega (arith, inside_member w.bubbles b (Thread t) (Thread u) f, count_apart t u h));
      known = λ u h. by_entry (λ x. thread_of u x.threads ≡ thread_of u w.threads) t bubble v (known_added_other w.threads (known_thread t priority 0) u (not_back (Thread u) (Thread t) h)) (λ b f. known_added_other w.threads (known_thread t priority 0) u (not_back (Thread u) (Thread t) h));
      places = λ u h. by_entry (λ x. place_of (Thread u) x.lists.rows ≡ place_of (Thread u) w.lists.rows) t bubble v (arrive_place 0 t u v h) (λ b f. refl);
      count = by_entry (λ x. length x.bubbles ≡ length w.bubbles) t bubble v refl (λ b f. length_member w.bubbles b (Thread t));
    }

pub thread_goes_on : (t : Tid) (w : ForestView) → IsForest w → seats t w ≡ 0 → ChangesThread t 1 w (goes_on t w)
thread_goes_on t w m z =
    let list = last_list (thread_of t w.threads) in
    record {
      forest = forest_goes_on t w m z;
      tree = refl;
      own = arrive_own list t w z;
      others = λ u h. arrive_other list t u w h;
      known = λ u h. refl;
      places = λ u h. arrive_place list t u w h;
      count = refl;
    }

one_listed : (o : Option Place) → on o ≡ 1 → is_some o ≡ true
one_listed None h = absurd (omega (arith, h))
one_listed (Some x) h = refl

pub listed_goes_on : (t : Tid) (w : ForestView) → is_some (place_of (Thread t) (goes_on t w).lists.rows) ≡ true
listed_goes_on t w = one_listed _ (place_added_same w.lists.rows (row_of (last_list (thread_of t w.threads)) (Thread t) w) (Thread t) (is_itself (Thread t)))

pub leaves_unknown : (t : Tid) (w : ForestView) → thread_of t w.threads ≡ None → leaves t w ≡ w
leaves_unknown t w n = rw n refl

pub known_leaves : (t : Tid) (w : ForestView) → IsForest w → thread_of t (leaves t w).threads ≡ None
known_leaves t w m = by_known (thread_of t w.threads) refl
  where
    by_known : (o : Option KnownThread) → thread_of t w.threads ≡ o → thread_of t (cond (is_some o) (gone t w) w).threads ≡ None
    by_known None e = e
    by_known (Some x) e = known_out w.threads t m.names

-- who is a member once leaves
pub count_out : (e : Entity) (xs : List Entity) → count e xs ≤ 1 → count e (first_out (λ m. is_entity m e) xs) ≡ 0
count_out e [] h = refl
count_out e (x ∷ xs) h =
    elim (is_entity x e) as (λ v. is_entity x e ≡ v → cond v (suc (count e xs)) (count e xs) ≤ 1 → count e (cond v xs (x ∷ first_out (λ m. is_entity m e) xs)) ≡ 0)
    [ true ↦ λ q k. omega (arith, k) | false ↦ λ q k. rw q (count_out e xs k) ] refl h

inside_out : (e : Entity) (xs : List BubbleRow) → inside e xs ≤ 1 → inside e (without_member e xs) ≡ 0
inside_out e [] h = refl
inside_out e (x ∷ xs) h = omega (arith, first x.state (omega (arith, h)), inside_out e xs (omega (arith, h)))
  where
    first : (s : BubbleState) → count e (shows s x.members) ≤ 1 → count e (shows s (first_out (λ m. is_entity m e) x.members)) ≡ 0
    first Filling k = count_out e x.members k
    first Held k = count_out e x.members k
    first Queued k = count_out e x.members k
    first IsBurst k = refl

thread_gone : (t : Tid) (w : ForestView) → IsForest w → IsForest (gone t w) → ChangesThread t 0 w (gone t w)
thread_gone t w m g = record {
  forest = g;
  tree = refl;
  own = omega (arith, place_without_same w.lists.rows (Thread t) m.apart, inside_out (Thread t) w.bubbles (omega (arith, m.threads t)));
  others = λ u h.
      let p : on (place_of (Thread u) (without (Thread t) w.lists.rows)) ≡ on (place_of (Thread u) w.lists.rows) = ap on (place_without_other w.lists.rows (Thread t) (Thread u) (not_back (Thread u) (Thread t) h)) in
      omega (arith, p, inside_other (Thread t) (Thread u) w.bubbles (not_back (Thread u) (Thread t) h));
  known = λ u h. known_out_other w.threads t u (not_back (Thread u) (Thread t) h);
  places = λ u h. place_without_other w.lists.rows (Thread t) (Thread u) (not_back (Thread u) (Thread t) h);
  count = length_left w.bubbles (Thread t);
}

pub thread_leaves : (t : Tid) (w : ForestView) → IsForest w → IsLoose t w → is_some (thread_of t w.threads) ≡ true → ChangesThread t 0 w (leaves t w)
thread_leaves t w m k h =
    let e : leaves t w ≡ gone t w = rw h refl in
    subst (ChangesThread t 0 w) (sym e) (thread_gone t w m (subst IsForest e (forest_leaves t w m k)))

-- ## One choice

pub step_none : (vp : ℕ) (w : ForestView) → has_ready w.lists.tree vp w.lists.rows ≡ false → ((step vp w).what ≡ Empty) × ((step vp w).after ≡ w)
unfolding step
step_none vp w h = let n = not_ready w.lists.tree vp w.lists.rows h in rw n (refl, refl)

pub step_found : (vp : ℕ) (w : ForestView) → has_ready w.lists.tree vp w.lists.rows ≡ true → (step vp w).what ≡ Empty → ⊥
step_found vp w h e = let n = (step_empty vp w e).0 in cc (n, h)

-- a choice finds nothing, takes a thread, or moves a bubble
pub by_kind : (P : Stepped → Type 0) (vp : ℕ) (w : ForestView) → P (record { what = Empty; after = w }) → ((t : Tid) (list : ℕ) → P (takes t list w)) → ((b list : ℕ) → P (burst b list w)) → ((b list : ℕ) → P (down b list w)) → P (step vp w)
unfolding step
by_kind P vp w none thread bursts goes = by_best (choice w.lists.tree vp w.lists.rows)
  where
    by_entity : (x : Place) (e : Entity) → P (chosen vp w x.list e)
    by_entity x (Thread t) = thread t x.list
    by_entity x (Bubble b) = elim (bursts_at w.lists.tree x.list (bubble_of b w.bubbles)) as (λ v. P (cond v (burst b x.list w) (down b (next_towards w.lists.tree x.list vp) w))) [ true ↦ bursts b x.list | false ↦ goes b (next_towards w.lists.tree x.list vp) ]

    by_best : (o : Option (Place × Entity)) → P (step_by vp w o)
    by_best None = none
    by_best (Some r) = by_entity r.0 r.1

abbrev after_down : ForestView → Step → ForestView
after_down w (Shifts (Down b list)) = (down b list w).after
after_down w _ = w

abbrev after_burst : ForestView → Step → ForestView
after_burst w (Shifts (Burst b list)) = (burst b list w).after
after_burst w _ = w

pub step_down : (vp b list : ℕ) (w : ForestView) → (step vp w).what ≡ Shifts (Down b list) → (step vp w).after ≡ (down b list w).after
step_down vp b list w h =
    by_kind (λ s. s.what ≡ Shifts (Down b list) → s.after ≡ (down b list w).after) vp w (λ q. absurd (cc q)) (λ t l q. absurd (cc q)) (λ c l q. absurd (cc (ap shift_in q))) (λ c l q. ap (after_down w) q) h
  where
    shift_in : Step → Shift
    shift_in (Shifts m) = m
    shift_in _ = Down 0 0

pub step_burst : (vp b list : ℕ) (w : ForestView) → (step vp w).what ≡ Shifts (Burst b list) → (step vp w).after ≡ (burst b list w).after
step_burst vp b list w h =
    by_kind (λ s. s.what ≡ Shifts (Burst b list) → s.after ≡ (burst b list w).after) vp w (λ q. absurd (cc q)) (λ t l q. absurd (cc q)) (λ c l q. ap (after_burst w) q) (λ c l q. absurd (cc (ap shift_in q))) h
  where
    shift_in : Step → Shift
    shift_in (Shifts m) = m
    shift_in _ = Down 0 0

pub count_step : (vp : ℕ) (w : ForestView) → length (step vp w).after.bubbles ≡ length w.bubbles
count_step vp w =
    by_kind (λ s. length s.after.bubbles ≡ length w.bubbles) vp w refl (λ t list. refl)
    (λ b list. count_arrive list (members_of (bubble_of b w.bubbles)) (bursting b w) ∙ length_state w.bubbles b IsBurst)
    (λ b list. length_state w.bubbles b Queued)

-- ## A thread is taken

thread_taken : (t : Tid) (list : ℕ) (w : ForestView) → IsForest w → is_some (place_of (Thread t) w.lists.rows) ≡ true → ChangesThread t 0 w (takes t list w).after
thread_taken t list w m h = record {
  forest = forest_takes t list w m;
  tree = refl;
  own = omega (arith, place_without_same w.lists.rows (Thread t) m.apart, m.threads t, on_one (place_of (Thread t) w.lists.rows) h);
  others = λ u k. ap (λ o. on o + inside (Thread u) w.bubbles) (place_without_other w.lists.rows (Thread t) (Thread u) (not_back (Thread u) (Thread t) k));
  known = λ u k. known_last_other w.threads t u list (not_back (Thread u) (Thread t) k);
  places = λ u k. place_without_other w.lists.rows (Thread t) (Thread u) (not_back (Thread u) (Thread t) k);
  count = refl;
}

pub step_taken : (vp : ℕ) (t : Tid) (w : ForestView) → IsForest w → (step vp w).what ≡ Takes t → IsTaken vp t w
step_taken vp t w m h =
    let k = by_step (λ s. s.what ≡ Takes t → (list : ℕ) × (is_some (place_of (Thread t) w.lists.rows) ≡ true) × (s.after ≡ (takes t list w).after)) vp w m
    (λ n q. absurd (cc q))
    (λ u x f q. let e : u ≡ t = ap name q in (x.list, subst (λ a. is_some (place_of (Thread a) w.lists.rows) ≡ true) e (ap is_some f), ap (λ a. (takes a x.list w).after) e))
    (λ b x f q. absurd (cc q))
    (λ b list x f q. absurd (cc q)) h in
    record {
      listed = k.1;
      before = seats_listed t w m k.1;
      list = k.0;
      after = k.2;
      change = subst (ChangesThread t 0 w) (sym k.2) (thread_taken t k.0 w m k.1);
      known = ap (λ v. thread_of t v.threads) k.2 ∙ known_last w.threads t k.0;
    }
  where
    name : Step → Tid
    name (Takes u) = u
    name _ = t

-- ## A bubble moves

keeps_down : (b list : ℕ) (x : Place) (w : ForestView) → IsForest w → place_of (Bubble b) w.lists.rows ≡ Some x → KeepsThreads w (down b list w).after
keeps_down b list x w m f = record { forest = forest_down b list x w m f; tree = refl; seats = λ u. seats_down b list w u (sym (m.queues b) ∙ ap on f); threads = refl }

keeps_burst : (b : ℕ) (x : Place) (w : ForestView) → IsForest w → place_of (Bubble b) w.lists.rows ≡ Some x → KeepsThreads w (burst b x.list w).after
keeps_burst b x w m f =
    let q : queued (bubble_of b w.bubbles) ≡ 1 = sym (m.queues b) ∙ ap on f in
    let es = members_of (bubble_of b w.bubbles) in
    record {
      forest = all_midst x.list es (bursting b w) (midst_open b w m q);
      tree = tree_arrives x.list es (bursting b w);
      seats = λ u. seats_burst b x.list w u m q;
      threads = threads_arrive x.list es (bursting b w);
    }

pub keeps_shift : (vp : ℕ) (w : ForestView) (s : Shift) → IsForest w → (step vp w).what ≡ Shifts s → KeepsThreads w (step vp w).after
keeps_shift vp w s m h =
    by_step (λ d. d.what ≡ Shifts s → KeepsThreads w d.after) vp w m (λ n q. absurd (cc q)) (λ t x f q. absurd (cc q)) (λ b x f q. keeps_burst b x w m f) (λ b list x f q. keeps_down b list x w m f) h

-- ## A pick

-- what is still to come of a pick
record ComesTo (vp : ℕ) (old w : ForestView) : Type 0 where
  moves : List Shift
  thread : Tid
  after : ForestView
  picks : Picks vp w moves (Some thread) after
  few : length moves ≤ left old w

comes_to : (k vp : ℕ) (old w : ForestView) (moves : List Shift) → vp < processors old.lists.tree → has_ready old.lists.tree vp old.lists.rows ≡ true → IsUnderway vp old moves w → left old w ≤ k → ComesTo vp old w
comes_to zero vp old w moves p h u l = by_what (step vp w).what refl
  where
    by_what : (s : Step) → (step vp w).what ≡ s → ComesTo vp old w
    by_what Empty e = absurd (step_found vp w (u.ready ∙ h) e)
    by_what (Takes t) e = record { moves = []; thread = t; after = (step vp w).after; picks = (e, refl); few = omega arith }
    by_what (Shifts s) e = absurd (omega (arith, falls vp old w moves s u p e, l))
comes_to (suc k) vp old w moves p h u l = by_what (step vp w).what refl (λ s b e. comes_to k vp old (step vp w).after (moves ++ s ∷ []) p h (further vp old w moves s u p e) b)
  where
    by_what : (s : Step) → (step vp w).what ≡ s → ((s : Shift) → left old (step vp w).after ≤ k → (step vp w).what ≡ Shifts s → ComesTo vp old (step vp w).after) → ComesTo vp old w
    by_what Empty e more = absurd (step_found vp w (u.ready ∙ h) e)
    by_what (Takes t) e more = record { moves = []; thread = t; after = (step vp w).after; picks = (e, refl); few = omega arith }
    by_what (Shifts s) e more =
        let f = falls vp old w moves s u p e in
        let r = more s (omega (arith, f, l)) e in
        record { moves = s ∷ r.moves; thread = r.thread; after = r.after; picks = (e, r.picks); few = omega (arith, f, r.few) }

weight_most : (d : ℕ) (o : Option BubbleRow) → d ≤ 3 → weight d o ≤ 3
weight_most d None h = omega arith
weight_most d (Some x) h = first x.state
  where
    first : (s : BubbleState) → weight_as d s ≤ 3
    first Filling = omega arith
    first Held = omega arith
    first Queued = h
    first IsBurst = omega arith

pub picks_end : (vp : ℕ) (w : ForestView) → IsForest w → vp < processors w.lists.tree → has_ready w.lists.tree vp w.lists.rows ≡ true → PicksEnd vp w
picks_end vp w m p h =
    let r = comes_to (left w w) vp w w [] p h (begun vp w m) (omega arith) in
    let most : left w w ≤ 3 * length w.bubbles = total_most (length w.bubbles) 3 (weight_of w) (λ b. weight_most (below w.lists.tree (place_of (Bubble b) w.lists.rows)) (bubble_of b w.bubbles) (below_most w.lists.tree (place_of (Bubble b) w.lists.rows))) in
    record { moves = r.moves; thread = r.thread; after = r.after; picks = r.picks; few = omega (arith, r.few, most) }

abbrev taken_thread : Step → Option Tid
taken_thread (Takes t) = Some t
taken_thread _ = None

taken_back_out : (o : Option Tid) → taken_thread (taken o) ≡ o
taken_back_out None = refl
taken_back_out (Some t) = refl

no_shift : (o : Option Tid) (s : Shift) → taken o ≡ Shifts s → ⊥
no_shift None s h = cc h
no_shift (Some t) s h = cc h

pub picks_one : (vp : ℕ) (w v u : ForestView) (ms ns : List Shift) (a b : Option Tid) → Picks vp w ms a v → Picks vp w ns b u → (ms ≡ ns) × (a ≡ b) × (v ≡ u)
picks_one vp w v u [] [] a b p q = (refl, sym (taken_back_out a) ∙ ap taken_thread (sym p.0 ∙ q.0) ∙ taken_back_out b, sym p.1 ∙ q.1)
picks_one vp w v u [] (n ∷ ns) a b p q = absurd (no_shift a n (sym p.0 ∙ q.0))
picks_one vp w v u (m ∷ ms) [] a b p q = absurd (no_shift b m (sym q.0 ∙ p.0))
picks_one vp w v u (m ∷ ms) (n ∷ ns) a b p q =
    let r = picks_one vp (step vp w).after v u ms ns a b p.1 q.1 in
    let e : m ≡ n = ap shift_in (sym p.0 ∙ q.0) in
    (ap (λ x. x ∷ ms) e ∙ ap (λ (xs : List Shift). n ∷ xs) r.0, r.1, r.2)
  where
    shift_in : Step → Shift
    shift_in (Shifts s) = s
    shift_in _ = m

-- ## Who is on a list stays there where a bubble moves

listed_more : (rows : List Row) (y : Row) (e : Entity) → is_some (place_of e rows) ≡ true → is_some (place_of e (rows ++ y ∷ [])) ≡ true
listed_more [] y e h = absurd (cc h)
listed_more (row ∷ rows) y e h =
    elim (is_entity row.0 e) as (λ v. is_some (cond v (Some row.1) (place_of e rows)) ≡ true → is_some (cond v (Some row.1) (place_of e (rows ++ y ∷ []))) ≡ true)
    [ true ↦ λ q. refl | false ↦ λ q. listed_more rows y e q ] h

listed_all : (list : ℕ) (es : List Entity) (w : ForestView) (u : Tid) → is_some (place_of (Thread u) w.lists.rows) ≡ true → is_some (place_of (Thread u) (all_arrive list es w).lists.rows) ≡ true
listed_all list [] w u h = h
listed_all list (e ∷ es) w u h = listed_all list es (arrives list e w) u (listed_more w.lists.rows (row_of list e w) (Thread u) h)

pub listed_shift : (vp : ℕ) (w : ForestView) (m : Shift) → (step vp w).what ≡ Shifts m → (u : Tid) → is_some (place_of (Thread u) w.lists.rows) ≡ true → is_some (place_of (Thread u) (step vp w).after.lists.rows) ≡ true
listed_shift vp w m h u l =
    let off : (b : ℕ) → is_some (place_of (Thread u) (without (Bubble b) w.lists.rows)) ≡ true = λ b. ap is_some (place_without_other w.lists.rows (Bubble b) (Thread u) refl) ∙ l in
    by_kind (λ s. s.what ≡ Shifts m → is_some (place_of (Thread u) s.after.lists.rows) ≡ true) vp w (λ q. l) (λ t list q. absurd (cc q))
    (λ b list q. listed_all list (members_of (bubble_of b w.bubbles)) (bursting b w) u (off b))
    (λ b list q. listed_more (without (Bubble b) w.lists.rows) (row_of list (Bubble b) (off_list (Bubble b) w)) (Thread u) (off b)) h
