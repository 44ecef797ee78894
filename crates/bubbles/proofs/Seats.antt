-- How often a thread stands on lists and in bubbles, as the forest changes.
use Rattle.std.proofs.Common.{◌≡◌, ℕ, zero, suc, ◌+◌, ◌≤◌, Bool, true, false, List, [], ◌∷◌, ◌++◌, length, Option, Some, None, cond, eqb, refl, sym, subst, ap, ◌∙◌, inl, inr, append-nil, append_assoc, length-append, arith}
use Rattle.std.specs.Prelude.{is_some, ◌⊎◌}
use Rattle.std.proofs.lemmas.Bool.{eqb-false}
use Rattle.slot_space.specs.declared.names.Tid.{Tid}
use Rattle.levels.specs.declared.entity.Entity.{Entity}
use Rattle.levels.specs.declared.entity.Entity.TheVariants.{Thread, Bubble}
use Rattle.levels.specs.declared.entity.Place.{Place}
use Rattle.levels.specs.Rows.{Row, is_entity, place_of, without}
use Rattle.levels.proofs.Lemmas.{is_same, is_itself, not_back, place_added_other, place_without_other}
use Rattle.bubbles.specs.declared.bubble.BubbleState.{BubbleState}
use Rattle.bubbles.specs.declared.bubble.BubbleState.TheVariants.{Filling, Held, Queued, Burst as IsBurst}
use Rattle.bubbles.specs.declared.bubble.BubbleRow.{BubbleRow}
use Rattle.bubbles.specs.Rows.{bubble_row, bubble_of, members_of, with_state, with_member, without_member, refilled, is_filling_as, is_filling, is_burst_as}
use Rattle.bubbles.specs.Forests.{ForestView, arrives, all_arrive, as_held, as_queued, taken_back, all_back, members_back, apart_from_others, holding, joined, with_bubble, wakes, wakes_if, wakes_filled, inserts, inserts_if, inserts_filled, gathers, gathers_if, filled_with}
use Rattle.bubbles.specs.Standing.{on, queued_as, queued, held, shows, count, inside, seats, fills, filled, IsMidst, IsForest, IsLoose, HoldsBack, IsHeldBack}
use Rattle.bubbles.specs.Picking.{bursting, burst, down}
use Rattle.bubbles.proofs.Counts.{place_added_same, place_without_same, inside_burst, inside_queue}
use Rattle.bubbles.proofs.Midst.{bubble_is_held}
use Rattle.bubbles.proofs.Arrive.{row_of, midst_thread, midst_bubble, midst_open}
use Rattle.bubbles.proofs.Ends.{requeue}
use Rattle.bubbles.proofs.Members.{count_joined, inside_member, inside_new, inside_hold}
use Rattle.bubbles.proofs.Calls.{filling_only, coming_bubble, joins, wakes_same, count_first}
use Rattle.bubbles.proofs.Leaving.{inside_other}
use Rattle.bubbles.proofs.Gathering.{IsBack, is_burst_row, burst_only, burst_left, forest_apart, one_back, on_one, inside_back, inside_refill, every_back}

-- how often a thread stands on a list, in a bubble that isn't burst, or among these
abbrev pub seats_with : Tid → List Entity → ForestView → ℕ
seats_with u coming w = on (place_of (Thread u) w.lists.rows) + (inside (Thread u) w.bubbles + count (Thread u) coming)

-- ## Arrivals

pub seats_arrive : (list : ℕ) (e : Entity) (es : List Entity) (w : ForestView) (u : Tid) → IsMidst (e ∷ es) w → seats_with u es (arrives list e w) ≡ seats_with u (e ∷ es) w
seats_arrive list (Thread t) es w u m =
    let y : Row = row_of list (Thread t) w in
    elim (is_entity (Thread t) (Thread u)) as (λ v. is_entity (Thread t) (Thread u) ≡ v
    → on (place_of (Thread u) w.lists.rows) + (inside (Thread u) w.bubbles + cond v (suc (count (Thread u) es)) (count (Thread u) es)) ≤ 1
    → on (place_of (Thread u) (w.lists.rows ++ y ∷ [])) + (inside (Thread u) w.bubbles + count (Thread u) es) ≡ on (place_of (Thread u) w.lists.rows) + (inside (Thread u) w.bubbles + cond v (suc (count (Thread u) es)) (count (Thread u) es))) [
      | true ↦ λ q h. omega (arith, place_added_same w.lists.rows y (Thread u) q, h)
      | false ↦ λ q h. ap (λ o. on o + (inside (Thread u) w.bubbles + count (Thread u) es)) (place_added_other w.lists.rows y (Thread u) q)
    ] refl (m.threads u)
seats_arrive list (Bubble c) es w u m =
    let y : Row = row_of list (Bubble c) w in
    let i = inside_queue w.bubbles c (Thread u) (bubble_is_held c es w m).0 in
    ap (λ o. on o + (inside (Thread u) (with_state c Queued w.bubbles) + count (Thread u) es)) (place_added_other w.lists.rows y (Thread u) refl)
    ∙ ap (λ n. on (place_of (Thread u) w.lists.rows) + (n + count (Thread u) es)) i

pub midst_arrives : (list : ℕ) (e : Entity) (es : List Entity) (w : ForestView) → IsMidst (e ∷ es) w → IsMidst es (arrives list e w)
midst_arrives list (Thread t) es w m = midst_thread list t es w m
midst_arrives list (Bubble c) es w m = midst_bubble list c es w m

pub seats_all : (list : ℕ) (es : List Entity) (w : ForestView) (u : Tid) → IsMidst es w → seats u (all_arrive list es w) ≡ seats_with u es w
seats_all list [] w u m = omega arith
seats_all list (e ∷ es) w u m = seats_all list es (arrives list e w) u (midst_arrives list e es w m) ∙ seats_arrive list e es w u m

-- ## Bubbles that move

pub seats_burst : (b list : ℕ) (w : ForestView) (u : Tid) → IsForest w → queued (bubble_of b w.bubbles) ≡ 1 → seats u (burst b list w).after ≡ seats u w
seats_burst b list w u m q =
    let i = inside_burst w.bubbles b (Thread u) q in
    let p : on (place_of (Thread u) (without (Bubble b) w.lists.rows)) ≡ on (place_of (Thread u) w.lists.rows) = ap on (place_without_other w.lists.rows (Bubble b) (Thread u) refl) in
    omega (arith, seats_all list (members_of (bubble_of b w.bubbles)) (bursting b w) u (midst_open b w m q), i, p)

pub seats_down : (b list : ℕ) (w : ForestView) (u : Tid) → queued (bubble_of b w.bubbles) ≡ 1 → seats u (down b list w).after ≡ seats u w
seats_down b list w u q =
    let rows = without (Bubble b) w.lists.rows in
    let i : inside (Thread u) (with_state b Queued w.bubbles) ≡ inside (Thread u) w.bubbles = ap (inside (Thread u)) (requeue w.bubbles b q) in
    let p : on (place_of (Thread u) (down b list w).after.lists.rows) ≡ on (place_of (Thread u) w.lists.rows) = ap on (place_added_other rows _ (Thread u) refl ∙ place_without_other w.lists.rows (Bubble b) (Thread u) refl) in
    omega (arith, i, p)

-- ## Members that are held again

seats_one_back : (b : ℕ) (e : Entity) (coming : List Entity) (w : ForestView) (u : Tid) → IsBack b coming w → is_some (place_of e w.lists.rows) ≡ true → seats_with u (coming ++ e ∷ []) (taken_back e w) ≡ seats_with u coming w
seats_one_back b (Thread t) coming w u k h =
    let rows = w.lists.rows in
    elim (is_entity (Thread t) (Thread u)) as (λ v. is_entity (Thread t) (Thread u) ≡ v → count (Thread u) (coming ++ Thread t ∷ []) ≡ count (Thread u) coming + cond v 1 0
    → on (place_of (Thread u) (without (Thread t) rows)) + (inside (Thread u) w.bubbles + count (Thread u) (coming ++ Thread t ∷ [])) ≡ on (place_of (Thread u) rows) + (inside (Thread u) w.bubbles + count (Thread u) coming)) [
      | true ↦ λ q n.
          let here : on (place_of (Thread u) rows) ≡ 1 = subst (λ e. on (place_of e rows) ≡ 1) (is_same (Thread t) (Thread u) q) (on_one (place_of (Thread t) rows) h) in
          let off : on (place_of (Thread u) (without (Thread t) rows)) ≡ 0 = subst (λ e. on (place_of e (without (Thread t) rows)) ≡ 0) (is_same (Thread t) (Thread u) q) (place_without_same rows (Thread t) k.midst.apart) in
          omega (arith, here, off, n)
      | false ↦ λ q n. let same : on (place_of (Thread u) (without (Thread t) rows)) ≡ on (place_of (Thread u) rows) = ap on (place_without_other rows (Thread t) (Thread u) q) in omega (arith, same, n)
    ] refl (count_joined (Thread u) coming (Thread t ∷ []))
seats_one_back b (Bubble c) coming w u k h =
    let rows = w.lists.rows in
    let q : queued (bubble_of c w.bubbles) ≡ 1 = sym (k.midst.queues c) ∙ on_one (place_of (Bubble c) rows) h in
    let same : on (place_of (Thread u) (without (Bubble c) rows)) ≡ on (place_of (Thread u) rows) = ap on (place_without_other rows (Bubble c) (Thread u) refl) in
    omega (arith, same, inside_back w.bubbles c (Thread u) q, count_joined (Thread u) coming (Bubble c ∷ []))

pub seats_back : (b : ℕ) (es coming : List Entity) (w : ForestView) (u : Tid) → IsBack b coming w → seats_with u (coming ++ (all_back es w).kept) (all_back es w).after ≡ seats_with u coming w
seats_back b [] coming w u k = ap (λ (xs : List Entity). seats_with u xs w) (append-nil coming)
seats_back b (e ∷ es) coming w u k = by_place (is_some (place_of e w.lists.rows)) refl (λ h. seats_back b es (coming ++ e ∷ []) (taken_back e w) u (one_back b e coming w k h)) (seats_back b es coming w u k)
  where
    by_place : (v : Bool) → is_some (place_of e w.lists.rows) ≡ v
        → (is_some (place_of e w.lists.rows) ≡ true → seats_with u ((coming ++ e ∷ []) ++ (all_back es (taken_back e w)).kept) (all_back es (taken_back e w)).after ≡ seats_with u (coming ++ e ∷ []) (taken_back e w))
        → seats_with u (coming ++ (all_back es w).kept) (all_back es w).after ≡ seats_with u coming w
        → seats_with u (coming ++ (all_back (e ∷ es) w).kept) (all_back (e ∷ es) w).after ≡ seats_with u coming w
    by_place true h on_list off_list =
        rw h (ap (λ (xs : List Entity). seats_with u xs (all_back es (taken_back e w)).after) (sym (append_assoc coming (e ∷ []) (all_back es (taken_back e w)).kept)) ∙ on_list h ∙ seats_one_back b e coming w u k h)
    by_place false h on_list off_list = rw h off_list

abbrev pub filled_again : ℕ → ForestView → ForestView
filled_again b w = (filled_with b (members_back b (apart_from_others b w))).after

apart_back : (b : ℕ) (w : ForestView) → IsForest w → is_burst_row (bubble_of b w.bubbles) ≡ true → IsBack b [] (apart_from_others b w)
apart_back b w m h = record { midst = forest_apart b w m (burst_only (bubble_of b w.bubbles) h).1; burst = burst_left (Bubble b) w.bubbles b ∙ h }

pub seats_filled : (b : ℕ) (w : ForestView) (u : Tid) → IsForest w → is_burst_row (bubble_of b w.bubbles) ≡ true → seats u (filled_again b w) ≡ seats u w
seats_filled b w u m h =
    let v = apart_from_others b w in
    let es = members_of (bubble_of b v.bubbles) in
    let g = members_back b v in
    let k = every_back b es [] v (apart_back b w m h) in
    omega (arith, inside_refill g.after.bubbles b g.kept (Thread u) k.burst, seats_back b es [] v u (apart_back b w m h), inside_other (Bubble b) (Thread u) w.bubbles refl)

-- ## Waking and inserting

inside_wake : (xs : List BubbleRow) (b : ℕ) (u : Entity) → is_filling (bubble_of b xs) ≡ true → inside u (with_state b Queued xs) ≡ inside u xs
inside_wake [] b u h = refl
inside_wake (x ∷ xs) zero u h = first x.state h
  where
    first : (s : BubbleState) → is_filling_as s ≡ true → count u x.members + inside u xs ≡ count u (shows s x.members) + inside u xs
    first Filling q = refl
    first Held q = absurd (cc q)
    first Queued q = absurd (cc q)
    first IsBurst q = absurd (cc q)
inside_wake (x ∷ xs) (suc b) u h = ap (λ n. count u (shows x.state x.members) + n) (inside_wake xs b u h)

pub seats_woken : (b : ℕ) (w : ForestView) (u : Tid) → is_filling (bubble_of b w.bubbles) ≡ true → seats u (arrives 0 (Bubble b) w) ≡ seats u w
seats_woken b w u h =
    let p : on (place_of (Thread u) (arrives 0 (Bubble b) w).lists.rows) ≡ on (place_of (Thread u) w.lists.rows) = ap on (place_added_other w.lists.rows (row_of 0 (Bubble b) w) (Thread u) refl) in
    omega (arith, p, inside_wake w.bubbles b (Thread u) h)

pub seats_inserted : (b c : ℕ) (w : ForestView) (u : Tid) → is_filling (bubble_of c w.bubbles) ≡ true → is_filling (bubble_of b (with_state c Held w.bubbles)) ≡ true → seats u (joined b (Bubble c) (holding c w)) ≡ seats u w
seats_inserted b c w u h k = omega (arith, inside_hold w.bubbles c (Thread u) h, inside_member (with_state c Held w.bubbles) b (Bubble c) (Thread u) k)

-- ## Held back

no_rows : (w : ForestView) (e : Entity) → w.lists.rows ≡ [] → on (place_of e w.lists.rows) ≡ 0
no_rows w e h = ap (λ (rows : List Row). on (place_of e rows)) h

-- where no bubble is queued a thread that is in one is in a bubble that is filled or held
found_inside : (t : Tid) (xs : List BubbleRow) → ((b : ℕ) → queued (bubble_of b xs) ≡ 0) → 1 ≤ inside (Thread t) xs → (b : ℕ) × (x : BubbleRow) × (bubble_of b xs ≡ Some x) × HoldsBack x.state × (1 ≤ count (Thread t) x.members)
found_inside t [] q h = absurd (omega (arith, h))
found_inside t (x ∷ xs) q h = first x.state refl (q 0) h (found_inside t xs (λ b. q (suc b)))
  where
    later : ((b : ℕ) × (y : BubbleRow) × (bubble_of b xs ≡ Some y) × HoldsBack y.state × (1 ≤ count (Thread t) y.members)) → (b : ℕ) × (y : BubbleRow) × (bubble_of b (x ∷ xs) ≡ Some y) × HoldsBack y.state × (1 ≤ count (Thread t) y.members)
    later k = (suc k.0, k.1, k.2, k.3, k.4)

    here : HoldsBack x.state → 1 ≤ count (Thread t) x.members + inside (Thread t) xs
        → (1 ≤ inside (Thread t) xs → (b : ℕ) × (y : BubbleRow) × (bubble_of b xs ≡ Some y) × HoldsBack y.state × (1 ≤ count (Thread t) y.members))
        → (b : ℕ) × (y : BubbleRow) × (bubble_of b (x ∷ xs) ≡ Some y) × HoldsBack y.state × (1 ≤ count (Thread t) y.members)
    here s n more = by_count (count (Thread t) x.members) refl n
      where
        by_count : (k : ℕ) → count (Thread t) x.members ≡ k → 1 ≤ k + inside (Thread t) xs → (b : ℕ) × (y : BubbleRow) × (bubble_of b (x ∷ xs) ≡ Some y) × HoldsBack y.state × (1 ≤ count (Thread t) y.members)
        by_count zero e n = later (more (omega (arith, n)))
        by_count (suc k) e n = (0, x, refl, s, omega (arith, e))

    first : (s : BubbleState) → x.state ≡ s → queued_as s ≡ 0 → 1 ≤ count (Thread t) (shows s x.members) + inside (Thread t) xs
        → (1 ≤ inside (Thread t) xs → (b : ℕ) × (y : BubbleRow) × (bubble_of b xs ≡ Some y) × HoldsBack y.state × (1 ≤ count (Thread t) y.members))
        → (b : ℕ) × (y : BubbleRow) × (bubble_of b (x ∷ xs) ≡ Some y) × HoldsBack y.state × (1 ≤ count (Thread t) y.members)
    first Filling e z n more = here (subst HoldsBack (sym e) tt) n more
    first Held e z n more = here (subst HoldsBack (sym e) tt) n more
    first Queued e z n more = absurd (omega (arith, z))
    first IsBurst e z n more = later (more (omega (arith, n)))

pub held_back : (t : Tid) (w : ForestView) → IsForest w → w.lists.rows ≡ [] → seats t w ≡ 1 → IsHeldBack t w
held_back t w m r h =
    let k = found_inside t w.bubbles (λ b. sym (m.queues b) ∙ no_rows w (Bubble b) r) (omega (arith, h, no_rows w (Thread t) r)) in
    record { number = k.0; bubble = k.1; is = k.2; holds = k.3; member = k.4 }
