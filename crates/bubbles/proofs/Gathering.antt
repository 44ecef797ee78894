-- A bubble is filled again.
use Rattle.std.proofs.Common.{◌≡◌, ℕ, zero, suc, ◌+◌, ◌<◌, ◌≤◌, Bool, true, false, List, [], ◌∷◌, ◌++◌, length, get_or, drop, Option, Some, None, cond, refl, sym, subst, ap, ◌∙◌, inl, inr, append_assoc, append-nil, arith}
use Rattle.std.specs.Prelude.{is_some, slice_get, slice_set, ◌⊎◌}
use Rattle.slot_space.specs.declared.names.Tid.{Tid}
use Rattle.levels.specs.declared.entity.Entity.{Entity}
use Rattle.levels.specs.declared.entity.Entity.TheVariants.{Thread, Bubble}
use Rattle.levels.specs.declared.entity.Place.{Place}
use Rattle.levels.specs.Rows.{is_entity, place_of, without}
use Rattle.levels.proofs.Lemmas.{is_same, place_without_other, apart_without}
use Rattle.bubbles.specs.declared.bubble.BubbleState.{BubbleState}
use Rattle.bubbles.specs.declared.bubble.BubbleState.TheVariants.{Filling, Held, Queued, Burst as IsBurst}
use Rattle.bubbles.specs.declared.bubble.BubbleRow.{BubbleRow}
use Rattle.bubbles.specs.Rows.{bubble_row, bubble_of, members_of, with_state, without_member, refilled, is_burst_as}
use Rattle.bubbles.specs.Forests.{ForestView, Gathered, as_held, taken_back, all_back, members_back, apart_from_others, gathers, gathers_if}
use Rattle.bubbles.specs.Standing.{on, queued_as, held_as, queued, held, shows, count, inside, fills, filled, IsMidst, IsForest}
use Rattle.bubbles.proofs.Counts.{place_without_same, state_other, state_same, in_state}
use Rattle.bubbles.proofs.Midst.{bubbles_differ, queued_not_held, count_self, count_other}
use Rattle.bubbles.proofs.Members.{count_joined}
use Rattle.bubbles.proofs.Updates.{members_state, drop_get, drop_none, drop_past, drop_all}
use Rattle.bubbles.proofs.Arrive.{by_number}
use Rattle.bubbles.proofs.Leaving.{inside_less, inside_other, queued_left, held_left, filled_left}

-- ## What the code writes

pub refill_set : (xs : List BubbleRow) (b : ℕ) (es : List Entity) (d : BubbleRow) → b < length xs → slice_set xs b (bubble_row Filling (get_or xs b d).priority (get_or xs b d).depth es) ≡ refilled b es xs
refill_set [] b es d l = absurd (omega arith)
refill_set (x ∷ xs) zero es d l = refl
refill_set (x ∷ xs) (suc b) es d l = ap (λ ys. x ∷ ys) (refill_set xs b es d (omega arith))

pub refill_beyond : (xs : List BubbleRow) (b : ℕ) (es : List Entity) → length xs ≤ b → refilled b es xs ≡ xs
refill_beyond [] b es l = refl
refill_beyond (x ∷ xs) zero es l = absurd (omega arith)
refill_beyond (x ∷ xs) (suc b) es l = ap (λ ys. x ∷ ys) (refill_beyond xs b es (omega arith))

-- ## Members one after another

-- those that were kept before, and what these are kept of
abbrev pub back_with : List Entity → List Entity → ForestView → Gathered
back_with kept es w = record { kept = kept ++ (all_back es w).kept; after = (all_back es w).after }

pub members_held : (e : Entity) (xs : List BubbleRow) (b : ℕ) → members_of (bubble_of b (as_held e xs)) ≡ members_of (bubble_of b xs)
members_held (Thread t) xs b = refl
members_held (Bubble c) xs b = members_state xs c b _

pub back_kept : (kept es : List Entity) (e : Entity) (w : ForestView) → is_some (place_of e w.lists.rows) ≡ true → back_with (kept ++ e ∷ []) es (taken_back e w) ≡ back_with kept (e ∷ es) w
back_kept kept es e w h = rw h (ap (λ (ks : List Entity). record { kept = ks; after = (all_back es (taken_back e w)).after }) (append_assoc kept (e ∷ []) (all_back es (taken_back e w)).kept))

pub back_passed : (kept es : List Entity) (e : Entity) (w : ForestView) → is_some (place_of e w.lists.rows) ≡ false → back_with kept es w ≡ back_with kept (e ∷ es) w
back_passed kept es e w h = rw h refl

pub back_next : (kept ms : List Entity) (i : ℕ) (e : Entity) (w : ForestView) → slice_get ms i ≡ Some e → back_with kept (e ∷ drop (suc i) ms) w ≡ back_with kept (drop i ms) w
back_next kept ms i e w g = ap (λ (es : List Entity). back_with kept es w) (sym (drop_get ms i e g))

pub back_skipped : (kept ms : List Entity) (i : ℕ) (w : ForestView) → slice_get ms i ≡ None → back_with kept (drop (suc i) ms) w ≡ back_with kept (drop i ms) w
back_skipped kept ms i w g = ap (λ (es : List Entity). back_with kept es w) (drop_past ms i g ∙ sym (drop_none ms i g))

pub back_done : (kept ms : List Entity) (i : ℕ) (w : ForestView) → length ms ≤ i → back_with kept (drop i ms) w ≡ record { kept = kept; after = w }
back_done kept ms i w l = ap (λ (es : List Entity). back_with kept es w) (drop_all ms i l) ∙ ap (λ (ks : List Entity). record { kept = ks; after = w }) (append-nil kept)

-- ## The forest is kept

-- a bubble that isn't Held is a member of Burst ones alone
pub nowhere_loose : (e : Entity) (xs : List BubbleRow) (b : ℕ) → inside e xs ≡ 0 → (held (bubble_of b xs) + queued (bubble_of b xs) ≡ 0) ⊎ (count e (members_of (bubble_of b xs)) ≡ 0)
nowhere_loose e [] b z = inl refl
nowhere_loose e (x ∷ xs) zero z = first x.state (omega (arith, z))
  where
    first : (s : BubbleState) → count e (shows s x.members) ≡ 0 → (held_as s + queued_as s ≡ 0) ⊎ (count e x.members ≡ 0)
    first Filling q = inl refl
    first Held q = inr q
    first Queued q = inr q
    first IsBurst q = inl refl
nowhere_loose e (x ∷ xs) (suc b) z = nowhere_loose e xs b (omega (arith, z))

pub forest_apart : (b : ℕ) (w : ForestView) → IsForest w → held (bubble_of b w.bubbles) ≡ 0 → IsForest (apart_from_others b w)
forest_apart b w m z =
    let nowhere : inside (Bubble b) w.bubbles ≡ 0 = omega (arith, m.holds b, z) in
    record {
      apart = m.apart;
      queues = λ a. m.queues a ∙ sym (queued_left (Bubble b) w.bubbles a);
      holds = λ a. by_number (λ (a : ℕ). inside (Bubble a) (without_member (Bubble b) w.bubbles) + 0 ≡ held (bubble_of a (without_member (Bubble b) w.bubbles))) b a
          (omega (arith, inside_less (Bubble b) (Bubble b) w.bubbles, nowhere, held_left (Bubble b) w.bubbles b, z))
          (λ n. omega (arith, inside_other (Bubble b) (Bubble a) w.bubbles (bubbles_differ b a n), held_left (Bubble b) w.bubbles a, m.holds a));
      fills_up = λ a. filled_left (Bubble b) w.bubbles a (nowhere_loose (Bubble b) w.bubbles a nowhere) (m.fills_up a);
      threads = λ t. omega (arith, inside_other (Bubble b) (Thread t) w.bubbles refl, m.threads t);
      names = m.names;
    }

abbrev pub is_burst_row : Option BubbleRow → Bool
is_burst_row None = false
is_burst_row (Some x) = is_burst_as x.state

pub burst_only : (o : Option BubbleRow) → is_burst_row o ≡ true → (queued o ≡ 0) × (held o ≡ 0)
burst_only None h = (refl, refl)
burst_only (Some x) h = first x.state h
  where
    first : (s : BubbleState) → is_burst_as s ≡ true → (queued_as s ≡ 0) × (held_as s ≡ 0)
    first Filling q = absurd (cc q)
    first Held q = absurd (cc q)
    first Queued q = absurd (cc q)
    first IsBurst q = (refl, refl)

pub burst_left : (e : Entity) (xs : List BubbleRow) (b : ℕ) → is_burst_row (bubble_of b (without_member e xs)) ≡ is_burst_row (bubble_of b xs)
burst_left e [] b = refl
burst_left e (x ∷ xs) zero = refl
burst_left e (x ∷ xs) (suc b) = burst_left e xs b

pub on_one : (o : Option Place) → is_some o ≡ true → on o ≡ 1
on_one None h = absurd (cc h)
on_one (Some x) h = refl

-- a Queued bubble that is held keeps its members
pub inside_back : (xs : List BubbleRow) (c : ℕ) (u : Entity) → queued (bubble_of c xs) ≡ 1 → inside u (with_state c Held xs) ≡ inside u xs
inside_back [] c u h = refl
inside_back (x ∷ xs) zero u h = first x.state h
  where
    first : (s : BubbleState) → queued_as s ≡ 1 → count u x.members + inside u xs ≡ count u (shows s x.members) + inside u xs
    first Filling q = absurd (omega arith)
    first Held q = absurd (omega arith)
    first Queued q = refl
    first IsBurst q = absurd (omega arith)
inside_back (x ∷ xs) (suc c) u h = ap (λ n. count u (shows x.state x.members) + n) (inside_back xs c u h)

held_back : (o : Option BubbleRow) → queued o ≡ 1 → (queued (in_state Held o) ≡ 0) × (held (in_state Held o) ≡ 1)
held_back None h = absurd (omega arith)
held_back (Some x) h = (refl, refl)

filled_back : (o : Option BubbleRow) → queued o ≡ 1 → 1 ≤ filled o → 1 ≤ filled (in_state Held o)
filled_back None h f = f
filled_back (Some x) h f = first x.state h f
  where
    first : (s : BubbleState) → queued_as s ≡ 1 → 1 ≤ fills s x.members → 1 ≤ length x.members
    first Filling q f = absurd (omega arith)
    first Held q f = f
    first Queued q f = f
    first IsBurst q f = absurd (omega arith)

thread_back : (t : Tid) (es : List Entity) (w : ForestView) → IsMidst es w → on (place_of (Thread t) w.lists.rows) ≡ 1 → IsMidst (es ++ Thread t ∷ []) (taken_back (Thread t) w)
thread_back t es w m z = record {
  apart = apart_without w.lists.rows (Thread t) m.apart;
  queues = λ b. ap on (place_without_other w.lists.rows (Thread t) (Bubble b) refl) ∙ m.queues b;
  holds = λ b. omega (arith, count_joined (Bubble b) es (Thread t ∷ []), m.holds b);
  fills_up = m.fills_up;
  threads = λ u. elim (is_entity (Thread t) (Thread u)) as (λ c. is_entity (Thread t) (Thread u) ≡ c → count (Thread u) (es ++ Thread t ∷ []) ≡ count (Thread u) es + cond c 1 0 → on (place_of (Thread u) (without (Thread t) w.lists.rows)) + (inside (Thread u) w.bubbles + count (Thread u) (es ++ Thread t ∷ [])) ≤ 1) [
    | true ↦ λ q k.
        let here : on (place_of (Thread u) w.lists.rows) ≡ 1 = subst (λ e. on (place_of e w.lists.rows) ≡ 1) (is_same (Thread t) (Thread u) q) z in
        let off : on (place_of (Thread u) (without (Thread t) w.lists.rows)) ≡ 0 = subst (λ e. on (place_of e (without (Thread t) w.lists.rows)) ≡ 0) (is_same (Thread t) (Thread u) q) (place_without_same w.lists.rows (Thread t) m.apart) in
        omega (arith, here, off, k, m.threads u)
    | false ↦ λ q k. let same : on (place_of (Thread u) (without (Thread t) w.lists.rows)) ≡ on (place_of (Thread u) w.lists.rows) = ap on (place_without_other w.lists.rows (Thread t) (Thread u) q) in omega (arith, same, k, m.threads u)
  ] refl (count_joined (Thread u) es (Thread t ∷ []));
  names = m.names;
}

bubble_back : (c : ℕ) (es : List Entity) (w : ForestView) → IsMidst es w → on (place_of (Bubble c) w.lists.rows) ≡ 1 → IsMidst (es ++ Bubble c ∷ []) (taken_back (Bubble c) w)
bubble_back c es w m z =
    let rows = w.lists.rows in
    let o = bubble_of c w.bubbles in
    let bubbles = with_state c Held w.bubbles in
    let q : queued o ≡ 1 = sym (m.queues c) ∙ z in
    record {
      apart = apart_without rows (Bubble c) m.apart;
      queues = λ b. by_number (λ (b : ℕ). on (place_of (Bubble b) (without (Bubble c) rows)) ≡ queued (bubble_of b bubbles)) c b
          (place_without_same rows (Bubble c) m.apart ∙ sym (ap queued (state_same w.bubbles c Held) ∙ (held_back o q).0))
          (λ n. ap on (place_without_other rows (Bubble c) (Bubble b) (bubbles_differ c b n)) ∙ m.queues b ∙ ap queued (sym (state_other w.bubbles c b Held n)));
      holds = λ b. by_number (λ (b : ℕ). inside (Bubble b) bubbles + count (Bubble b) (es ++ Bubble c ∷ []) ≡ held (bubble_of b bubbles)) c b
          (let h : held (bubble_of c bubbles) ≡ 1 = ap held (state_same w.bubbles c Held) ∙ (held_back o q).1 in
          omega (arith, inside_back w.bubbles c (Bubble c) q, count_joined (Bubble c) es (Bubble c ∷ []), count_self c [], h, queued_not_held o q, m.holds c))
          (λ n. let h : held (bubble_of b bubbles) ≡ held (bubble_of b w.bubbles) = ap held (state_other w.bubbles c b Held n) in
          omega (arith, inside_back w.bubbles c (Bubble b) q, count_joined (Bubble b) es (Bubble c ∷ []), count_other b c [] n, h, m.holds b));
      fills_up = λ b. by_number (λ (b : ℕ). 1 ≤ filled (bubble_of b bubbles)) c b
          (subst (λ o. 1 ≤ filled o) (sym (state_same w.bubbles c Held)) (filled_back o q (m.fills_up c)))
          (λ n. subst (λ o. 1 ≤ filled o) (sym (state_other w.bubbles c b Held n)) (m.fills_up b));
      threads = λ t.
          let same : on (place_of (Thread t) (without (Bubble c) rows)) ≡ on (place_of (Thread t) rows) = ap on (place_without_other rows (Bubble c) (Thread t) refl) in
          omega (arith, same, inside_back w.bubbles c (Thread t) q, count_joined (Thread t) es (Bubble c ∷ []), m.threads t);
      names = m.names;
    }

-- the forest while a Burst bubble takes members back
pub record IsBack (b : ℕ) (coming : List Entity) (w : ForestView) : Type 0 where
  pub midst : IsMidst coming w
  pub burst : is_burst_row (bubble_of b w.bubbles) ≡ true

pub one_back : (b : ℕ) (e : Entity) (coming : List Entity) (w : ForestView) → IsBack b coming w → is_some (place_of e w.lists.rows) ≡ true → IsBack b (coming ++ e ∷ []) (taken_back e w)
one_back b (Thread t) coming w k h = record { midst = thread_back t coming w k.midst (on_one (place_of (Thread t) w.lists.rows) h); burst = k.burst }
one_back b (Bubble c) coming w k h =
    let z : on (place_of (Bubble c) w.lists.rows) ≡ 1 = on_one (place_of (Bubble c) w.lists.rows) h in
    let queued_one : queued (bubble_of c w.bubbles) ≡ 1 = sym (k.midst.queues c) ∙ z in
    let other : c ≡ b → ⊥ = λ e. let n : queued (bubble_of c w.bubbles) ≡ 0 = ap (λ a. queued (bubble_of a w.bubbles)) e ∙ (burst_only (bubble_of b w.bubbles) k.burst).0 in omega (arith, n, queued_one) in
    record { midst = bubble_back c coming w k.midst z; burst = ap is_burst_row (state_other w.bubbles c b Held other) ∙ k.burst }

pub every_back : (b : ℕ) (es coming : List Entity) (w : ForestView) → IsBack b coming w → IsBack b (coming ++ (all_back es w).kept) (all_back es w).after
every_back b [] coming w k = subst (λ xs. IsBack b xs w) (sym (append-nil coming)) k
every_back b (e ∷ es) coming w k = by_place (is_some (place_of e w.lists.rows)) refl (λ h. every_back b es (coming ++ e ∷ []) (taken_back e w) (one_back b e coming w k h)) (every_back b es coming w k)
  where
    by_place : (v : Bool) → is_some (place_of e w.lists.rows) ≡ v
        → (is_some (place_of e w.lists.rows) ≡ true → IsBack b ((coming ++ e ∷ []) ++ (all_back es (taken_back e w)).kept) (all_back es (taken_back e w)).after)
        → IsBack b (coming ++ (all_back es w).kept) (all_back es w).after
        → IsBack b (coming ++ (all_back (e ∷ es) w).kept) (all_back (e ∷ es) w).after
    by_place true h on_list off_list = rw h (subst (λ xs. IsBack b xs (all_back es (taken_back e w)).after) (append_assoc coming (e ∷ []) (all_back es (taken_back e w)).kept) (on_list h))
    by_place false h on_list off_list = rw h off_list

-- ## Filled again

pub inside_refill : (xs : List BubbleRow) (b : ℕ) (es : List Entity) (u : Entity) → is_burst_row (bubble_of b xs) ≡ true → inside u (refilled b es xs) ≡ inside u xs + count u es
inside_refill [] b es u h = absurd (cc h)
inside_refill (x ∷ xs) zero es u h = first x.state h
  where
    first : (s : BubbleState) → is_burst_as s ≡ true → count u es + inside u xs ≡ count u (shows s x.members) + inside u xs + count u es
    first Filling q = absurd (cc q)
    first Held q = absurd (cc q)
    first Queued q = absurd (cc q)
    first IsBurst q = omega arith
inside_refill (x ∷ xs) (suc b) es u h = omega (arith, inside_refill xs b es u h)

queued_refill : (xs : List BubbleRow) (b a : ℕ) (es : List Entity) → is_burst_row (bubble_of b xs) ≡ true → queued (bubble_of a (refilled b es xs)) ≡ queued (bubble_of a xs)
queued_refill [] b a es h = refl
queued_refill (x ∷ xs) zero zero es h = sym (burst_only (Some x) h).0
queued_refill (x ∷ xs) zero (suc a) es h = refl
queued_refill (x ∷ xs) (suc b) zero es h = refl
queued_refill (x ∷ xs) (suc b) (suc a) es h = queued_refill xs b a es h

held_refill : (xs : List BubbleRow) (b a : ℕ) (es : List Entity) → is_burst_row (bubble_of b xs) ≡ true → held (bubble_of a (refilled b es xs)) ≡ held (bubble_of a xs)
held_refill [] b a es h = refl
held_refill (x ∷ xs) zero zero es h = sym (burst_only (Some x) h).1
held_refill (x ∷ xs) zero (suc a) es h = refl
held_refill (x ∷ xs) (suc b) zero es h = refl
held_refill (x ∷ xs) (suc b) (suc a) es h = held_refill xs b a es h

filled_refill : (xs : List BubbleRow) (b a : ℕ) (es : List Entity) → 1 ≤ filled (bubble_of a xs) → 1 ≤ filled (bubble_of a (refilled b es xs))
filled_refill [] b a es h = h
filled_refill (x ∷ xs) zero zero es h = omega arith
filled_refill (x ∷ xs) zero (suc a) es h = h
filled_refill (x ∷ xs) (suc b) zero es h = h
filled_refill (x ∷ xs) (suc b) (suc a) es h = filled_refill xs b a es h

forest_refilled : (b : ℕ) (es : List Entity) (w : ForestView) → IsBack b es w → IsForest (record w { bubbles = refilled b es w.bubbles })
forest_refilled b es w k = record {
  apart = k.midst.apart;
  queues = λ a. k.midst.queues a ∙ sym (queued_refill w.bubbles b a es k.burst);
  holds = λ a. omega (arith, inside_refill w.bubbles b es (Bubble a) k.burst, held_refill w.bubbles b a es k.burst, k.midst.holds a);
  fills_up = λ a. filled_refill w.bubbles b a es (k.midst.fills_up a);
  threads = λ t. omega (arith, inside_refill w.bubbles b es (Thread t) k.burst, k.midst.threads t);
  names = k.midst.names;
}

pub forest_gathers : (b : ℕ) (w : ForestView) → IsForest w → IsForest (gathers b w).after
forest_gathers b w m = by_row (bubble_of b w.bubbles) refl
  where
    by_burst : (x : BubbleRow) → bubble_of b w.bubbles ≡ Some x → (v : Bool) → is_burst_as x.state ≡ v → IsForest (gathers_if (Some x) b w).after
    by_burst x e true s =
        let u = apart_from_others b w in
        let burst : is_burst_row (bubble_of b w.bubbles) ≡ true = ap is_burst_row e ∙ s in
        let back : IsBack b [] u = record { midst = forest_apart b w m (burst_only (bubble_of b w.bubbles) burst).1; burst = burst_left (Bubble b) w.bubbles b ∙ burst } in
        let g = members_back b u in
        rw s (forest_refilled b g.kept g.after (every_back b (members_of (bubble_of b u.bubbles)) [] u back))
    by_burst x e false s = rw s m

    by_row : (o : Option BubbleRow) → bubble_of b w.bubbles ≡ o → IsForest (gathers_if o b w).after
    by_row None e = m
    by_row (Some x) e = by_burst x e (is_burst_as x.state) refl
