-- A pick goes by choices, and ends with a thread exactly where a list that covers the processor has an entity.
use Rattle.std.proofs.Common.{◌≡◌, ℕ, zero, suc, ◌+◌, ◌<◌, ◌≤◌, List, [], ◌∷◌, ◌++◌, length, Option, Some, None, Bool, true, false, cond, refl, sym, subst, ap, ◌∙◌, append_assoc, append-nil, arith}
use Rattle.std.specs.Prelude.{◌||◌, nat_le}
use Rattle.slot_space.specs.declared.names.Tid.{Tid}
use Rattle.levels.specs.declared.entity.Entity.{Entity}
use Rattle.levels.specs.declared.entity.Entity.TheVariants.{Thread, Bubble}
use Rattle.levels.specs.declared.entity.Place.{Place}
use Rattle.levels.specs.Trees.{processors, depth_of, is_leaf, covers, next_towards}
use Rattle.levels.specs.Rows.{is_entity, place_of, without}
use Rattle.levels.specs.Choice.{has_ready, choice}
use Rattle.levels.proofs.Lemmas.{is_same, place_without_other, apart_without, chosen_place, none_chosen, not_ready}
use Rattle.bubbles.specs.declared.bubble.BubbleRow.{BubbleRow}
use Rattle.bubbles.specs.declared.bubble.Shift.{Shift}
use Rattle.bubbles.specs.declared.bubble.Step.TheVariants.{Empty, Takes, Shifts}
use Rattle.bubbles.specs.Rows.{bubble_of}
use Rattle.bubbles.specs.Forests.{ForestView}
use Rattle.bubbles.specs.Picking.{bursts_at, burst, down, takes, chosen, step, step_by, Picks}
use Rattle.bubbles.specs.Standing.{on, inside, IsForest}
use Rattle.bubbles.proofs.Weights.{below, weight, weight_of, total}
use Rattle.bubbles.proofs.Counts.{place_without_same, total_less}
use Rattle.bubbles.proofs.Known.{named_last}
use Rattle.bubbles.proofs.Ends.{Goes, burst_goes}
use Rattle.bubbles.proofs.Picks.{down_goes}

-- ## One choice

pub forest_takes : (t : Tid) (list : ℕ) (w : ForestView) → IsForest w → IsForest (takes t list w).after
forest_takes t list w m = record {
  apart = apart_without w.lists.rows (Thread t) m.apart;
  queues = λ b. ap on (place_without_other w.lists.rows (Thread t) (Bubble b) refl) ∙ m.queues b;
  holds = m.holds;
  fills_up = m.fills_up;
  threads = λ u. elim (is_entity (Thread t) (Thread u)) as (λ c. is_entity (Thread t) (Thread u) ≡ c → on (place_of (Thread u) (without (Thread t) w.lists.rows)) + (inside (Thread u) w.bubbles + 0) ≤ 1) [
    | true ↦ λ q. let z : on (place_of (Thread u) (without (Thread t) w.lists.rows)) ≡ 0 = subst (λ e. on (place_of e (without (Thread t) w.lists.rows)) ≡ 0) (is_same (Thread t) (Thread u) q) (place_without_same w.lists.rows (Thread t) m.apart) in omega (arith, z, m.threads u)
    | false ↦ λ q. rw (place_without_other w.lists.rows (Thread t) (Thread u) q) (m.threads u)
  ] refl;
  names = named_last w.threads t list m.names;
}

-- a bubble that goes down isn't on a leaf
leaf_bursts : (o : Option BubbleRow) (w : ForestView) (list : ℕ) → bursts_at w.lists.tree list o ≡ false → is_leaf w.lists.tree list ≡ false
leaf_bursts None w list h = absurd (cc h)
leaf_bursts (Some x) w list h = elim (is_leaf w.lists.tree list) as (λ c. c || nat_le x.depth (depth_of w.lists.tree list) ≡ false → c ≡ false) [ true ↦ λ q. absurd (cc q) | false ↦ λ q. refl ] h

-- a choice that moves a bubble keeps the forest, and goes towards a thread
pub step_goes : (v : ℕ) (w : ForestView) (s : Shift) → IsForest w → v < processors w.lists.tree → (step v w).what ≡ Shifts s → Goes v w (step v w).after
unfolding step
step_goes v w s m p h = by_best (choice w.lists.tree v w.lists.rows) refl h
  where
    by_entity : (x : Place) (e : Entity) → place_of e w.lists.rows ≡ Some x → covers w.lists.tree v x.list ≡ true → (chosen v w x.list e).what ≡ Shifts s → Goes v w (chosen v w x.list e).after
    by_entity x (Thread t) f q h = absurd (cc h)
    by_entity x (Bubble c) f q h =
        elim (bursts_at w.lists.tree x.list (bubble_of c w.bubbles)) as (λ y. bursts_at w.lists.tree x.list (bubble_of c w.bubbles) ≡ y → Goes v w (cond y (burst c x.list w) (down c (next_towards w.lists.tree x.list v) w)).after) [
          | true ↦ λ d. burst_goes v c x w m f q
          | false ↦ λ d. down_goes v c x w m f p q (leaf_bursts (bubble_of c w.bubbles) w x.list d)
        ] refl

    by_best : (o : Option (Place × Entity)) → choice w.lists.tree v w.lists.rows ≡ o → (step_by v w o).what ≡ Shifts s → Goes v w (step_by v w o).after
    by_best None e h = absurd (cc h)
    by_best (Some r) e h = let k = chosen_place w.lists.tree v w.lists.rows r m.apart e in by_entity r.0 r.1 k.0 k.1 h

-- something is there where a choice finds something
pub step_ready : (v : ℕ) (w : ForestView) → ((step v w).what ≡ Empty → ⊥) → has_ready w.lists.tree v w.lists.rows ≡ true
unfolding step
step_ready v w h = by_ready (has_ready w.lists.tree v w.lists.rows) refl
  where
    by_ready : (c : Bool) → has_ready w.lists.tree v w.lists.rows ≡ c → c ≡ true
    by_ready true e = refl
    by_ready false e = absurd (h (ap (λ o. (step_by v w o).what) (not_ready w.lists.tree v w.lists.rows e)))

-- a choice that finds nothing changes nothing, and nothing is there
pub step_empty : (v : ℕ) (w : ForestView) → (step v w).what ≡ Empty → (has_ready w.lists.tree v w.lists.rows ≡ false) × ((step v w).after ≡ w)
unfolding step
step_empty v w h = by_best (choice w.lists.tree v w.lists.rows) refl h
  where
    by_entity : (x : Place) (e : Entity) → (chosen v w x.list e).what ≡ Empty → ⊥
    by_entity x (Thread t) h = cc h
    by_entity x (Bubble c) h = elim (bursts_at w.lists.tree x.list (bubble_of c w.bubbles)) as (λ y. (cond y (burst c x.list w) (down c (next_towards w.lists.tree x.list v) w)).what ≡ Empty → ⊥) [ true ↦ λ q. cc q | false ↦ λ q. cc q ] h

    by_best : (o : Option (Place × Entity)) → choice w.lists.tree v w.lists.rows ≡ o → (step_by v w o).what ≡ Empty → (has_ready w.lists.tree v w.lists.rows ≡ false) × ((step_by v w o).after ≡ w)
    by_best None e h = (none_chosen w.lists.tree v w.lists.rows e, refl)
    by_best (Some r) e h = absurd (by_entity r.0 r.1 h)

-- a choice that takes a thread keeps the forest
pub step_takes : (v : ℕ) (w : ForestView) (t : Tid) → IsForest w → (step v w).what ≡ Takes t → IsForest (step v w).after
unfolding step
step_takes v w t m h = by_best (choice w.lists.tree v w.lists.rows) h
  where
    by_entity : (x : Place) (e : Entity) → (chosen v w x.list e).what ≡ Takes t → IsForest (chosen v w x.list e).after
    by_entity x (Thread u) h = forest_takes u x.list w m
    by_entity x (Bubble c) h = absurd (elim (bursts_at w.lists.tree x.list (bubble_of c w.bubbles)) as (λ y. (cond y (burst c x.list w) (down c (next_towards w.lists.tree x.list v) w)).what ≡ Takes t → ⊥) [ true ↦ λ q. cc q | false ↦ λ q. cc q ] h)

    by_best : (o : Option (Place × Entity)) → (step_by v w o).what ≡ Takes t → IsForest (step_by v w o).after
    by_best None h = absurd (cc h)
    by_best (Some r) h = by_entity r.0 r.1 h

-- ## A pick under way

-- how far the bubbles are from being burst, together
abbrev pub left : ForestView → ForestView → ℕ
left old w = total (length old.bubbles) (weight_of w)

pub record IsUnderway (vp : ℕ) (old : ForestView) (moves : List Shift) (w : ForestView) : Type 0 where
  pub forest : IsForest w
  pub tree : w.lists.tree ≡ old.lists.tree
  pub beyond : (b : ℕ) → length old.bubbles ≤ b → weight_of w b ≡ 0
  pub ready : has_ready w.lists.tree vp w.lists.rows ≡ has_ready old.lists.tree vp old.lists.rows
  pub so_far : (rest : List Shift) (thread : Option Tid) (after : ForestView) → Picks vp w rest thread after → Picks vp old (moves ++ rest) thread after

none_beyond : (xs : List BubbleRow) (d b : ℕ) → length xs ≤ b → weight d (bubble_of b xs) ≡ 0
none_beyond [] d b l = refl
none_beyond (x ∷ xs) d zero l = absurd (omega arith)
none_beyond (x ∷ xs) d (suc b) l = none_beyond xs d b (omega arith)

pub begun : (vp : ℕ) (w : ForestView) → IsForest w → IsUnderway vp w [] w
begun vp w m = record {
  forest = m;
  tree = refl;
  beyond = λ b h. none_beyond w.bubbles (below w.lists.tree (place_of (Bubble b) w.lists.rows)) b h;
  ready = refl;
  so_far = λ rest thread after p. p;
}

less_somewhere : (n : ℕ) (f g : ℕ → ℕ) (c : ℕ) → ((b : ℕ) → n ≤ b → f b ≡ 0) → ((b : ℕ) → g b ≤ f b) → g c < f c → total n g < total n f
less_somewhere n f g c z l s = total_less n c f g l (not_beyond (nat_le n c) refl) s
  where
    not_beyond : (t : Bool) → nat_le n c ≡ t → c < n
    not_beyond true q = let h : n ≤ c = grind (arith, q) in absurd (omega (arith, z c h, s))
    not_beyond false q = grind (arith, q)

pub falls : (vp : ℕ) (old w : ForestView) (moves : List Shift) (s : Shift) → IsUnderway vp old moves w → vp < processors old.lists.tree → (step vp w).what ≡ Shifts s → left old (step vp w).after < left old w
falls vp old w moves s u p h =
    let g = step_goes vp w s u.forest (subst (λ t. vp < processors t) (sym u.tree) p) h in
    less_somewhere (length old.bubbles) (weight_of w) (weight_of (step vp w).after) g.falls.0 u.beyond g.lighter g.falls.1

not_empty : (vp : ℕ) (w : ForestView) (s : Shift) → (step vp w).what ≡ Shifts s → (step vp w).what ≡ Empty → ⊥
not_empty vp w s h e = let n : Shifts s ≡ Empty = sym h ∙ e in cc n

pub further : (vp : ℕ) (old w : ForestView) (moves : List Shift) (s : Shift) → IsUnderway vp old moves w → vp < processors old.lists.tree → (step vp w).what ≡ Shifts s → IsUnderway vp old (moves ++ s ∷ []) (step vp w).after
further vp old w moves s u p h =
    let g = step_goes vp w s u.forest (subst (λ t. vp < processors t) (sym u.tree) p) h in
    record {
      forest = g.forest;
      tree = g.tree ∙ u.tree;
      beyond = λ b l. omega (arith, g.lighter b, u.beyond b l);
      ready = g.path ∙ sym (step_ready vp w (not_empty vp w s h)) ∙ u.ready;
      so_far = λ rest thread after q. subst (λ ms. Picks vp old ms thread after) (sym (append_assoc moves (s ∷ []) rest)) (u.so_far (s ∷ rest) thread after (h, q));
    }

-- the choice that takes the thread
pub ended : (vp : ℕ) (old w : ForestView) (moves : List Shift) (t : Tid) → IsUnderway vp old moves w → (step vp w).what ≡ Takes t
    → IsForest (step vp w).after × (has_ready old.lists.tree vp old.lists.rows ≡ true) × Picks vp old moves (Some t) (step vp w).after
ended vp old w moves t u h = (
  step_takes vp w t u.forest h,
  sym u.ready ∙ step_ready vp w (λ e. let n : Takes t ≡ Empty = sym h ∙ e in cc n),
  subst (λ ms. Picks vp old ms (Some t) (step vp w).after) (append-nil moves) (u.so_far [] (Some t) (step vp w).after (h, refl)),
)

-- or finds nothing
pub found_none : (vp : ℕ) (old w : ForestView) (moves : List Shift) → IsUnderway vp old moves w → (step vp w).what ≡ Empty → IsForest (step vp w).after × (has_ready old.lists.tree vp old.lists.rows ≡ false)
found_none vp old w moves u h = let k = step_empty vp w h in (subst IsForest (sym k.1) u.forest, sym u.ready ∙ k.0)
