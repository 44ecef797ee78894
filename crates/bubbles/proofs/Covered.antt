-- Calls and choices leave each entity on a list of the tree.
use Rattle.std.proofs.Common.{◌≡◌, ◌<◌, ℕ, List, [], ◌∷◌, ◌++◌, Bool, true, false, Option, Some, None, cond, refl, sym, subst, ap, ◌∙◌, ◌||◌}
use Rattle.std.specs.Prelude.{is_some}
use Rattle.slot_space.specs.declared.names.Tid.{Tid}
use Rattle.levels.specs.declared.entity.Entity.{Entity}
use Rattle.levels.specs.declared.entity.Entity.TheVariants.{Thread, Bubble}
use Rattle.levels.specs.declared.entity.Place.{Place}
use Rattle.levels.specs.Trees.{Tree, processors, depth_of, covers, is_leaf, next_towards}
use Rattle.levels.specs.Rows.{Row, is_entity, place_of, without}
use Rattle.levels.specs.Choice.{choice, has_ready}
use Rattle.levels.proofs.Lemmas.{chosen_place, next_goes}
use Rattle.bubbles.specs.declared.bubble.BubbleRow.{BubbleRow}
use Rattle.bubbles.specs.declared.bubble.KnownThread.{KnownThread}
use Rattle.bubbles.specs.declared.bubble.Shift.TheVariants.{Down}
use Rattle.bubbles.specs.declared.bubble.Step.TheVariants.{Shifts}
use Rattle.bubbles.specs.Rows.{bubble_of, members_of, is_filling, thread_of, last_list, with_last, first_out, known_thread, without_thread}
use Rattle.bubbles.specs.Forests.{ForestView, empty_forest, arrives, all_arrive, with_bubble, wakes, inserts, enters, with_thread, goes_on, gone, leaves, gathers, all_back, taken_back, apart_from_others}
use Rattle.bubbles.specs.Standing.{IsForest}
use Rattle.bubbles.specs.Picking.{step, step_by, chosen, bursts_at, takes, burst, bursting, down}
use Rattle.bubbles.specs.Covering.{IsOfTree, AreOfTree, LastsOfTree, AreCovered}
use Rattle.bubbles.proofs.Cases.{by_wake, by_insert, by_gather}
use Rattle.bubbles.proofs.Seats.{filled_again}
use Rattle.bubbles.proofs.Changes.{by_entry}

-- the root covers each processor
pub root : (tree : Tree) → 0 < processors tree → IsOfTree tree 0
root tree some = record { vp = 0; some = some; covered = refl }

-- ## Rows and threads that come and go

of_added : (tree : Tree) (rows : List Row) (last : Row) → AreOfTree tree rows → IsOfTree tree last.1.list → AreOfTree tree (rows ++ last ∷ [])
of_added tree [] last h l = (l, tt)
of_added tree (row ∷ rows) last h l = (h.0, of_added tree rows last h.1 l)

of_without : (tree : Tree) (e : Entity) (rows : List Row) → AreOfTree tree rows → AreOfTree tree (without e rows)
of_without tree e [] h = tt
of_without tree e (row ∷ rows) h = elim (is_entity row.0 e) as (λ v. AreOfTree tree (cond v rows (row ∷ without e rows))) [ true ↦ h.1 | false ↦ (h.0, of_without tree e rows h.1) ]

of_place : (tree : Tree) (e : Entity) (rows : List Row) (x : Place) → AreOfTree tree rows → place_of e rows ≡ Some x → IsOfTree tree x.list
of_place tree e [] x h f = absurd (cc f)
of_place tree e (row ∷ rows) x h f = by (λ k. of_place tree e rows x h.1 k) (is_entity row.0 e) f
  where
    by : (place_of e rows ≡ Some x → IsOfTree tree x.list) → (v : Bool) → cond v (Some row.1) (place_of e rows) ≡ Some x → IsOfTree tree x.list
    by more true k = let same : row.1 ≡ x = cc k in subst (λ (y : Place). IsOfTree tree y.list) same h.0
    by more false k = more k

lasts_added : (tree : Tree) (xs : List KnownThread) (x : KnownThread) → LastsOfTree tree xs → IsOfTree tree x.last → LastsOfTree tree (xs ++ x ∷ [])
lasts_added tree [] x h l = (l, tt)
lasts_added tree (y ∷ ys) x h l = (h.0, lasts_added tree ys x h.1 l)

lasts_with : (tree : Tree) (t : Tid) (list : ℕ) (xs : List KnownThread) → LastsOfTree tree xs → IsOfTree tree list → LastsOfTree tree (with_last t list xs)
lasts_with tree t list [] h l = tt
lasts_with tree t list (x ∷ xs) h l =
    elim (is_entity (Thread x.tid) (Thread t)) as (λ v. LastsOfTree tree (cond v (record x { last = list } ∷ xs) (x ∷ with_last t list xs))) [ true ↦ (l, h.1) | false ↦ (h.0, lasts_with tree t list xs h.1 l) ]

lasts_out : (tree : Tree) (t : Tid) (xs : List KnownThread) → LastsOfTree tree xs → LastsOfTree tree (without_thread t xs)
lasts_out tree t [] h = tt
lasts_out tree t (x ∷ xs) h =
    elim (is_entity (Thread x.tid) (Thread t)) as (λ v. LastsOfTree tree (cond v xs (x ∷ without_thread t xs))) [ true ↦ h.1 | false ↦ (h.0, lasts_out tree t xs h.1) ]

last_of : (tree : Tree) (t : Tid) (xs : List KnownThread) → LastsOfTree tree xs → 0 < processors tree → IsOfTree tree (last_list (thread_of t xs))
last_of tree t [] h some = root tree some
last_of tree t (x ∷ xs) h some =
    elim (is_entity (Thread x.tid) (Thread t)) as (λ v. IsOfTree tree (last_list (cond v (Some x) (thread_of t xs)))) [ true ↦ h.0 | false ↦ last_of tree t xs h.1 some ]

-- ## Calls

pub covered_arrives : (list : ℕ) (e : Entity) (w : ForestView) → AreCovered w → IsOfTree w.lists.tree list → AreCovered (arrives list e w)
covered_arrives list e w h l = record { rows = of_added w.lists.tree w.lists.rows _ h.rows l; lasts = h.lasts }

covered_all : (list : ℕ) (es : List Entity) (w : ForestView) → AreCovered w → IsOfTree w.lists.tree list → AreCovered (all_arrive list es w)
covered_all list [] w h l = h
covered_all list (e ∷ es) w h l = covered_all list es (arrives list e w) (covered_arrives list e w h l) l

pub covered_empty : (tree : Tree) → AreCovered (empty_forest tree)
covered_empty tree = record { rows = tt; lasts = tt }

pub covered_new : (priority depth : ℕ) (w : ForestView) → AreCovered w → AreCovered (with_bubble priority depth w)
covered_new priority depth w h = record { rows = h.rows; lasts = h.lasts }

pub covered_wakes : (b : ℕ) (w : ForestView) → AreCovered w → 0 < processors w.lists.tree → AreCovered (wakes b w).after
covered_wakes b w h some = by_wake (λ v. AreCovered v) b w h (λ f. covered_arrives 0 (Bubble b) w h (root w.lists.tree some))

pub covered_inserts : (b c : ℕ) (w : ForestView) → AreCovered w → AreCovered (inserts b c w).after
covered_inserts b c w h = by_insert (λ v. AreCovered v) b c w h (λ n f g. record { rows = h.rows; lasts = h.lasts })

covered_back : (es : List Entity) (w : ForestView) → AreCovered w → AreCovered (all_back es w).after
covered_back [] w h = h
covered_back (e ∷ es) w h =
    let back : AreCovered (taken_back e w) = record { rows = of_without w.lists.tree e w.lists.rows h.rows; lasts = h.lasts } in
    by (covered_back es (taken_back e w) back) (covered_back es w h) (is_some (place_of e w.lists.rows))
  where
    by : AreCovered (all_back es (taken_back e w)).after → AreCovered (all_back es w).after → (v : Bool)
        → AreCovered (cond v (record (all_back es (taken_back e w)) { kept = e ∷ (all_back es (taken_back e w)).kept }) (all_back es w)).after
    by taken left true = taken
    by taken left false = left

pub covered_gathers : (b : ℕ) (w : ForestView) → AreCovered w → AreCovered (gathers b w).after
covered_gathers b w h = by_gather (λ v. AreCovered v) b w h (λ f. filled)
  where
    filled : AreCovered (filled_again b w)
    filled =
        let back = covered_back (members_of (bubble_of b (apart_from_others b w).bubbles)) (apart_from_others b w) (record { rows = h.rows; lasts = h.lasts }) in
        record { rows = back.rows; lasts = back.lasts }

pub covered_enters : (t : Tid) (priority : ℕ) (bubble : Option ℕ) (w : ForestView) → AreCovered w → 0 < processors w.lists.tree → AreCovered (enters t priority bubble w)
covered_enters t priority bubble w h some =
    by_entry (λ v. AreCovered v) t bubble (with_thread t priority w) (covered_arrives 0 (Thread t) (with_thread t priority w) known (root w.lists.tree some)) (λ b f. record { rows = known.rows; lasts = known.lasts })
  where
    known : AreCovered (with_thread t priority w)
    known = record { rows = h.rows; lasts = lasts_added w.lists.tree w.threads (known_thread t priority 0) h.lasts (root w.lists.tree some) }

pub covered_goes_on : (t : Tid) (w : ForestView) → AreCovered w → 0 < processors w.lists.tree → AreCovered (goes_on t w)
covered_goes_on t w h some = covered_arrives (last_list (thread_of t w.threads)) (Thread t) w h (last_of w.lists.tree t w.threads h.lasts some)

pub covered_leaves : (t : Tid) (w : ForestView) → AreCovered w → AreCovered (leaves t w)
covered_leaves t w h = by (is_some (thread_of t w.threads))
  where
    by : (v : Bool) → AreCovered (cond v (gone t w) w)
    by true = record { rows = of_without w.lists.tree (Thread t) w.lists.rows h.rows; lasts = lasts_out w.lists.tree t w.threads h.lasts }
    by false = h

-- ## Choices

not_either : (a b : Bool) → (a || b) ≡ false → a ≡ false
not_either true b e = absurd (cc e)
not_either false b e = refl

-- a bubble goes down only for a processor of the tree
pub covered_step : (vp : ℕ) (w : ForestView) → IsForest w → ((b list : ℕ) → (step vp w).what ≡ Shifts (Down b list) → vp < processors w.lists.tree) → AreCovered w → AreCovered (step vp w).after
unfolding step
covered_step vp w m one h = by_best (choice w.lists.tree vp w.lists.rows) refl one
  where
    by_bubble : (b : ℕ) (x : Place) → place_of (Bubble b) w.lists.rows ≡ Some x → covers w.lists.tree vp x.list ≡ true → (v : Bool) → bursts_at w.lists.tree x.list (bubble_of b w.bubbles) ≡ v
        → ((c list : ℕ) → (cond v (burst b x.list w) (down b (next_towards w.lists.tree x.list vp) w)).what ≡ Shifts (Down c list) → vp < processors w.lists.tree)
        → AreCovered (cond v (burst b x.list w) (down b (next_towards w.lists.tree x.list vp) w)).after
    by_bubble b x f c true e some =
        let off : AreCovered (bursting b w) = record { rows = of_without w.lists.tree (Bubble b) w.lists.rows h.rows; lasts = h.lasts } in
        covered_all x.list (members_of (bubble_of b w.bubbles)) (bursting b w) off (of_place w.lists.tree (Bubble b) w.lists.rows x h.rows f)
    by_bubble b x f c false e some =
        let list : ℕ = next_towards w.lists.tree x.list vp in
        let below : vp < processors w.lists.tree = some b list refl in
        let next = next_goes w.lists.tree x.list vp below c (inner (bubble_of b w.bubbles) e) in
        covered_arrives list (Bubble b) _ (record { rows = of_without w.lists.tree (Bubble b) w.lists.rows h.rows; lasts = h.lasts }) (record { vp = vp; some = below; covered = next.0 })
      where
        inner : (o : Option BubbleRow) → bursts_at w.lists.tree x.list o ≡ false → is_leaf w.lists.tree x.list ≡ false
        inner None e = absurd (cc e)
        inner (Some y) e = not_either (is_leaf w.lists.tree x.list) _ e

    by_entity : (x : Place) (e : Entity) → place_of e w.lists.rows ≡ Some x → covers w.lists.tree vp x.list ≡ true → ((c list : ℕ) → (chosen vp w x.list e).what ≡ Shifts (Down c list) → vp < processors w.lists.tree)
        → AreCovered (chosen vp w x.list e).after
    by_entity x (Thread t) f c some = record {
      rows = of_without w.lists.tree (Thread t) w.lists.rows h.rows;
      lasts = lasts_with w.lists.tree t x.list w.threads h.lasts (of_place w.lists.tree (Thread t) w.lists.rows x h.rows f);
    }
    by_entity x (Bubble b) f c some = by_bubble b x f c (bursts_at w.lists.tree x.list (bubble_of b w.bubbles)) refl some

    by_best : (o : Option (Place × Entity)) → choice w.lists.tree vp w.lists.rows ≡ o → ((c list : ℕ) → (step_by vp w o).what ≡ Shifts (Down c list) → vp < processors w.lists.tree) → AreCovered (step_by vp w o).after
    by_best None e some = h
    by_best (Some r) e some = let at = chosen_place w.lists.tree vp w.lists.rows r m.apart e in by_entity r.0 r.1 at.0 at.1 some

-- ## Where an entity stands, some processor has a pick

pub some_ready : (w : ForestView) → AreCovered w → (w.lists.rows ≡ [] → ⊥) → (vp : ℕ) × (vp < processors w.lists.tree) × (has_ready w.lists.tree vp w.lists.rows ≡ true)
some_ready w h full = by w.lists.rows h.rows full
  where
    by : (rows : List Row) → AreOfTree w.lists.tree rows → (rows ≡ [] → ⊥) → (vp : ℕ) × (vp < processors w.lists.tree) × (has_ready w.lists.tree vp rows ≡ true)
    by [] a f = absurd (f refl)
    by (row ∷ rows) a f = (a.0.vp, a.0.some, rw a.0.covered refl)
