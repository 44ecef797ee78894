-- The cases of calls and choices: a property of the forest after one, by what was done.
use Rattle.std.proofs.Common.{◌≡◌, ℕ, Bool, true, false, List, [], ◌∷◌, length, Option, Some, None, cond, eqb, refl, sym, ap, ◌∙◌}
use Rattle.std.proofs.lemmas.Bool.{eqb-false}
use Rattle.slot_space.specs.declared.names.Tid.{Tid}
use Rattle.levels.specs.declared.entity.Entity.{Entity}
use Rattle.levels.specs.declared.entity.Entity.TheVariants.{Thread, Bubble}
use Rattle.levels.specs.declared.entity.Place.{Place}
use Rattle.levels.specs.Trees.{covers, next_towards}
use Rattle.levels.specs.Rows.{place_of}
use Rattle.levels.specs.Choice.{choice, has_ready}
use Rattle.levels.proofs.Lemmas.{chosen_place, none_chosen}
use Rattle.bubbles.specs.declared.bubble.BubbleState.TheVariants.{Held}
use Rattle.bubbles.specs.declared.bubble.BubbleRow.{BubbleRow}
use Rattle.bubbles.specs.declared.bubble.Step.TheVariants.{Empty}
use Rattle.bubbles.specs.Rows.{bubble_of, with_state, is_filling_as, is_filling, is_burst_as}
use Rattle.bubbles.specs.Forests.{ForestView, arrives, holding, joined, wakes, wakes_if, wakes_filled, inserts, inserts_if, inserts_filled, gathers, gathers_if}
use Rattle.bubbles.specs.Standing.{IsForest}
use Rattle.bubbles.specs.Picking.{Stepped, bursts_at, burst, down, takes, chosen, step, step_by}
use Rattle.bubbles.proofs.Members.{filling_state}
use Rattle.bubbles.proofs.Gathering.{is_burst_row}
use Rattle.bubbles.proofs.Seats.{filled_again}

pub by_wake : (P : ForestView → Type 0) (b : ℕ) (w : ForestView) → P w → (is_filling (bubble_of b w.bubbles) ≡ true → P (arrives 0 (Bubble b) w)) → P (wakes b w).after
by_wake P b w same woken = by_row (bubble_of b w.bubbles) refl
  where
    by_members : is_filling (bubble_of b w.bubbles) ≡ true → (ms : List Entity) → P (wakes_filled ms b w).after
    by_members f [] = same
    by_members f (y ∷ ms) = woken f

    by_state : (x : BubbleRow) → bubble_of b w.bubbles ≡ Some x → (v : Bool) → is_filling_as x.state ≡ v → P (wakes_if (Some x) b w).after
    by_state x e true s = rw s (by_members (ap is_filling e ∙ s) x.members)
    by_state x e false s = rw s same

    by_row : (o : Option BubbleRow) → bubble_of b w.bubbles ≡ o → P (wakes_if o b w).after
    by_row None e = same
    by_row (Some x) e = by_state x e (is_filling_as x.state) refl

pub by_insert : (P : ForestView → Type 0) (b c : ℕ) (w : ForestView) → P w
    → ((b ≡ c → ⊥) → is_filling (bubble_of b w.bubbles) ≡ true → is_filling (bubble_of c w.bubbles) ≡ true → P (joined b (Bubble c) (holding c w))) → P (inserts b c w).after
by_insert P b c w same inserted = by_same (eqb b c) refl
  where
    by_members : (b ≡ c → ⊥) → is_filling (bubble_of b w.bubbles) ≡ true → is_filling (bubble_of c w.bubbles) ≡ true → (ms : List Entity) → P (inserts_filled ms b c w).after
    by_members n f g [] = same
    by_members n f g (y ∷ ms) = inserted n f g

    by_states : (b ≡ c → ⊥) → (x y : BubbleRow) → bubble_of b w.bubbles ≡ Some x → bubble_of c w.bubbles ≡ Some y → (v : Bool) → is_filling_as x.state ≡ v → (u : Bool) → is_filling_as y.state ≡ u → P (inserts_if (Some x) (Some y) b c w).after
    by_states n x y d e true s true r = rw (s, r) (by_members n (ap is_filling d ∙ s) (ap is_filling e ∙ r) y.members)
    by_states n x y d e true s false r = rw (s, r) same
    by_states n x y d e false s u r = rw s same

    by_rows : (b ≡ c → ⊥) → (o p : Option BubbleRow) → bubble_of b w.bubbles ≡ o → bubble_of c w.bubbles ≡ p → P (inserts_if o p b c w).after
    by_rows n None p d e = same
    by_rows n (Some x) None d e = same
    by_rows n (Some x) (Some y) d e = by_states n x y d e (is_filling_as x.state) refl (is_filling_as y.state) refl

    by_same : (v : Bool) → eqb b c ≡ v → P (inserts b c w).after
    by_same true h = rw h same
    by_same false h = rw h (by_rows (eqb-false b c h) (bubble_of b w.bubbles) (bubble_of c w.bubbles) refl refl)

-- who is inserted into the other leaves it Filling
pub still_filling : (b c : ℕ) (w : ForestView) → (b ≡ c → ⊥) → is_filling (bubble_of b w.bubbles) ≡ true → is_filling (bubble_of b (with_state c Held w.bubbles)) ≡ true
still_filling b c w n f = filling_state w.bubbles c b Held (λ q. n (sym q)) ∙ f

pub by_gather : (P : ForestView → Type 0) (b : ℕ) (w : ForestView) → P w → (is_burst_row (bubble_of b w.bubbles) ≡ true → P (filled_again b w)) → P (gathers b w).after
by_gather P b w same filled = by_row (bubble_of b w.bubbles) refl
  where
    by_burst : (x : BubbleRow) → bubble_of b w.bubbles ≡ Some x → (v : Bool) → is_burst_as x.state ≡ v → P (gathers_if (Some x) b w).after
    by_burst x e true s = rw s (filled (ap is_burst_row e ∙ s))
    by_burst x e false s = rw s same

    by_row : (o : Option BubbleRow) → bubble_of b w.bubbles ≡ o → P (gathers_if o b w).after
    by_row None e = same
    by_row (Some x) e = by_burst x e (is_burst_as x.state) refl

-- a choice finds nothing, takes a thread from its list, or moves a bubble that is on one
pub by_step : (P : Stepped → Type 0) (vp : ℕ) (w : ForestView) → IsForest w
    → (has_ready w.lists.tree vp w.lists.rows ≡ false → P (record { what = Empty; after = w }))
    → ((t : Tid) (x : Place) → place_of (Thread t) w.lists.rows ≡ Some x → P (takes t x.list w))
    → ((b : ℕ) (x : Place) → place_of (Bubble b) w.lists.rows ≡ Some x → P (burst b x.list w))
    → ((b list : ℕ) (x : Place) → place_of (Bubble b) w.lists.rows ≡ Some x → P (down b list w))
    → P (step vp w)
unfolding step
by_step P vp w m none thread bursts goes = by_best (choice w.lists.tree vp w.lists.rows) refl
  where
    by_entity : (x : Place) (e : Entity) → place_of e w.lists.rows ≡ Some x → P (chosen vp w x.list e)
    by_entity x (Thread t) f = thread t x f
    by_entity x (Bubble b) f = elim (bursts_at w.lists.tree x.list (bubble_of b w.bubbles)) as (λ v. P (cond v (burst b x.list w) (down b (next_towards w.lists.tree x.list vp) w))) [ true ↦ bursts b x f | false ↦ goes b (next_towards w.lists.tree x.list vp) x f ]

    by_best : (o : Option (Place × Entity)) → choice w.lists.tree vp w.lists.rows ≡ o → P (step_by vp w o)
    by_best None e = none (none_chosen w.lists.tree vp w.lists.rows e)
    by_best (Some r) e = by_entity r.0 r.1 (chosen_place w.lists.tree vp w.lists.rows r m.apart e).0
