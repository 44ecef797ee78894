-- What moves and calls leave as it is: the tree, the threads that are known, how many bubbles there are.
use Rattle.std.proofs.Common.{◌≡◌, ℕ, zero, suc, Bool, true, false, List, [], ◌∷◌, ◌++◌, length, cond, refl, ap, ◌∙◌, arith}
use Rattle.std.specs.Prelude.{is_some}
use Rattle.levels.specs.declared.entity.Entity.{Entity}
use Rattle.levels.specs.declared.entity.Entity.TheVariants.{Thread, Bubble}
use Rattle.levels.specs.Rows.{place_of}
use Rattle.bubbles.specs.declared.bubble.BubbleState.{BubbleState}
use Rattle.bubbles.specs.declared.bubble.BubbleRow.{BubbleRow}
use Rattle.bubbles.specs.Rows.{with_state, with_member, without_member, refilled}
use Rattle.bubbles.specs.Forests.{ForestView, as_held, as_queued, arrives, all_arrive, taken_back, all_back}

pub length_state : (xs : List BubbleRow) (b : ℕ) (s : BubbleState) → length (with_state b s xs) ≡ length xs
length_state [] b s = refl
length_state (x ∷ xs) zero s = refl
length_state (x ∷ xs) (suc b) s = ap suc (length_state xs b s)

pub length_member : (xs : List BubbleRow) (b : ℕ) (e : Entity) → length (with_member b e xs) ≡ length xs
length_member [] b e = refl
length_member (x ∷ xs) zero e = refl
length_member (x ∷ xs) (suc b) e = ap suc (length_member xs b e)

pub length_left : (xs : List BubbleRow) (e : Entity) → length (without_member e xs) ≡ length xs
length_left [] e = refl
length_left (x ∷ xs) e = ap suc (length_left xs e)

pub length_refill : (xs : List BubbleRow) (b : ℕ) (es : List Entity) → length (refilled b es xs) ≡ length xs
length_refill [] b es = refl
length_refill (x ∷ xs) zero es = refl
length_refill (x ∷ xs) (suc b) es = ap suc (length_refill xs b es)

length_queue : (e : Entity) (xs : List BubbleRow) → length (as_queued e xs) ≡ length xs
length_queue (Thread t) xs = refl
length_queue (Bubble c) xs = length_state xs c _

length_hold : (e : Entity) (xs : List BubbleRow) → length (as_held e xs) ≡ length xs
length_hold (Thread t) xs = refl
length_hold (Bubble c) xs = length_state xs c _

-- ## Arrivals

pub threads_arrive : (list : ℕ) (es : List Entity) (w : ForestView) → (all_arrive list es w).threads ≡ w.threads
threads_arrive list [] w = refl
threads_arrive list (e ∷ es) w = threads_arrive list es (arrives list e w)

pub count_arrive : (list : ℕ) (es : List Entity) (w : ForestView) → length (all_arrive list es w).bubbles ≡ length w.bubbles
count_arrive list [] w = refl
count_arrive list (e ∷ es) w = count_arrive list es (arrives list e w) ∙ length_queue e w.bubbles

-- ## Members that are held again

-- they are taken back one after another, and others stay
pub back_by : (P : ForestView → Type 0) (es : List Entity) (w : ForestView) → ((e : Entity) (w : ForestView) → P w → P (taken_back e w)) → P w → P (all_back es w).after
back_by P [] w one p = p
back_by P (e ∷ es) w one p = by_place (is_some (place_of e w.lists.rows)) refl (back_by P es (taken_back e w) one (one e w p)) (back_by P es w one p)
  where
    by_place : (v : Bool) → is_some (place_of e w.lists.rows) ≡ v → P (all_back es (taken_back e w)).after → P (all_back es w).after → P (all_back (e ∷ es) w).after
    by_place true h on_list off_list = rw h on_list
    by_place false h on_list off_list = rw h off_list

pub tree_back : (es : List Entity) (w : ForestView) → (all_back es w).after.lists.tree ≡ w.lists.tree
tree_back es w = back_by (λ v. v.lists.tree ≡ w.lists.tree) es w (λ e v p. p) refl

pub threads_back : (es : List Entity) (w : ForestView) → (all_back es w).after.threads ≡ w.threads
threads_back es w = back_by (λ v. v.threads ≡ w.threads) es w (λ e v p. p) refl

pub count_back : (es : List Entity) (w : ForestView) → length (all_back es w).after.bubbles ≡ length w.bubbles
count_back es w = back_by (λ v. length v.bubbles ≡ length w.bubbles) es w (λ e v p. length_hold e v.bubbles ∙ p) refl
