-- A bubble that goes down.
use Rattle.std.proofs.Common.{◌≡◌, ℕ, ◌-◌, ◌<◌, ◌≤◌, [], ◌∷◌, ◌++◌, Option, Some, None, true, false, refl, sym, subst, ap, ◌∙◌, arith}
use Rattle.levels.specs.declared.entity.Entity.TheVariants.{Thread, Bubble}
use Rattle.levels.specs.declared.entity.Place.{Place}
use Rattle.levels.specs.Trees.{Tree, processors, depth_of, is_leaf, covers, next_towards}
use Rattle.levels.specs.Rows.{Row, place_of, without}
use Rattle.levels.proofs.Lemmas.{place_added, place_added_other, place_without_other, apart_added, apart_without, ready_new, next_goes, depth_most}
use Rattle.bubbles.specs.declared.bubble.BubbleState.TheVariants.{Queued}
use Rattle.bubbles.specs.declared.bubble.BubbleRow.{BubbleRow}
use Rattle.bubbles.specs.Rows.{with_state, bubble_of}
use Rattle.bubbles.specs.Forests.{ForestView, arrives, off_list}
use Rattle.bubbles.specs.Standing.{on, queued, inside, IsForest}
use Rattle.bubbles.specs.Picking.{down}
use Rattle.bubbles.proofs.Weights.{below, weight, weight_of}
use Rattle.bubbles.proofs.Counts.{place_without_same}
use Rattle.bubbles.proofs.Midst.{on_none, bubbles_differ}
use Rattle.bubbles.proofs.Arrive.{by_number, row_of}
use Rattle.bubbles.proofs.Ends.{Goes, requeue, queued_weight}

-- wherever it goes
pub forest_down : (c list : ℕ) (x : Place) (w : ForestView) → IsForest w → place_of (Bubble c) w.lists.rows ≡ Some x → IsForest (down c list w).after
forest_down c list x w m f =
    let rows = w.lists.rows in
    let y : Row = row_of list (Bubble c) (off_list (Bubble c) w) in
    let q : queued (bubble_of c w.bubbles) ≡ 1 = sym (m.queues c) ∙ ap on f in
    let n : place_of (Bubble c) (without (Bubble c) rows) ≡ None = on_none (place_of (Bubble c) (without (Bubble c) rows)) (place_without_same rows (Bubble c) m.apart) in
    let fn : place_of (Bubble c) (without (Bubble c) rows ++ y ∷ []) ≡ Some y.1 = place_added (without (Bubble c) rows) y n in
    let forest : IsForest (record w { lists = (arrives list (Bubble c) (off_list (Bubble c) w)).lists }) = record {
      apart = apart_added (without (Bubble c) rows) y (apart_without rows (Bubble c) m.apart) n;
      queues = λ b. by_number (λ (b : ℕ). on (place_of (Bubble b) (without (Bubble c) rows ++ y ∷ [])) ≡ queued (bubble_of b w.bubbles)) c b (ap on fn ∙ sym q)
          (λ k. ap on (place_added_other (without (Bubble c) rows) y (Bubble b) (bubbles_differ c b k) ∙ place_without_other rows (Bubble c) (Bubble b) (bubbles_differ c b k)) ∙ m.queues b);
      holds = m.holds;
      fills_up = m.fills_up;
      threads = λ u. let e = place_added_other (without (Bubble c) rows) y (Thread u) refl ∙ place_without_other rows (Bubble c) (Thread u) refl in rw e (m.threads u);
      names = m.names;
    } in
    subst (λ bs. IsForest (record w { lists = (arrives list (Bubble c) (off_list (Bubble c) w)).lists; bubbles = bs })) (sym (requeue w.bubbles c q)) forest

pub down_goes : (v c : ℕ) (x : Place) (w : ForestView) → IsForest w → place_of (Bubble c) w.lists.rows ≡ Some x → v < processors w.lists.tree → covers w.lists.tree v x.list ≡ true → is_leaf w.lists.tree x.list ≡ false → Goes v w (down c (next_towards w.lists.tree x.list v) w).after
down_goes v c x w m f inside covered l =
    let t : Tree = w.lists.tree in
    let rows = w.lists.rows in
    let next : ℕ = next_towards t x.list v in
    let y : Row = row_of next (Bubble c) (off_list (Bubble c) w) in
    let o : Option BubbleRow = bubble_of c w.bubbles in
    let q : queued o ≡ 1 = sym (m.queues c) ∙ ap on f in
    let r : with_state c Queued w.bubbles ≡ w.bubbles = requeue w.bubbles c q in
    let n : place_of (Bubble c) (without (Bubble c) rows) ≡ None = on_none (place_of (Bubble c) (without (Bubble c) rows)) (place_without_same rows (Bubble c) m.apart) in
    let fn : place_of (Bubble c) (without (Bubble c) rows ++ y ∷ []) ≡ Some y.1 = place_added (without (Bubble c) rows) y n in
    let g : weight_of w c ≡ 3 - depth_of t x.list = queued_weight (below t (place_of (Bubble c) rows)) o q ∙ ap (below t) f in
    let h : weight (below t (place_of (Bubble c) (without (Bubble c) rows ++ y ∷ []))) o ≡ 3 - depth_of t next = queued_weight (below t (place_of (Bubble c) (without (Bubble c) rows ++ y ∷ []))) o q ∙ ap (below t) fn in
    let d = (next_goes t x.list v inside covered l).1 in
    let other : (b : ℕ) → (c ≡ b → ⊥) → place_of (Bubble b) (without (Bubble c) rows ++ y ∷ []) ≡ place_of (Bubble b) rows
    = λ b k. place_added_other (without (Bubble c) rows) y (Bubble b) (bubbles_differ c b k) ∙ place_without_other rows (Bubble c) (Bubble b) (bubbles_differ c b k) in
    let lighter : (b : ℕ) → weight (below t (place_of (Bubble b) (without (Bubble c) rows ++ y ∷ []))) (bubble_of b w.bubbles) ≤ weight_of w b
    = λ b. by_number (λ (b : ℕ). weight (below t (place_of (Bubble b) (without (Bubble c) rows ++ y ∷ []))) (bubble_of b w.bubbles) ≤ weight_of w b) c b (omega (arith, g, h, d)) (λ k. rw (other b k) (omega arith)) in
    record {
      forest = forest_down c next x w m f;
      lighter = λ b. rw r (lighter b);
      falls = (c, rw r (omega (arith, g, h, d, depth_most t next)));
      tree = refl;
      path = ready_new t v (without (Bubble c) rows) y (next_goes t x.list v inside covered l).0;
    }
