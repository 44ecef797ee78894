-- The pick ends with a thread where the path has an entity.
use Rattle.std.proofs.Common.{◌≡◌, ℕ, zero, suc, ◌-◌, ◌<◌, ◌≤◌, List, [], ◌∷◌, length, Option, Some, None, true, refl, sym, subst, ap, ◌∙◌, arith}
use Rattle.levels.specs.declared.entity.Entity.{Entity}
use Rattle.levels.specs.declared.entity.Entity.TheVariants.{Bubble}
use Rattle.levels.specs.declared.entity.Place.{Place}
use Rattle.levels.specs.Trees.{depth_of, covers}
use Rattle.levels.specs.Rows.{place_of}
use Rattle.levels.specs.Choice.{has_ready}
use Rattle.levels.proofs.Lemmas.{ready_new, ready_more, depth_most}
use Rattle.bubbles.specs.declared.bubble.BubbleState.{BubbleState}
use Rattle.bubbles.specs.declared.bubble.BubbleState.TheVariants.{Filling, Held, Queued, Burst as IsBurst}
use Rattle.bubbles.specs.declared.bubble.BubbleRow.{BubbleRow}
use Rattle.bubbles.specs.Rows.{with_state, bubble_of, members_of}
use Rattle.bubbles.specs.Forests.{ForestView, arrives, all_arrive}
use Rattle.bubbles.specs.Standing.{on, queued_as, queued, fills, filled, IsForest}
use Rattle.bubbles.specs.Picking.{bursting, burst}
use Rattle.bubbles.proofs.Weights.{below, weight, weight_as, weight_of}
use Rattle.bubbles.proofs.Arrive.{row_of, all_midst, all_light, midst_open, light_open, gone_open}

-- ## The path keeps an entity

pub path_all : (v list : ℕ) (es : List Entity) (w : ForestView) → has_ready w.lists.tree v w.lists.rows ≡ true → has_ready w.lists.tree v (all_arrive list es w).lists.rows ≡ true
path_all v list [] w h = h
path_all v list (e ∷ es) w h = path_all v list es (arrives list e w) (ready_more w.lists.tree v w.lists.rows (row_of list e w) h)

pub path_first : (v list : ℕ) (es : List Entity) (w : ForestView) → 1 ≤ length es → covers w.lists.tree v list ≡ true → has_ready w.lists.tree v (all_arrive list es w).lists.rows ≡ true
path_first v list [] w l p = absurd (omega arith)
path_first v list (e ∷ es) w l p = path_all v list es (arrives list e w) (ready_new w.lists.tree v w.lists.rows (row_of list e w) p)

-- ## A queued bubble

pub queued_filled : (o : Option BubbleRow) → queued o ≡ 1 → 1 ≤ filled o → 1 ≤ length (members_of o)
queued_filled None q f = absurd (omega arith)
queued_filled (Some x) q f = first x.state q f
  where
    first : (s : BubbleState) → queued_as s ≡ 1 → 1 ≤ fills s x.members → 1 ≤ length x.members
    first Filling q f = absurd (omega arith)
    first Held q f = absurd (omega arith)
    first Queued q f = f
    first IsBurst q f = absurd (omega arith)

pub queued_weight : (d : ℕ) (o : Option BubbleRow) → queued o ≡ 1 → weight d o ≡ d
queued_weight d None q = absurd (omega arith)
queued_weight d (Some x) q = first x.state q
  where
    first : (s : BubbleState) → queued_as s ≡ 1 → weight_as d s ≡ d
    first Filling q = absurd (omega arith)
    first Held q = absurd (omega arith)
    first Queued q = refl
    first IsBurst q = absurd (omega arith)

pub requeue : (xs : List BubbleRow) (b : ℕ) → queued (bubble_of b xs) ≡ 1 → with_state b Queued xs ≡ xs
requeue [] b q = refl
requeue (x ∷ xs) zero q = ap (λ (s : BubbleState). record x { state = s } ∷ xs) (first x.state q)
  where
    first : (s : BubbleState) → queued_as s ≡ 1 → Queued ≡ s
    first Filling q = absurd (omega arith)
    first Held q = absurd (omega arith)
    first Queued q = refl
    first IsBurst q = absurd (omega arith)
requeue (x ∷ xs) (suc b) q = ap (λ ys. x ∷ ys) (requeue xs b q)

-- ## What a move keeps

pub record Goes (v : ℕ) (w u : ForestView) : Type 0 where
  pub forest : IsForest u
  pub lighter : (b : ℕ) → weight_of u b ≤ weight_of w b
  pub falls : (c : ℕ) × (weight_of u c < weight_of w c)
  pub tree : u.lists.tree ≡ w.lists.tree
  pub path : has_ready u.lists.tree v u.lists.rows ≡ true

pub tree_arrives : (list : ℕ) (es : List Entity) (w : ForestView) → (all_arrive list es w).lists.tree ≡ w.lists.tree
tree_arrives list [] w = refl
tree_arrives list (e ∷ es) w = tree_arrives list es (arrives list e w)

pub burst_goes : (v c : ℕ) (x : Place) (w : ForestView) → IsForest w → place_of (Bubble c) w.lists.rows ≡ Some x → covers w.lists.tree v x.list ≡ true → Goes v w (burst c x.list w).after
burst_goes v c x w m f p =
    let o : Option BubbleRow = bubble_of c w.bubbles in
    let q : queued o ≡ 1 = sym (m.queues c) ∙ ap on f in
    let ms = members_of o in
    let u : ForestView = bursting c w in
    let mid = midst_open c w m q in
    let g : weight_of w c ≡ 3 - depth_of w.lists.tree x.list = queued_weight (below w.lists.tree (place_of (Bubble c) w.lists.rows)) o q ∙ ap (below w.lists.tree) f in
    record {
      forest = all_midst x.list ms u mid;
      lighter = λ b. omega (arith, all_light x.list ms u mid b, light_open c w b);
      falls = (c, omega (arith, all_light x.list ms u mid c, gone_open c w, g, depth_most w.lists.tree x.list));
      tree = tree_arrives x.list ms u;
      path = subst (λ t. has_ready t v (all_arrive x.list ms u).lists.rows ≡ true) (sym (tree_arrives x.list ms u)) (path_first v x.list ms u (queued_filled o q (m.fills_up c)) p);
    }
