-- Each move keeps the forest, and lowers what is left.
use Rattle.std.proofs.Common.{◌≡◌, ℕ, suc, ◌+◌, ◌≤◌, List, ◌∷◌, length, Option, Some, None, false, refl, arith}
use Rattle.std.proofs.lemmas.Bool.{eq-eqb, ne_eqb}
use Rattle.levels.specs.declared.entity.Entity.{Entity}
use Rattle.levels.specs.declared.entity.Entity.TheVariants.{Bubble}
use Rattle.levels.specs.declared.entity.Place.{Place}
use Rattle.levels.specs.Trees.{Tree}
use Rattle.levels.specs.Rows.{is_entity}
use Rattle.bubbles.specs.declared.bubble.BubbleState.{BubbleState}
use Rattle.bubbles.specs.declared.bubble.BubbleState.TheVariants.{Filling, Held, Queued, Burst as IsBurst}
use Rattle.bubbles.specs.declared.bubble.BubbleRow.{BubbleRow}
use Rattle.bubbles.specs.Rows.{bubble_of}
use Rattle.bubbles.specs.Forests.{ForestView}
use Rattle.bubbles.specs.Standing.{on, queued_as, held_as, queued, held, count, inside, fills, filled, IsMidst}
use Rattle.bubbles.proofs.Weights.{below, weight_as, weight}
use Rattle.bubbles.proofs.Counts.{in_state, held_once}

pub on_none : (o : Option Place) → on o ≡ 0 → o ≡ None
on_none None h = refl
on_none (Some x) h = absurd (omega arith)

-- ## States

pub queued_now : (o : Option BubbleRow) → held o ≡ 1 → queued (in_state Queued o) ≡ 1
queued_now None h = absurd (omega arith)
queued_now (Some x) h = refl

pub held_now : (o : Option BubbleRow) → held (in_state Queued o) ≡ 0
held_now None = refl
held_now (Some x) = refl

pub held_not_queued : (o : Option BubbleRow) → held o ≡ 1 → queued o ≡ 0
held_not_queued None h = refl
held_not_queued (Some x) h = first x.state h
  where
    first : (s : BubbleState) → held_as s ≡ 1 → queued_as s ≡ 0
    first Filling q = refl
    first Held q = refl
    first Queued q = absurd (omega arith)
    first IsBurst q = refl

pub queued_not_held : (o : Option BubbleRow) → queued o ≡ 1 → held o ≡ 0
queued_not_held None h = refl
queued_not_held (Some x) h = first x.state h
  where
    first : (s : BubbleState) → queued_as s ≡ 1 → held_as s ≡ 0
    first Filling q = refl
    first Held q = absurd (omega arith)
    first Queued q = refl
    first IsBurst q = refl

pub filled_now : (o : Option BubbleRow) → held o ≡ 1 → 1 ≤ filled o → 1 ≤ filled (in_state Queued o)
filled_now None h f = f
filled_now (Some x) h f = first x.state h f
  where
    first : (s : BubbleState) → held_as s ≡ 1 → 1 ≤ fills s x.members → 1 ≤ length x.members
    first Filling q f = absurd (omega arith)
    first Held q f = f
    first Queued q f = f
    first IsBurst q f = absurd (omega arith)

pub burst_queued : (o : Option BubbleRow) → (queued (in_state IsBurst o) ≡ 0) × (held (in_state IsBurst o) ≡ 0) × (1 ≤ filled (in_state IsBurst o))
burst_queued None = (refl, refl, omega arith)
burst_queued (Some x) = (refl, refl, omega arith)

pub weight_burst : (d : ℕ) (o : Option BubbleRow) → weight d (in_state IsBurst o) ≡ 0
weight_burst d None = refl
weight_burst d (Some x) = refl

pub weight_held : (d e : ℕ) (o : Option BubbleRow) → held o ≡ 1 → e ≤ 3 → weight e (in_state Queued o) ≤ weight d o
weight_held d e None h l = omega arith
weight_held d e (Some x) h l = first x.state h
  where
    first : (s : BubbleState) → held_as s ≡ 1 → e ≤ weight_as d s
    first Filling q = absurd (omega arith)
    first Held q = l
    first Queued q = absurd (omega arith)
    first IsBurst q = absurd (omega arith)

pub below_most : (t : Tree) (o : Option Place) → below t o ≤ 3
below_most t None = omega arith
below_most t (Some x) = omega arith

pub bubbles_differ : (b c : ℕ) → (b ≡ c → ⊥) → is_entity (Bubble b) (Bubble c) ≡ false
bubbles_differ b c h = ne_eqb b c h

pub count_self : (c : ℕ) (es : List Entity) → count (Bubble c) (Bubble c ∷ es) ≡ suc (count (Bubble c) es)
count_self c es = rw (eq-eqb c c refl)

pub count_other : (b c : ℕ) (es : List Entity) → (c ≡ b → ⊥) → count (Bubble b) (Bubble c ∷ es) ≡ count (Bubble b) es
count_other b c es h = rw (ne_eqb c b h)

-- ## A bubble that was held arrives

pub bubble_is_held : (c : ℕ) (es : List Entity) (w : ForestView) → IsMidst (Bubble c ∷ es) w → (held (bubble_of c w.bubbles) ≡ 1) × (inside (Bubble c) w.bubbles + count (Bubble c) es ≡ 0)
bubble_is_held c es w m =
    let h = m.holds c in
    let n = count_self c es in
    let o = held_once (bubble_of c w.bubbles) in
    (omega (arith, h, n, o), omega (arith, h, n, o))
