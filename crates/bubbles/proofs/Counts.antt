-- Rows, states and members, one entity at a time.
use Rattle.std.proofs.Common.{◌≡◌, ℕ, zero, suc, ◌+◌, ◌*◌, ◌<◌, ◌≤◌, List, [], ◌∷◌, ◌++◌, Option, Some, None, true, false, eqb, cond, refl, subst, ap, arith}
use Rattle.std.proofs.lemmas.Bool.{eqb-true, eqb-false}
use Rattle.levels.specs.declared.entity.Entity.{Entity}
use Rattle.levels.specs.Rows.{Row, is_entity, place_of, without, AreApart}
use Rattle.levels.proofs.Lemmas.{place_without}
use Rattle.bubbles.specs.declared.bubble.BubbleState.{BubbleState}
use Rattle.bubbles.specs.declared.bubble.BubbleState.TheVariants.{Filling, Held, Queued, Burst as IsBurst}
use Rattle.bubbles.specs.declared.bubble.BubbleRow.{BubbleRow}
use Rattle.bubbles.specs.Rows.{with_state, bubble_of, members_of}
use Rattle.bubbles.proofs.Weights.{total}
use Rattle.bubbles.specs.Standing.{on, queued_as, held_as, queued, held, shows, count, inside}

-- who arrives stands on a list
pub place_added_same : (xs : List Row) (y : Row) (e : Entity) → is_entity y.0 e ≡ true → on (place_of e (xs ++ y ∷ [])) ≡ 1
place_added_same [] y e h = rw h refl
place_added_same (x ∷ xs) y e h = elim (is_entity x.0 e) as (λ v. on (cond v (Some x.1) (place_of e (xs ++ y ∷ []))) ≡ 1) [ true ↦ refl | false ↦ place_added_same xs y e h ]

-- who is taken off stands on none
pub place_without_same : (xs : List Row) (e : Entity) → AreApart xs → on (place_of e (without e xs)) ≡ 0
place_without_same xs e a = ap on (place_without xs e a)

pub state_other : (xs : List BubbleRow) (b c : ℕ) (s : BubbleState) → (b ≡ c → ⊥) → bubble_of c (with_state b s xs) ≡ bubble_of c xs
state_other [] b c s h = refl
state_other (x ∷ xs) zero zero s h = absurd (h refl)
state_other (x ∷ xs) zero (suc c) s h = refl
state_other (x ∷ xs) (suc b) zero s h = refl
state_other (x ∷ xs) (suc b) (suc c) s h = state_other xs b c s (λ e. h (ap suc e))

abbrev pub in_state : BubbleState → Option BubbleRow → Option BubbleRow
in_state s None = None
in_state s (Some x) = Some (record x { state = s })

pub state_same : (xs : List BubbleRow) (b : ℕ) (s : BubbleState) → bubble_of b (with_state b s xs) ≡ in_state s (bubble_of b xs)
state_same [] b s = refl
state_same (x ∷ xs) zero s = refl
state_same (x ∷ xs) (suc b) s = state_same xs b s

-- a queued bubble that bursts gives its members away
pub inside_burst : (xs : List BubbleRow) (b : ℕ) (e : Entity) → queued (bubble_of b xs) ≡ 1 → inside e (with_state b IsBurst xs) + count e (members_of (bubble_of b xs)) ≡ inside e xs
inside_burst [] b e h = refl
inside_burst (x ∷ xs) zero e h = first x.state h
  where
    first : (s : BubbleState) → queued_as s ≡ 1 → 0 + inside e xs + count e x.members ≡ count e (shows s x.members) + inside e xs
    first Filling q = absurd (omega arith)
    first Held q = absurd (omega arith)
    first Queued q = omega arith
    first IsBurst q = absurd (omega arith)
inside_burst (x ∷ xs) (suc b) e h = omega (arith, inside_burst xs b e h)

-- a held bubble that is queued keeps them
pub inside_queue : (xs : List BubbleRow) (b : ℕ) (e : Entity) → held (bubble_of b xs) ≡ 1 → inside e (with_state b Queued xs) ≡ inside e xs
inside_queue [] b e h = refl
inside_queue (x ∷ xs) zero e h = first x.state h
  where
    first : (s : BubbleState) → held_as s ≡ 1 → count e x.members + inside e xs ≡ count e (shows s x.members) + inside e xs
    first Filling q = absurd (omega arith)
    first Held q = refl
    first Queued q = absurd (omega arith)
    first IsBurst q = absurd (omega arith)
inside_queue (x ∷ xs) (suc b) e h = ap (λ n. count e (shows x.state x.members) + n) (inside_queue xs b e h)

pub held_once : (o : Option BubbleRow) → held o ≤ 1
held_once None = omega arith
held_once (Some x) = first x.state
  where
    first : (s : BubbleState) → held_as s ≤ 1
    first Filling = omega arith
    first Held = omega arith
    first Queued = omega arith
    first IsBurst = omega arith

-- ## Sums

pub total_most : (n m : ℕ) (f : ℕ → ℕ) → ((b : ℕ) → f b ≤ m) → total n f ≤ m * n
total_most zero m f h = omega arith
total_most (suc n) m f h = let e : m * suc n ≡ m * n + m = grind arith in rw e (omega (arith, total_most n m f h, h n))

pub total_le : (n : ℕ) (f g : ℕ → ℕ) → ((b : ℕ) → g b ≤ f b) → total n g ≤ total n f
total_le zero f g h = omega arith
total_le (suc n) f g h = omega (arith, total_le n f g h, h n)

pub total_less : (n k : ℕ) (f g : ℕ → ℕ) → ((b : ℕ) → g b ≤ f b) → k < n → g k < f k → total n g < total n f
total_less zero k f g h l s = absurd (omega arith)
total_less (suc n) k f g h l s =
    elim (eqb k n) as (λ v. eqb k n ≡ v → total n g + g n < total n f + f n) [
      | true ↦ λ q. let e : k ≡ n = eqb-true k n q in let s2 : g n < f n = subst (λ z. g z < f z) e s in omega (arith, total_le n f g h, s2)
      | false ↦ λ q. omega (arith, total_less n k f g h (omega (arith, eqb-false k n q)) s, h n)
    ] refl
