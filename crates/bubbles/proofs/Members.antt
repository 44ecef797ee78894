-- Bubbles that come and take members.
use Rattle.std.proofs.Common.{◌≡◌, ℕ, zero, suc, ◌+◌, ◌<◌, ◌≤◌, List, [], ◌∷◌, ◌++◌, length, get_or, true, false, cond, refl, ap, arith, length-append}
use Rattle.std.specs.Prelude.{slice_set}
use Rattle.levels.specs.declared.entity.Entity.{Entity}
use Rattle.levels.specs.Rows.{is_entity}
use Rattle.bubbles.specs.declared.bubble.BubbleState.{BubbleState}
use Rattle.bubbles.specs.declared.bubble.BubbleState.TheVariants.{Filling, Held, Queued, Burst as IsBurst}
use Rattle.bubbles.specs.declared.bubble.BubbleRow.{BubbleRow}
use Rattle.bubbles.specs.Rows.{with_state, with_member, bubble_of, bubble_priority, is_filling_as, is_filling}
use Rattle.bubbles.specs.Standing.{shows, count, inside, queued, held, fills, filled}

-- ## What the code writes

pub member_set : (xs : List BubbleRow) (b : ℕ) (e : Entity) (d : BubbleRow) → b < length xs → slice_set xs b (record (get_or xs b d) { members = (get_or xs b d).members ++ e ∷ [] }) ≡ with_member b e xs
member_set [] b e d l = absurd (omega arith)
member_set (x ∷ xs) zero e d l = refl
member_set (x ∷ xs) (suc b) e d l = ap (λ ys. x ∷ ys) (member_set xs b e d (omega arith))

pub member_beyond : (xs : List BubbleRow) (b : ℕ) (e : Entity) → length xs ≤ b → with_member b e xs ≡ xs
member_beyond [] b e l = refl
member_beyond (x ∷ xs) zero e l = absurd (omega arith)
member_beyond (x ∷ xs) (suc b) e l = ap (λ ys. x ∷ ys) (member_beyond xs b e (omega arith))

-- ## Counts

pub count_joined : (u : Entity) (xs ys : List Entity) → count u (xs ++ ys) ≡ count u xs + count u ys
count_joined u [] ys = omega arith
count_joined u (x ∷ xs) ys = elim (is_entity x u) as (λ v. cond v (suc (count u (xs ++ ys))) (count u (xs ++ ys)) ≡ cond v (suc (count u xs)) (count u xs) + count u ys)
    [ true ↦ omega (arith, count_joined u xs ys) | false ↦ count_joined u xs ys ]

-- who becomes a member of a Filling bubble is in it once more
pub inside_member : (xs : List BubbleRow) (b : ℕ) (e u : Entity) → is_filling (bubble_of b xs) ≡ true → inside u (with_member b e xs) ≡ inside u xs + count u (e ∷ [])
inside_member [] b e u h = absurd (cc h)
inside_member (x ∷ xs) zero e u h = first x.state h
  where
    first : (s : BubbleState) → is_filling_as s ≡ true → count u (shows s (x.members ++ e ∷ [])) + inside u xs ≡ count u (shows s x.members) + inside u xs + count u (e ∷ [])
    first Filling q = omega (arith, count_joined u x.members (e ∷ []))
    first Held q = absurd (cc q)
    first Queued q = absurd (cc q)
    first IsBurst q = absurd (cc q)
inside_member (x ∷ xs) (suc b) e u h = omega (arith, inside_member xs b e u h)

-- a new bubble has nothing in it
pub inside_new : (xs : List BubbleRow) (x : BubbleRow) (u : Entity) → x.members ≡ [] → inside u (xs ++ x ∷ []) ≡ inside u xs
inside_new [] x u h = first x.state
  where
    first : (s : BubbleState) → count u (shows s x.members) + 0 ≡ 0
    first Filling = ap (λ es. count u es + 0) h
    first Held = ap (λ es. count u es + 0) h
    first Queued = ap (λ es. count u es + 0) h
    first IsBurst = refl
inside_new (y ∷ xs) x u h = ap (λ n. count u (shows y.state y.members) + n) (inside_new xs x u h)

-- a Filling bubble that is held keeps its members
pub inside_hold : (xs : List BubbleRow) (b : ℕ) (u : Entity) → is_filling (bubble_of b xs) ≡ true → inside u (with_state b Held xs) ≡ inside u xs
inside_hold [] b u h = refl
inside_hold (x ∷ xs) zero u h = first x.state h
  where
    first : (s : BubbleState) → is_filling_as s ≡ true → count u x.members + inside u xs ≡ count u (shows s x.members) + inside u xs
    first Filling q = refl
    first Held q = absurd (cc q)
    first Queued q = absurd (cc q)
    first IsBurst q = absurd (cc q)
inside_hold (x ∷ xs) (suc b) u h = ap (λ n. count u (shows x.state x.members) + n) (inside_hold xs b u h)

-- ## States

pub queued_member : (xs : List BubbleRow) (b a : ℕ) (e : Entity) → queued (bubble_of a (with_member b e xs)) ≡ queued (bubble_of a xs)
queued_member [] b a e = refl
queued_member (x ∷ xs) zero zero e = refl
queued_member (x ∷ xs) zero (suc a) e = refl
queued_member (x ∷ xs) (suc b) zero e = refl
queued_member (x ∷ xs) (suc b) (suc a) e = queued_member xs b a e

pub held_member : (xs : List BubbleRow) (b a : ℕ) (e : Entity) → held (bubble_of a (with_member b e xs)) ≡ held (bubble_of a xs)
held_member [] b a e = refl
held_member (x ∷ xs) zero zero e = refl
held_member (x ∷ xs) zero (suc a) e = refl
held_member (x ∷ xs) (suc b) zero e = refl
held_member (x ∷ xs) (suc b) (suc a) e = held_member xs b a e

pub filled_member : (xs : List BubbleRow) (b a : ℕ) (e : Entity) → 1 ≤ filled (bubble_of a xs) → 1 ≤ filled (bubble_of a (with_member b e xs))
filled_member [] b a e h = h
filled_member (x ∷ xs) zero zero e h = first x.state
  where
    more : 1 ≤ length (x.members ++ e ∷ [])
    more = omega (arith, length-append x.members (e ∷ []))

    first : (s : BubbleState) → 1 ≤ fills s (x.members ++ e ∷ [])
    first Filling = omega arith
    first Held = more
    first Queued = more
    first IsBurst = omega arith
filled_member (x ∷ xs) zero (suc a) e h = h
filled_member (x ∷ xs) (suc b) zero e h = h
filled_member (x ∷ xs) (suc b) (suc a) e h = filled_member xs b a e h

pub filling_state : (xs : List BubbleRow) (b c : ℕ) (s : BubbleState) → (b ≡ c → ⊥) → is_filling (bubble_of c (with_state b s xs)) ≡ is_filling (bubble_of c xs)
filling_state [] b c s h = refl
filling_state (x ∷ xs) zero zero s h = absurd (h refl)
filling_state (x ∷ xs) zero (suc c) s h = refl
filling_state (x ∷ xs) (suc b) zero s h = refl
filling_state (x ∷ xs) (suc b) (suc c) s h = filling_state xs b c s (λ e. h (ap suc e))

pub state_twice : (xs : List BubbleRow) (c : ℕ) (s u : BubbleState) → with_state c s (with_state c u xs) ≡ with_state c s xs
state_twice [] c s u = refl
state_twice (x ∷ xs) zero s u = refl
state_twice (x ∷ xs) (suc c) s u = ap (λ ys. x ∷ ys) (state_twice xs c s u)

pub priority_state : (xs : List BubbleRow) (c b : ℕ) (s : BubbleState) → bubble_priority (bubble_of b (with_state c s xs)) ≡ bubble_priority (bubble_of b xs)
priority_state [] c b s = refl
priority_state (x ∷ xs) zero zero s = refl
priority_state (x ∷ xs) zero (suc b) s = refl
priority_state (x ∷ xs) (suc c) zero s = refl
priority_state (x ∷ xs) (suc c) (suc b) s = priority_state xs c b s
