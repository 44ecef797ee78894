-- What leaves lists, bubbles and the node.
use Rattle.std.proofs.Common.{◌≡◌, ℕ, zero, suc, ◌+◌, ◌<◌, ◌≤◌, Bool, true, false, List, [], ◌∷◌, length, get_or, Some, None, cond, refl, sym, subst, ap, ◌∙◌, inl, inr, arith}
use Rattle.std.specs.Prelude.{is_some, slice_set, ◌⊎◌}
use Rattle.std.specs.List.{position, position_or_len, remove}
use Rattle.std.proofs.lemmas.Bool.Decides.{nat_tests}
use Rattle.slot_space.specs.declared.names.Tid.{Tid}
use Rattle.levels.specs.declared.entity.Entity.{Entity}
use Rattle.levels.specs.declared.entity.Entity.TheVariants.{Thread, Bubble}
use Rattle.levels.specs.Rows.{is_entity, place_of, without}
use Rattle.levels.proofs.Lemmas.{is_same, place_without_other, apart_without}
use Rattle.bubbles.specs.declared.bubble.BubbleState.{BubbleState}
use Rattle.bubbles.specs.declared.bubble.BubbleState.TheVariants.{Filling, Held, Queued, Burst as IsBurst}
use Rattle.bubbles.specs.declared.bubble.BubbleRow.{BubbleRow}
use Rattle.bubbles.specs.Rows.{bubble_of, members_of, thread_of, first_out, without_member}
use Rattle.bubbles.specs.Forests.{ForestView, gone, leaves}
use Rattle.bubbles.specs.Standing.{on, queued_as, held_as, queued, held, shows, count, inside, fills, filled, IsForest, IsLoose}
use Rattle.bubbles.proofs.Counts.{place_without_same}
use Rattle.bubbles.proofs.Known.{named_out}

-- ## The first item that passes

module _ {A : Type 0} (passes : A → Bool) where
  out_at : (xs : List A) (k : ℕ) → position_or_len passes xs ≡ k → k < length xs → first_out passes xs ≡ remove xs k
  out_at [] k e lt = absurd (omega arith)
  out_at (x ∷ xs) k e lt = by (passes x) refl k e lt (out_at xs)
    where
      by : (b : Bool) → passes x ≡ b → (k : ℕ) → position_or_len passes (x ∷ xs) ≡ k → k < length (x ∷ xs)
          → ((j : ℕ) → position_or_len passes xs ≡ j → j < length xs → first_out passes xs ≡ remove xs j) → first_out passes (x ∷ xs) ≡ remove (x ∷ xs) k
      by true h zero e lt more = rw h refl
      by true h (suc j) e lt more = absurd (let f = rw h at e in omega arith)
      by false h zero e lt more = absurd (let f = rw h at e in omega arith)
      by false h (suc j) e lt more =
          let f : 1 + position_or_len passes xs ≡ suc j = rw h at e in
          rw h (ap (λ (ys : List A). x ∷ ys) (more j (omega arith) (omega arith)))

  past_all : (xs : List A) → length xs ≤ position_or_len passes xs → first_out passes xs ≡ xs
  past_all [] h = refl
  past_all (x ∷ xs) h = by (passes x) refl (past_all xs)
    where
      by : (b : Bool) → passes x ≡ b → (length xs ≤ position_or_len passes xs → first_out passes xs ≡ xs) → first_out passes (x ∷ xs) ≡ x ∷ xs
      by true e more = absurd (let f = rw e at h in omega arith)
      by false e more =
          let f : suc (length xs) ≤ 1 + position_or_len passes xs = rw e at h in
          rw e (ap (λ (ys : List A). x ∷ ys) (more (omega arith)))

  pub found_out : (xs : List A) (i : ℕ) → position passes xs ≡ Some i → first_out passes xs ≡ remove xs i
  found_out xs i h =
      let inside : position_or_len passes xs < length xs = grind (arith, nat_tests) in
      let at : position_or_len passes xs ≡ i = grind (arith, nat_tests) in
      out_at xs i at (omega arith)

  pub none_out : (xs : List A) → position passes xs ≡ None → first_out passes xs ≡ xs
  none_out xs h =
      let past : length xs ≤ position_or_len passes xs = grind (arith, nat_tests) in
      past_all xs past

-- ## Bubbles one after another

-- from that number on the entity is a member of no bubble
abbrev pub without_from : ℕ → Entity → List BubbleRow → List BubbleRow
without_from zero e xs = without_member e xs
without_from (suc i) e [] = []
without_from (suc i) e (x ∷ xs) = x ∷ without_from i e xs

pub out_next : (xs : List BubbleRow) (i : ℕ) (e : Entity) (d : BubbleRow) → i < length xs
    → without_from (suc i) e (slice_set xs i (record (get_or xs i d) { members = first_out (λ m. is_entity m e) (get_or xs i d).members })) ≡ without_from i e xs
out_next [] i e d l = absurd (omega arith)
out_next (x ∷ xs) zero e d l = refl
out_next (x ∷ xs) (suc i) e d l = ap (λ ys. x ∷ ys) (out_next xs i e d (omega arith))

pub out_all : (xs : List BubbleRow) (i : ℕ) (e : Entity) → length xs ≤ i → without_from i e xs ≡ xs
out_all [] zero e l = refl
out_all [] (suc i) e l = refl
out_all (x ∷ xs) zero e l = absurd (omega arith)
out_all (x ∷ xs) (suc i) e l = ap (λ ys. x ∷ ys) (out_all xs i e (omega arith))

-- ## The forest is kept

pub count_less : (e u : Entity) (xs : List Entity) → count u (first_out (λ m. is_entity m e) xs) ≤ count u xs
count_less e u [] = omega arith
count_less e u (x ∷ xs) =
    elim (is_entity x e) as (λ v. count u (cond v xs (x ∷ first_out (λ m. is_entity m e) xs)) ≤ count u (x ∷ xs)) [
      | true ↦ elim (is_entity x u) as (λ c. count u xs ≤ cond c (suc (count u xs)) (count u xs)) [ true ↦ omega arith | false ↦ omega arith ]
      | false ↦ elim (is_entity x u) as (λ c. cond c (suc (count u (first_out (λ m. is_entity m e) xs))) (count u (first_out (λ m. is_entity m e) xs)) ≤ cond c (suc (count u xs)) (count u xs)) [ true ↦ omega (arith, count_less e u xs) | false ↦ count_less e u xs ]
    ]

pub count_other : (e u : Entity) (xs : List Entity) → is_entity e u ≡ false → count u (first_out (λ m. is_entity m e) xs) ≡ count u xs
count_other e u [] h = refl
count_other e u (x ∷ xs) h =
    elim (is_entity x e) as (λ v. is_entity x e ≡ v → count u (cond v xs (x ∷ first_out (λ m. is_entity m e) xs)) ≡ count u (x ∷ xs)) [
      | true ↦ λ q. let n : is_entity x u ≡ false = ap (λ z. is_entity z u) (is_same x e q) ∙ h in rw n refl
      | false ↦ λ q. elim (is_entity x u) as (λ c. cond c (suc (count u (first_out (λ m. is_entity m e) xs))) (count u (first_out (λ m. is_entity m e) xs)) ≡ cond c (suc (count u xs)) (count u xs)) [ true ↦ ap suc (count_other e u xs h) | false ↦ count_other e u xs h ]
    ] refl

-- who is no member leaves the members as they are
none_leaves : (e : Entity) (xs : List Entity) → count e xs ≡ 0 → first_out (λ m. is_entity m e) xs ≡ xs
none_leaves e [] h = refl
none_leaves e (x ∷ xs) h =
    elim (is_entity x e) as (λ v. cond v (suc (count e xs)) (count e xs) ≡ 0 → cond v xs (x ∷ first_out (λ m. is_entity m e) xs) ≡ x ∷ xs)
    [ true ↦ λ q. absurd (omega (arith, q)) | false ↦ λ q. ap (λ ys. x ∷ ys) (none_leaves e xs q) ] h

pub inside_less : (e u : Entity) (xs : List BubbleRow) → inside u (without_member e xs) ≤ inside u xs
inside_less e u [] = omega arith
inside_less e u (x ∷ xs) = omega (arith, first x.state, inside_less e u xs)
  where
    first : (s : BubbleState) → count u (shows s (first_out (λ m. is_entity m e) x.members)) ≤ count u (shows s x.members)
    first Filling = count_less e u x.members
    first Held = count_less e u x.members
    first Queued = count_less e u x.members
    first IsBurst = omega arith

pub inside_other : (e u : Entity) (xs : List BubbleRow) → is_entity e u ≡ false → inside u (without_member e xs) ≡ inside u xs
inside_other e u [] h = refl
inside_other e u (x ∷ xs) h = omega (arith, first x.state, inside_other e u xs h)
  where
    first : (s : BubbleState) → count u (shows s (first_out (λ m. is_entity m e) x.members)) ≡ count u (shows s x.members)
    first Filling = count_other e u x.members h
    first Held = count_other e u x.members h
    first Queued = count_other e u x.members h
    first IsBurst = refl

pub queued_left : (e : Entity) (xs : List BubbleRow) (b : ℕ) → queued (bubble_of b (without_member e xs)) ≡ queued (bubble_of b xs)
queued_left e [] b = refl
queued_left e (x ∷ xs) zero = refl
queued_left e (x ∷ xs) (suc b) = queued_left e xs b

pub held_left : (e : Entity) (xs : List BubbleRow) (b : ℕ) → held (bubble_of b (without_member e xs)) ≡ held (bubble_of b xs)
held_left e [] b = refl
held_left e (x ∷ xs) zero = refl
held_left e (x ∷ xs) (suc b) = held_left e xs b

pub filled_left : (e : Entity) (xs : List BubbleRow) (b : ℕ) → (held (bubble_of b xs) + queued (bubble_of b xs) ≡ 0) ⊎ (count e (members_of (bubble_of b xs)) ≡ 0) → 1 ≤ filled (bubble_of b xs) → 1 ≤ filled (bubble_of b (without_member e xs))
filled_left e [] b k h = h
filled_left e (x ∷ xs) zero (inl z) h = first x.state z
  where
    first : (s : BubbleState) → held_as s + queued_as s ≡ 0 → 1 ≤ fills s (first_out (λ m. is_entity m e) x.members)
    first Filling q = omega arith
    first Held q = absurd (omega (arith, q))
    first Queued q = absurd (omega (arith, q))
    first IsBurst q = omega arith
filled_left e (x ∷ xs) zero (inr z) h = rw (none_leaves e x.members z) h
filled_left e (x ∷ xs) (suc b) k h = filled_left e xs b k h

forest_gone : (t : Tid) (w : ForestView) → IsForest w → IsLoose t w → IsForest (gone t w)
forest_gone t w m k = record {
  apart = apart_without w.lists.rows (Thread t) m.apart;
  queues = λ b. ap on (place_without_other w.lists.rows (Thread t) (Bubble b) refl) ∙ m.queues b ∙ sym (queued_left (Thread t) w.bubbles b);
  holds = λ b. omega (arith, inside_other (Thread t) (Bubble b) w.bubbles refl, held_left (Thread t) w.bubbles b, m.holds b);
  fills_up = λ b. filled_left (Thread t) w.bubbles b (k b) (m.fills_up b);
  threads = λ u. elim (is_entity (Thread t) (Thread u)) as (λ c. is_entity (Thread t) (Thread u) ≡ c → on (place_of (Thread u) (without (Thread t) w.lists.rows)) + (inside (Thread u) (without_member (Thread t) w.bubbles) + 0) ≤ 1) [
    | true ↦ λ q. let z : on (place_of (Thread u) (without (Thread t) w.lists.rows)) ≡ 0 = subst (λ e. on (place_of e (without (Thread t) w.lists.rows)) ≡ 0) (is_same (Thread t) (Thread u) q) (place_without_same w.lists.rows (Thread t) m.apart) in omega (arith, z, inside_less (Thread t) (Thread u) w.bubbles, m.threads u)
    | false ↦ λ q. let p : on (place_of (Thread u) (without (Thread t) w.lists.rows)) ≡ on (place_of (Thread u) w.lists.rows) = ap on (place_without_other w.lists.rows (Thread t) (Thread u) q) in omega (arith, p, inside_less (Thread t) (Thread u) w.bubbles, m.threads u)
  ] refl;
  names = named_out w.threads t m.names;
}

pub forest_leaves : (t : Tid) (w : ForestView) → IsForest w → IsLoose t w → IsForest (leaves t w)
forest_leaves t w m k = elim (is_some (thread_of t w.threads)) as (λ c. IsForest (cond c (gone t w) w)) [ true ↦ forest_gone t w m k | false ↦ m ]
