-- What the code writes at a place, in the words of the forest.
use Rattle.std.proofs.Common.{◌≡◌, ℕ, zero, suc, ◌<◌, ◌≤◌, List, [], ◌∷◌, length, get_or, take, drop, Some, None, true, false, cond, refl, sym, subst, ap, ◌∙◌, arith}
use Rattle.std.specs.Prelude.{slice_set, slice_get}
use Rattle.slot_space.specs.declared.names.Tid.{Tid}
use Rattle.levels.specs.declared.entity.Entity.{Entity}
use Rattle.levels.specs.declared.entity.Entity.TheVariants.{Thread, Bubble}
use Rattle.levels.specs.Rows.{is_entity}
use Rattle.bubbles.specs.declared.bubble.BubbleState.{BubbleState}
use Rattle.bubbles.specs.declared.bubble.BubbleRow.{BubbleRow}
use Rattle.bubbles.specs.declared.bubble.KnownThread.{KnownThread}
use Rattle.bubbles.specs.Rows.{with_state, thread_of, with_last, bubble_of, members_of}
use Rattle.bubbles.specs.Forests.{ForestView, arrives, as_queued, all_arrive}

pub state_set : (xs : List BubbleRow) (b : ℕ) (s : BubbleState) (d : BubbleRow) → b < length xs → slice_set xs b (record (get_or xs b d) { state = s }) ≡ with_state b s xs
state_set [] b s d l = absurd (omega arith)
state_set (x ∷ xs) zero s d l = refl
state_set (x ∷ xs) (suc b) s d l = ap (λ ys. x ∷ ys) (state_set xs b s d (omega arith))

pub state_beyond : (xs : List BubbleRow) (b : ℕ) (s : BubbleState) → length xs ≤ b → with_state b s xs ≡ xs
state_beyond [] b s l = refl
state_beyond (x ∷ xs) zero s l = absurd (omega arith)
state_beyond (x ∷ xs) (suc b) s l = ap (λ ys. x ∷ ys) (state_beyond xs b s (omega arith))

pub last_set : (xs : List KnownThread) (t : Tid) (i n : ℕ) (d : KnownThread) → i < length xs → thread_of t (take i xs) ≡ None → is_entity (Thread (get_or xs i d).tid) (Thread t) ≡ true → slice_set xs i (record (get_or xs i d) { last = n }) ≡ with_last t n xs
last_set [] t i n d l h e = absurd (omega arith)
last_set (x ∷ xs) t zero n d l h e = rw e
last_set (x ∷ xs) t (suc i) n d l h e =
    elim (is_entity (Thread x.tid) (Thread t)) as (λ v. cond v (Some x) (thread_of t (take i xs)) ≡ None → x ∷ slice_set xs i (record (get_or xs i d) { last = n }) ≡ cond v (record x { last = n } ∷ xs) (x ∷ with_last t n xs))
    [ true ↦ λ q. absurd (cc q) | false ↦ λ q. ap (λ ys. x ∷ ys) (last_set xs t i n d (omega arith) q e) ] h

pub last_not_yet : (xs : List KnownThread) (t : Tid) (i : ℕ) (d : KnownThread) → i < length xs → thread_of t (take i xs) ≡ None → is_entity (Thread (get_or xs i d).tid) (Thread t) ≡ false → thread_of t (take (suc i) xs) ≡ None
last_not_yet [] t i d l h e = absurd (omega arith)
last_not_yet (x ∷ xs) t zero d l h e = rw e
last_not_yet (x ∷ xs) t (suc i) d l h e =
    elim (is_entity (Thread x.tid) (Thread t)) as (λ v. cond v (Some x) (thread_of t (take i xs)) ≡ None → cond v (Some x) (thread_of t (take (suc i) xs)) ≡ None)
    [ true ↦ λ q. absurd (cc q) | false ↦ λ q. last_not_yet xs t i d (omega arith) q e ] h

pub last_none : (xs : List KnownThread) (t : Tid) (n : ℕ) → thread_of t xs ≡ None → with_last t n xs ≡ xs
last_none [] t n h = refl
last_none (x ∷ xs) t n h = grind (arith, last_none xs t n, h)

pub members_state : (xs : List BubbleRow) (c b : ℕ) (s : BubbleState) → members_of (bubble_of b (with_state c s xs)) ≡ members_of (bubble_of b xs)
members_state [] c b s = refl
members_state (x ∷ xs) zero zero s = refl
members_state (x ∷ xs) zero (suc b) s = refl
members_state (x ∷ xs) (suc c) zero s = refl
members_state (x ∷ xs) (suc c) (suc b) s = members_state xs c b s

pub members_queue : (e : Entity) (xs : List BubbleRow) (b : ℕ) → members_of (bubble_of b (as_queued e xs)) ≡ members_of (bubble_of b xs)
members_queue (Thread t) xs b = refl
members_queue (Bubble c) xs b = members_state xs c b _

pub drop_get : {A : Type 0} (xs : List A) (i : ℕ) (x : A) → slice_get xs i ≡ Some x → drop i xs ≡ x ∷ drop (suc i) xs
drop_get [] i x h = absurd (cc h)
drop_get (y ∷ xs) zero x h = cc
drop_get (y ∷ xs) (suc i) x h = drop_get xs i x h

pub drop_none : {A : Type 0} (xs : List A) (i : ℕ) → slice_get xs i ≡ None → drop i xs ≡ []
drop_none [] zero h = refl
drop_none [] (suc i) h = refl
drop_none (y ∷ xs) zero h = absurd (cc h)
drop_none (y ∷ xs) (suc i) h = drop_none xs i h

pub drop_past : {A : Type 0} (xs : List A) (i : ℕ) → slice_get xs i ≡ None → drop (suc i) xs ≡ []
drop_past [] i h = refl
drop_past (y ∷ xs) zero h = absurd (cc h)
drop_past (y ∷ xs) (suc i) h = drop_past xs i h

pub drop_all : {A : Type 0} (xs : List A) (i : ℕ) → length xs ≤ i → drop i xs ≡ []
drop_all [] zero h = refl
drop_all [] (suc i) h = refl
drop_all (y ∷ xs) zero h = absurd (omega arith)
drop_all (y ∷ xs) (suc i) h = drop_all xs i (omega arith)

pub get_within : {A : Type 0} (xs : List A) (i : ℕ) (x : A) → slice_get xs i ≡ Some x → i < length xs
get_within [] i x h = absurd (cc h)
get_within (y ∷ xs) zero x h = omega arith
get_within (y ∷ xs) (suc i) x h = omega (arith, get_within xs i x h)

pub arrived_next : (list b i : ℕ) (e : Entity) (w start : ForestView) (ms : List Entity) → slice_get ms i ≡ Some e
    → all_arrive list (drop i ms) w ≡ all_arrive list ms start → all_arrive list (drop (suc i) ms) (arrives list e w) ≡ all_arrive list ms start
arrived_next list b i e w start ms g h = subst (λ ys. all_arrive list ys w ≡ all_arrive list ms start) (drop_get ms i e g) h

pub skipped_next : (list i : ℕ) (w start : ForestView) (ms : List Entity) → slice_get ms i ≡ None
    → all_arrive list (drop i ms) w ≡ all_arrive list ms start → all_arrive list (drop (suc i) ms) w ≡ all_arrive list ms start
skipped_next list i w start ms g h = subst (λ ys. all_arrive list ys w ≡ all_arrive list ms start) (drop_none ms i g ∙ sym (drop_past ms i g)) h

pub all_done : (list i : ℕ) (w start : ForestView) (ms : List Entity) → length ms ≤ i
    → all_arrive list (drop i ms) w ≡ all_arrive list ms start → w ≡ all_arrive list ms start
all_done list i w start ms g h = subst (λ ys. all_arrive list ys w ≡ all_arrive list ms start) (drop_all ms i g) h
