-- The threads that are known, by their names.
use Rattle.std.proofs.Common.{◌≡◌, ℕ, Bool, true, false, List, [], ◌∷◌, ◌++◌, Option, Some, None, cond, refl, sym, ap, ◌∙◌, arith}
use Rattle.slot_space.specs.declared.names.Tid.{Tid}
use Rattle.levels.specs.declared.entity.Entity.{Entity}
use Rattle.levels.specs.declared.entity.Entity.TheVariants.{Thread}
use Rattle.levels.specs.Rows.{is_entity}
use Rattle.levels.proofs.Lemmas.{is_same, is_itself, not_back}
use Rattle.bubbles.specs.declared.bubble.KnownThread.{KnownThread}
use Rattle.bubbles.specs.Rows.{thread_of, AreNamed, picked_from, with_last, without_thread}

same_name : (a b : Tid) → is_entity (Thread a) (Thread b) ≡ true → a ≡ b
same_name a b h = ap name (is_same (Thread a) (Thread b) h)
  where
    name : Entity → Tid
    name (Thread t) = t
    name _ = a

-- ## One more

pub known_added_other : (xs : List KnownThread) (x : KnownThread) (u : Tid) → is_entity (Thread x.tid) (Thread u) ≡ false → thread_of u (xs ++ x ∷ []) ≡ thread_of u xs
known_added_other [] x u h = rw h refl
known_added_other (y ∷ xs) x u h = elim (is_entity (Thread y.tid) (Thread u)) as (λ v. cond v (Some y) (thread_of u (xs ++ x ∷ [])) ≡ cond v (Some y) (thread_of u xs)) [ true ↦ refl | false ↦ known_added_other xs x u h ]

pub known_added : (xs : List KnownThread) (x : KnownThread) → thread_of x.tid xs ≡ None → thread_of x.tid (xs ++ x ∷ []) ≡ Some x
known_added [] x n = rw (is_itself (Thread x.tid)) refl
known_added (y ∷ xs) x n =
    elim (is_entity (Thread y.tid) (Thread x.tid)) as (λ v. cond v (Some y) (thread_of x.tid xs) ≡ None → cond v (Some y) (thread_of x.tid (xs ++ x ∷ [])) ≡ Some x)
    [ true ↦ λ q. absurd (cc q) | false ↦ λ q. known_added xs x q ] n

pub named_added : (xs : List KnownThread) (x : KnownThread) → AreNamed xs → thread_of x.tid xs ≡ None → AreNamed (xs ++ x ∷ [])
named_added [] x a n = (refl, tt)
named_added (y ∷ xs) x a n =
    elim (is_entity (Thread y.tid) (Thread x.tid)) as (λ v. is_entity (Thread y.tid) (Thread x.tid) ≡ v → cond v (Some y) (thread_of x.tid xs) ≡ None → AreNamed ((y ∷ xs) ++ x ∷ []))
    [ true ↦ λ q k. absurd (cc k) | false ↦ λ q k. (known_added_other xs x y.tid (not_back (Thread y.tid) (Thread x.tid) q) ∙ a.0, named_added xs x a.1 k) ] refl n

-- ## Another last list

pub known_last : (xs : List KnownThread) (t : Tid) (list : ℕ) → thread_of t (with_last t list xs) ≡ picked_from list (thread_of t xs)
known_last [] t list = refl
known_last (y ∷ xs) t list =
    elim (is_entity (Thread y.tid) (Thread t)) as (λ v. is_entity (Thread y.tid) (Thread t) ≡ v → thread_of t (cond v (record y { last = list } ∷ xs) (y ∷ with_last t list xs)) ≡ picked_from list (cond v (Some y) (thread_of t xs)))
    [ true ↦ λ q. rw q refl | false ↦ λ q. rw q (known_last xs t list) ] refl

pub known_last_other : (xs : List KnownThread) (t u : Tid) (list : ℕ) → is_entity (Thread t) (Thread u) ≡ false → thread_of u (with_last t list xs) ≡ thread_of u xs
known_last_other [] t u list h = refl
known_last_other (y ∷ xs) t u list h =
    elim (is_entity (Thread y.tid) (Thread t)) as (λ v. is_entity (Thread y.tid) (Thread t) ≡ v → thread_of u (cond v (record y { last = list } ∷ xs) (y ∷ with_last t list xs)) ≡ thread_of u (y ∷ xs)) [
      | true ↦ λ q. let n : is_entity (Thread y.tid) (Thread u) ≡ false = ap (λ z. is_entity z (Thread u)) (is_same (Thread y.tid) (Thread t) q) ∙ h in rw n refl
      | false ↦ λ q. elim (is_entity (Thread y.tid) (Thread u)) as (λ v. cond v (Some y) (thread_of u (with_last t list xs)) ≡ cond v (Some y) (thread_of u xs)) [ true ↦ refl | false ↦ known_last_other xs t u list h ]
    ] refl

none_picked : (list : ℕ) (o : Option KnownThread) → o ≡ None → picked_from list o ≡ None
none_picked list None h = refl
none_picked list (Some x) h = absurd (cc h)

none_last : (xs : List KnownThread) (t u : Tid) (list : ℕ) → thread_of u xs ≡ None → thread_of u (with_last t list xs) ≡ None
none_last [] t u list h = refl
none_last (y ∷ xs) t u list h = grind (arith, none_last xs t u list, h)

pub named_last : (xs : List KnownThread) (t : Tid) (list : ℕ) → AreNamed xs → AreNamed (with_last t list xs)
named_last [] t list a = a
named_last (y ∷ xs) t list a = elim (is_entity (Thread y.tid) (Thread t)) as (λ v. AreNamed (cond v (record y { last = list } ∷ xs) (y ∷ with_last t list xs))) [ true ↦ a | false ↦ (none_last xs t y.tid list a.0, named_last xs t list a.1) ]

-- ## One less

pub known_out : (xs : List KnownThread) (t : Tid) → AreNamed xs → thread_of t (without_thread t xs) ≡ None
known_out [] t a = refl
known_out (y ∷ xs) t a =
    elim (is_entity (Thread y.tid) (Thread t)) as (λ v. is_entity (Thread y.tid) (Thread t) ≡ v → thread_of t (cond v xs (y ∷ without_thread t xs)) ≡ None) [
      | true ↦ λ q. ap (λ z. thread_of z xs) (sym (same_name y.tid t q)) ∙ a.0
      | false ↦ λ q. rw q (known_out xs t a.1)
    ] refl

pub known_out_other : (xs : List KnownThread) (t u : Tid) → is_entity (Thread t) (Thread u) ≡ false → thread_of u (without_thread t xs) ≡ thread_of u xs
known_out_other [] t u h = refl
known_out_other (y ∷ xs) t u h =
    elim (is_entity (Thread y.tid) (Thread t)) as (λ v. is_entity (Thread y.tid) (Thread t) ≡ v → thread_of u (cond v xs (y ∷ without_thread t xs)) ≡ thread_of u (y ∷ xs)) [
      | true ↦ λ q. let n : is_entity (Thread y.tid) (Thread u) ≡ false = ap (λ z. is_entity z (Thread u)) (is_same (Thread y.tid) (Thread t) q) ∙ h in rw n refl
      | false ↦ λ q. elim (is_entity (Thread y.tid) (Thread u)) as (λ v. cond v (Some y) (thread_of u (without_thread t xs)) ≡ cond v (Some y) (thread_of u xs)) [ true ↦ refl | false ↦ known_out_other xs t u h ]
    ] refl

none_out : (xs : List KnownThread) (t u : Tid) → thread_of u xs ≡ None → thread_of u (without_thread t xs) ≡ None
none_out [] t u h = refl
none_out (y ∷ xs) t u h = grind (arith, none_out xs t u, h)

pub named_out : (xs : List KnownThread) (t : Tid) → AreNamed xs → AreNamed (without_thread t xs)
named_out [] t a = a
named_out (y ∷ xs) t a = elim (is_entity (Thread y.tid) (Thread t)) as (λ v. AreNamed (cond v xs (y ∷ without_thread t xs))) [ true ↦ a.1 | false ↦ (none_out xs t y.tid a.0, named_out xs t a.1) ]
