-- The semaphores of a node and the threads that wait for them, once one was lowered or raised, or once one more was made.
use Rattle.std.proofs.Common.{arith, ◌≡◌, ℕ, ◌<◌, ◌≤◌, ◌-◌, ◌+◌, ◌⊎◌, inl, inr, List, [], ◌∷◌, ◌++◌, length, Option, Some, None, Bool, true, false, eqb, cond, ◌&&◌, refl, sym, ap, ◌∙◌, subst}
use Rattle.std.specs.Prelude.{slice_get, slice_index_or, option_map, unwrap_or, All, ◌^◌}
use Rattle.std.proofs.lemmas.Bool.{eq-eqb, eqb-true, eqb-false}
use Rattle.std.proofs.lemmas.Option.{slice_get_cases}
use Rattle.std.proofs.lemmas.List.Elements.{All-set, All-push}
use Rattle.slot_space.specs.declared.names.Tid.{Tid}
use Rattle.marcel_sync.specs.declared.sem.SemRow.{SemRow}
use Rattle.marcel_sync.specs.declared.sem.Pgot.TheVariants as lowering
use Rattle.marcel_sync.specs.declared.sem.Vgot.TheVariants as raising
use Rattle.marcel_sync.specs.Rows.{row_of}
use Rattle.marcel_sync.specs.Semaphores.{IsSemaphore, node_in, number_in, p_answer, after_p, v_of, v_answer, left_by_v, after_v, with_sem, sem_changed, lowered_answer, lowered, raised_answer, raised, with_one_more, waiters_of, waiters_at}
use Rattle.run_trace.specs.Names.{is_tid}
use Rattle.run_trace.specs.Keyed.{StandsFor, item_of}
use Rattle.run_trace.specs.Spots.{Queues, Life, On, Spot}
use Rattle.run_trace.specs.Stands.{waiter_name, waiter_in_life, waiter_part}
use Rattle.run_trace.proofs.Lemmas.{is-refl}
use Rattle.trace_laws.proofs.Lists.Births.{get-push, get-past, get-set}

-- ## All rows are semaphores

-- the one of that number is
all_get : {A : Type 0} (P : A → Type 0) (xs : List A) (k : ℕ) (x : A) → All P xs → slice_get xs k ≡ Some x → P x
all_get {A} P xs k x a h = by (slice_get_cases xs k).1
  where
    by : ((y : A) × (k < length xs) × (slice_get xs k ≡ Some y) × (slice_index_or xs k y ≡ y)) ⊎ ((length xs ≤ k) × (slice_get xs k ≡ None)) → P x
    by (inl c) = let same : c.0 ≡ x = cc (c.2, h) in subst P (c.3 ∙ same) (a k c.0 c.1)
    by (inr c) = absurd (cc (c.1, h))

-- after a change that leaves each row a semaphore
all_changed : (change : SemRow → SemRow) (k : ℕ) (sems : List SemRow) → ((sem : SemRow) → IsSemaphore sem → IsSemaphore (change sem)) → All IsSemaphore sems → All IsSemaphore (sem_changed change k sems)
all_changed change k sems each a = by (slice_get sems k) refl
  where
    by : (o : Option SemRow) → slice_get sems k ≡ o → All IsSemaphore (with_sem k sems (option_map change o))
    by None e = a
    by (Some sem) e = All-set IsSemaphore sems k (change sem) (each sem (all_get IsSemaphore sems k sem a e)) a

p_sem : (waiter : Tid × ℕ) (sem : SemRow) → IsSemaphore sem → IsSemaphore (after_p waiter sem)
p_sem waiter sem s = by (eqb sem.value 0) refl
  where
    by : (v : Bool) → eqb sem.value 0 ≡ v → IsSemaphore (cond v (row_of sem.value (sem.waiters ++ waiter ∷ [])) (row_of (sem.value - 1) sem.waiters))
    by true e = record { small = s.small; waits = λ more. (let none : sem.value ≡ 0 = eqb-true sem.value 0 e in absurd (omega (arith, more, none))) }
    by false e = record { small = omega (arith, s.small); waits = λ more. s.waits (omega (arith, more)) }

v_sem : (sem : SemRow) → IsSemaphore sem → IsSemaphore (after_v sem)
v_sem sem s = by sem.waiters refl
  where
    by_limit : (v : Bool) → eqb sem.value (2 ^ 31 - 1) ≡ v → IsSemaphore (row_of (cond v sem.value (sem.value + 1)) [])
    by_limit true e = record { small = s.small; waits = λ more. refl }
    by_limit false e = record { small = (let other : sem.value ≡ 2 ^ 31 - 1 → ⊥ = eqb-false sem.value (2 ^ 31 - 1) e in omega (arith, s.small, other)); waits = λ more. refl }

    by : (waiters : List (Tid × ℕ)) → sem.waiters ≡ waiters → IsSemaphore (left_by_v sem.value waiters)
    by [] e = by_limit (eqb sem.value (2 ^ 31 - 1)) refl
    by (first ∷ rest) e = record { small = s.small; waits = λ more. absurd (cc (s.waits more, e)) }

pub lowered_sems : (k : ℕ) (waiter : Tid × ℕ) (sems : List SemRow) → All IsSemaphore sems → All IsSemaphore (lowered k waiter sems)
lowered_sems k waiter sems a = all_changed (after_p waiter) k sems (p_sem waiter) a

pub raised_sems : (k : ℕ) (sems : List SemRow) → All IsSemaphore sems → All IsSemaphore (raised k sems)
raised_sems k sems a = all_changed after_v k sems v_sem a

pub more_sems : (value : ℕ) (sems : List SemRow) → value < 2 ^ 31 → All IsSemaphore sems → All IsSemaphore (with_one_more value sems)
more_sems value sems small a = All-push IsSemaphore sems (row_of value []) a (record { small = small; waits = λ more. refl })

-- ## Who waits for each

of_cond : (v : Bool) (sem : SemRow) (o : Option SemRow) → waiters_of (cond v (Some sem) o) ≡ cond v sem.waiters (waiters_of o)
of_cond true sem o = refl
of_cond false sem o = refl

changed_none : (change : SemRow → SemRow) (k : ℕ) (sems : List SemRow) → slice_get sems k ≡ None → sem_changed change k sems ≡ sems
changed_none change k sems e = ap (λ o. with_sem k sems (option_map change o)) e

changed_waiters : (change : SemRow → SemRow) (k : ℕ) (sems : List SemRow) (sem : SemRow) → slice_get sems k ≡ Some sem → (j : ℕ) → waiters_at j (sem_changed change k sems) ≡ cond (eqb k j) (change sem).waiters (waiters_at j sems)
changed_waiters change k sems sem e j =
    ap (λ o. waiters_at j (with_sem k sems (option_map change o))) e ∙ ap waiters_of (get-set sems k j (change sem) sem e) ∙ of_cond (eqb k j) (change sem) (slice_get sems j)

-- one that keeps its waiters
changed_same : (change : SemRow → SemRow) (k : ℕ) (sems : List SemRow) (sem : SemRow) → slice_get sems k ≡ Some sem → (change sem).waiters ≡ sem.waiters → (j : ℕ) → waiters_at j (sem_changed change k sems) ≡ waiters_at j sems
changed_same change k sems sem e same j = changed_waiters change k sems sem e j ∙ elim (eqb k j) as (λ v. eqb k j ≡ v → cond v (change sem).waiters (waiters_at j sems) ≡ waiters_at j sems) [
  | true ↦ λ f. same ∙ sym (ap waiters_of e) ∙ ap (λ i. waiters_at i sems) (eqb-true k j f)
  | false ↦ λ f. refl
] refl

-- one more, for which nobody waits
pub more_waiters : (value : ℕ) (sems : List SemRow) (j : ℕ) → waiters_at j (with_one_more value sems) ≡ waiters_at j sems
more_waiters value sems j = ap waiters_of (get-push sems (row_of value []) j) ∙ of_cond (eqb j (length sems)) (row_of value []) (slice_get sems j)
    ∙ elim (eqb j (length sems)) as (λ v. eqb j (length sems) ≡ v → cond v [] (waiters_at j sems) ≡ waiters_at j sems) [
      | true ↦ λ e. sym (ap waiters_of (ap (slice_get sems) (eqb-true j (length sems) e) ∙ get-past sems))
      | false ↦ λ e. refl
    ] refl

-- where its thread need not wait
pub lowered_same : (k : ℕ) (waiter : Tid × ℕ) (sems : List SemRow) → (lowered_answer k sems ≡ lowering.Later → ⊥) → (j : ℕ) → waiters_at j (lowered k waiter sems) ≡ waiters_at j sems
lowered_same k waiter sems goes_on j = by (slice_get sems k) refl
  where
    by_value : (sem : SemRow) → slice_get sems k ≡ Some sem → (v : Bool) → eqb sem.value 0 ≡ v → (after_p waiter sem).waiters ≡ sem.waiters
    by_value sem e true f = absurd (goes_on (ap (λ o. unwrap_or (option_map p_answer o) lowering.NoSuch) e ∙ (rw f refl)))
    by_value sem e false f = rw f refl

    by : (o : Option SemRow) → slice_get sems k ≡ o → waiters_at j (lowered k waiter sems) ≡ waiters_at j sems
    by None e = ap (waiters_at j) (changed_none (after_p waiter) k sems e)
    by (Some sem) e = changed_same (after_p waiter) k sems sem e (by_value sem e (eqb sem.value 0) refl) j

-- and where it is the last that waits
pub lowered_more : (k : ℕ) (waiter : Tid × ℕ) (sems : List SemRow) → lowered_answer k sems ≡ lowering.Later → (j : ℕ) → waiters_at j (lowered k waiter sems) ≡ cond (eqb k j) (waiters_at k sems ++ waiter ∷ []) (waiters_at j sems)
lowered_more k waiter sems later j = by (slice_get sems k) refl
  where
    by_value : (sem : SemRow) → slice_get sems k ≡ Some sem → (v : Bool) → eqb sem.value 0 ≡ v → (after_p waiter sem).waiters ≡ sem.waiters ++ waiter ∷ []
    by_value sem e true f = rw f refl
    by_value sem e false f = let got : lowered_answer k sems ≡ lowering.Got = ap (λ o. unwrap_or (option_map p_answer o) lowering.NoSuch) e ∙ (rw f refl) in absurd (cc (got, later))

    by : (o : Option SemRow) → slice_get sems k ≡ o → waiters_at j (lowered k waiter sems) ≡ cond (eqb k j) (waiters_at k sems ++ waiter ∷ []) (waiters_at j sems)
    by None e = let none : lowered_answer k sems ≡ lowering.NoSuch = ap (λ o. unwrap_or (option_map p_answer o) lowering.NoSuch) e in absurd (cc (none, later))
    by (Some sem) e = changed_waiters (after_p waiter) k sems sem e j
        ∙ ap (λ ws. cond (eqb k j) ws (waiters_at j sems)) (by_value sem e (eqb sem.value 0) refl ∙ ap (λ ws. ws ++ waiter ∷ []) (sym (ap waiters_of e)))

-- where no thread waited
pub raised_same : (k : ℕ) (sems : List SemRow) → ((u : Tid) (at : ℕ) → raised_answer k sems ≡ raising.Woke u at → ⊥) → (j : ℕ) → waiters_at j (raised k sems) ≡ waiters_at j sems
raised_same k sems none j = by (slice_get sems k) refl
  where
    by_waiters : (sem : SemRow) → slice_get sems k ≡ Some sem → (ws : List (Tid × ℕ)) → sem.waiters ≡ ws → (after_v sem).waiters ≡ sem.waiters
    by_waiters sem e [] f = ap (λ ws. (left_by_v sem.value ws).waiters) f ∙ sym f
    by_waiters sem e (first ∷ rest) f = absurd (none first.0 first.1 (ap (λ o. unwrap_or (option_map v_answer o) raising.NoSuch) e ∙ ap (v_of sem.value) f))

    by : (o : Option SemRow) → slice_get sems k ≡ o → waiters_at j (raised k sems) ≡ waiters_at j sems
    by None e = ap (waiters_at j) (changed_none after_v k sems e)
    by (Some sem) e = changed_same after_v k sems sem e (by_waiters sem e sem.waiters refl) j

-- the first of those that wait for semaphore k is let go
pub record IsShortened (k : ℕ) (first : Tid × ℕ) (old new : List SemRow) : Type 0 where
  pub was : waiters_at k old ≡ first ∷ waiters_at k new
  pub others : (j : ℕ) → eqb k j ≡ false → waiters_at j new ≡ waiters_at j old

at_limit : (value : ℕ) (u : Tid) (at : ℕ) → v_of value [] ≡ raising.Woke u at → ⊥
at_limit value u at h = by (eqb value (2 ^ 31 - 1)) h
  where
    by : (v : Bool) → cond v raising.AtLimit raising.Stored ≡ raising.Woke u at → ⊥
    by true e = absurd (cc e)
    by false e = absurd (cc e)

pub raised_less : (k : ℕ) (sems : List SemRow) (u : Tid) (at : ℕ) → raised_answer k sems ≡ raising.Woke u at → IsShortened k (u, at) sems (raised k sems)
raised_less k sems u at woke = by (slice_get sems k) refl
  where
    by_waiters : (sem : SemRow) → slice_get sems k ≡ Some sem → (ws : List (Tid × ℕ)) → sem.waiters ≡ ws → IsShortened k (u, at) sems (raised k sems)
    by_waiters sem e [] f = absurd (at_limit sem.value u at (sym (ap (λ o. unwrap_or (option_map v_answer o) raising.NoSuch) e ∙ ap (v_of sem.value) f) ∙ woke))
    by_waiters sem e (first ∷ rest) f =
        let got : raising.Woke first.0 first.1 ≡ raising.Woke u at = sym (ap (λ o. unwrap_or (option_map v_answer o) raising.NoSuch) e ∙ ap (v_of sem.value) f) ∙ woke in
        let who : first.0 ≡ u = cc got in
        let where_it_is : first.1 ≡ at = cc got in
        record {
          was = ap waiters_of e ∙ f ∙ ap (λ z. (z, first.1) ∷ rest) who ∙ ap (λ z. (u, z) ∷ rest) where_it_is
              ∙ ap (λ ws. (u, at) ∷ ws) (sym (changed_waiters after_v k sems sem e k ∙ ap (λ v. cond v (after_v sem).waiters (waiters_at k sems)) (eq-eqb k k refl) ∙ ap (λ ws. (left_by_v sem.value ws).waiters) f));
          others = λ j g. changed_waiters after_v k sems sem e j ∙ ap (λ v. cond v (after_v sem).waiters (waiters_at j sems)) g;
        }

    by : (o : Option SemRow) → slice_get sems k ≡ o → IsShortened k (u, at) sems (raised k sems)
    by None e = let none : raised_answer k sems ≡ raising.NoSuch = ap (λ o. unwrap_or (option_map v_answer o) raising.NoSuch) e in absurd (cc (none, woke))
    by (Some sem) e = by_waiters sem e sem.waiters refl

-- ## Who is the first that waits

-- a life that waits for semaphore k of node n
pub record IsWaiting (n k at : ℕ) (waiting : Life) : Type 0 where
  pub id : ℕ
  pub life : waiting ≡ On at (Queues id)
  pub node : node_in id ≡ n
  pub number : number_in id ≡ k

waiting_as : (n k : ℕ) (u : Tid) (at : ℕ) (life : Life) → waiter_in_life n k u life ≡ Some (u, at) → IsWaiting n k at life
waiting_as n k u at (On m (Queues id)) h = by (eqb (node_in id) n) (eqb (number_in id) k) refl refl h
  where
    by : (a b : Bool) → eqb (node_in id) n ≡ a → eqb (number_in id) k ≡ b → cond {A = Option (Tid × ℕ)} (a && b) (Some (u, m)) None ≡ Some (u, at) → IsWaiting n k at (On m (Queues id))
    by true true e f g = let pair : (u, m) ≡ (u, at) = cc g in let same : m ≡ at = ap (λ (x : Tid × ℕ). x.1) pair in record { id = id; life = ap (λ i. On i (Queues id)) same; node = eqb-true (node_in id) n e; number = eqb-true (number_in id) k f }
    by true false e f g = absurd (cc g)
    by false b e f g = absurd (cc g)
waiting_as n k u at life h = absurd (cc h)

-- a thread that a queue shows first waits for that semaphore
pub first_waits : (n k : ℕ) (u : Tid) (at : ℕ) (rest xs : List (Tid × ℕ)) (w : Tid → Spot) → StandsFor is_tid waiter_name (waiter_part n k) xs w → xs ≡ (u, at) ∷ rest → IsWaiting n k at (w u).life
first_waits n k u at rest xs w stands first = waiting_as n k u at (w u).life (sym (stands.shows u) ∙ ap (λ ys. item_of is_tid waiter_name ys u) first ∙ (rw (is-refl u) refl))
