-- What a home has of its births, after one of them has changed, and what all have of the threads, after one of them has.
use Rattle.std.proofs.Common.{◌≡◌, ℕ, List, Option, true, false, eqb, cond, refl, ap, ◌∙◌, subst}
use Rattle.std.specs.Prelude.{slice_get}
use Rattle.std.proofs.lemmas.Bool.{eq-eqb, eqb-true}
use Rattle.slot_space.specs.declared.names.Tid.{Tid}
use Rattle.marcel_core.specs.declared.birth.Birth.{Birth}
use Rattle.run_trace.specs.Names.{is_tid, tid}
use Rattle.run_trace.specs.Spots.{Awaits, Unborn, On, Spot, update, at_node}
use Rattle.run_trace.specs.Stands.{phase_of, held}
use Rattle.run_trace.proofs.Lemmas.{is-true, is-false, same_name}

-- ## What a home has of its births, after one of them has changed

-- the births of node n, of which one is this now
pub record Renewed (n seq : ℕ) (old : ℕ → List Birth) (births : List Birth) (new : Option Birth) : Type 0 where
  pub gets : (j : ℕ) → slice_get births j ≡ cond (eqb seq j) new (slice_get (old n) j)

-- the births of all homes then: that birth itself, and each other one
pub own_birth : {n seq : ℕ} {old : ℕ → List Birth} {births : List Birth} {new : Option Birth} → Renewed n seq old births new → slice_get (at_node old n births n) seq ≡ new
own_birth {n} {seq} k = rw (eq-eqb n n refl) (k.gets seq ∙ (rw (eq-eqb seq seq refl) refl))

pub other_birth : {n seq : ℕ} {old : ℕ → List Birth} {births : List Birth} {new : Option Birth} → Renewed n seq old births new → (u : Tid) → is_tid (tid n seq) u ≡ false → slice_get (at_node old n births u.home) u.seq ≡ slice_get (old u.home) u.seq
other_birth {n} {seq} {old} {births} {new} k u e = elim (eqb n u.home) as (λ b. eqb n u.home ≡ b → slice_get (cond b births (old u.home)) u.seq ≡ slice_get (old u.home) u.seq) [
  | true ↦ λ h.
      let home : n ≡ u.home = eqb-true n u.home h in
      subst (λ k. slice_get births u.seq ≡ slice_get (old k) u.seq) home
      (k.gets u.seq ∙ elim (eqb seq u.seq) as (λ b. eqb seq u.seq ≡ b → cond b new (slice_get (old n) u.seq) ≡ slice_get (old n) u.seq) [
        | true ↦ λ k. absurd (is-false (tid n seq) u e (same_name (tid n seq) u home (eqb-true seq u.seq k)))
        | false ↦ λ k. refl
      ] refl)
  | false ↦ λ h. refl
] refl

-- that birth, whatever name it is looked up by
pub birth_of : {n seq : ℕ} {old : ℕ → List Birth} {births : List Birth} {new : Option Birth} → Renewed n seq old births new → (u : Tid) → is_tid (tid n seq) u ≡ true → slice_get (at_node old n births u.home) u.seq ≡ new
birth_of {n} {seq} {old} {births} {new} k u e = subst (λ (z : Tid). slice_get (at_node old n births z.home) z.seq ≡ new) (is-true (tid n seq) u e) (own_birth k)

-- ## Threads, of which one has another spot

pub phase_same : (w : Tid → Spot) (t : Tid) (r : Spot) → phase_of r.life ≡ phase_of (w t).life → (u : Tid) → phase_of (update w t r u).life ≡ phase_of (w u).life
phase_same w t r h u = elim (is_tid t u) as (λ b. is_tid t u ≡ b → phase_of (cond b r (w u)).life ≡ phase_of (w u).life) [
  | true ↦ λ e. h ∙ ap (λ z. phase_of (w z).life) (is-true t u e)
  | false ↦ λ e. refl
] refl

pub held_same : (w : Tid → Spot) (t : Tid) (r : Spot) → held r.life r.guest ≡ held (w t).life (w t).guest → (u : Tid) → held (update w t r u).life (update w t r u).guest ≡ held (w u).life (w u).guest
held_same w t r h u = elim (is_tid t u) as (λ b. is_tid t u ≡ b → held (cond b r (w u)).life (cond b r (w u)).guest ≡ held (w u).life (w u).guest) [
  | true ↦ λ e. h ∙ ap (λ z. held (w z).life (w z).guest) (is-true t u e)
  | false ↦ λ e. refl
] refl

pub unborn_same : (w : Tid → Spot) (t : Tid) (r : Spot) (u : Tid) → ((w t).life ≡ Unborn → ⊥) → (w u).life ≡ Unborn → (update w t r u).life ≡ Unborn
unborn_same w t r u h e = elim (is_tid t u) as (λ b. is_tid t u ≡ b → (cond b r (w u)).life ≡ Unborn) [
  | true ↦ λ f. absurd (h (ap (λ z. (w z).life) (is-true t u f) ∙ e))
  | false ↦ λ f. e
] refl

pub awaits_same : (w : Tid → Spot) (t : Tid) (r : Spot) (by u : Tid) (at : ℕ) → ((w t).life ≡ On at (Awaits u) → ⊥) → (w by).life ≡ On at (Awaits u) → (update w t r by).life ≡ On at (Awaits u)
awaits_same w t r by u at h e = elim (is_tid t by) as (λ b. is_tid t by ≡ b → (cond b r (w by)).life ≡ On at (Awaits u)) [
  | true ↦ λ f. absurd (h (ap (λ z. (w z).life) (is-true t by f) ∙ e))
  | false ↦ λ f. e
] refl
