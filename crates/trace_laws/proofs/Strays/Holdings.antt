-- Changes of a node that give no slot twice: its slots and its threads' are as before, or a thread gets some that nobody had.
use Rattle.std.proofs.Common.{◌≡◌, ℕ, List, Option, Some, None, true, false, cond, refl, sym, ap, ◌∙◌, subst, arith, ◌⊎◌, inl, inr}
use Rattle.std.specs.Map.{lookup, set_value}
use Rattle.slot_space.specs.Sets.{has, minus}
use Rattle.slot_space.proofs.Lemmas.{has-minus}
use Rattle.slot_space.specs.declared.names.Tid.{Tid}
use Rattle.run_trace.specs.declared.node.Wait.TheVariants as wait
use Rattle.run_trace.specs.Names.{is_tid}
use Rattle.run_trace.specs.Guests.{Thread, waits, told, guest_slots}
use Rattle.run_trace.specs.Local.{Local, EventSoFar}
use Rattle.run_trace.specs.Steps.{at_found, at_thread, tell, tell_found, arrive, say, keep, judge}
use Rattle.run_trace.specs.Machine.{answer}
use Rattle.trace_laws.specs.Strays.{slots_with, slots_here, IsHeldOnce}
use Rattle.run_trace.proofs.Lemmas.{is-true, is-refl}
use Rattle.trace_laws.proofs.Lists.KeyedLemmas.{lookup-set_same, lookup-set_other}

-- ## As before

-- a node whose own slots and whose threads' slots are as before
pub same_held : (s now : Local) → now.slots.free ≡ s.slots.free → ((t : Tid) → slots_here now t ≡ slots_here s t) → IsHeldOnce s → IsHeldOnce now
same_held s now own threads h = record {
  free = λ t x k. ap (has x) own ∙ h.free t x (sym (ap (has x) (threads t)) ∙ k);
  one = λ t u x k l. h.one t u x (sym (ap (has x) (threads t)) ∙ k) (sym (ap (has x) (threads u)) ∙ l);
}

-- the entry of a thread that is here, where it is another thread now
pub set_entry : (t u : Tid) (x y : Thread) (s : Local) → lookup (is_tid t) s.threads ≡ Some x → lookup (is_tid u) (set_value (is_tid t) s.threads y) ≡ cond (is_tid t u) (Some y) (lookup (is_tid u) s.threads)
set_entry t u x y s e = elim (is_tid t u) as (λ v. is_tid t u ≡ v → lookup (is_tid u) (set_value (is_tid t) s.threads y) ≡ cond v (Some y) (lookup (is_tid u) s.threads)) [
  | true ↦ λ f. subst (λ z. lookup (is_tid z) (set_value (is_tid t) s.threads y) ≡ Some y) (is-true t u f) (lookup-set_same is_tid is-true is-refl s.threads t y x e)
  | false ↦ λ f. lookup-set_other is_tid is-true is-refl s.threads t u y f
] refl

-- its slots, where it has the same
pub same_slots : (t : Tid) (x y : Thread) (s : Local) → lookup (is_tid t) s.threads ≡ Some x → guest_slots y.guest ≡ guest_slots x.guest → (u : Tid) → slots_with (lookup (is_tid u) (set_value (is_tid t) s.threads y)) ≡ slots_here s u
same_slots t x y s e k u = ap slots_with (set_entry t u x y s e) ∙ elim (is_tid t u) as (λ v. is_tid t u ≡ v → slots_with (cond v (Some y) (lookup (is_tid u) s.threads)) ≡ slots_here s u) [
  | true ↦ λ f. k ∙ sym (ap slots_with e) ∙ ap (slots_here s) (is-true t u f)
  | false ↦ λ f. refl
] refl

-- a step of a thread, if it is here
pub at_held : (t : Tid) (step : Thread → EventSoFar → EventSoFar) (d : EventSoFar) → IsHeldOnce d.node → ((x : Thread) → lookup (is_tid t) d.node.threads ≡ Some x → IsHeldOnce (step x d).node) → IsHeldOnce (at_thread t step d).node
at_held t step d h k = by (lookup (is_tid t) d.node.threads) refl
  where
    by : (o : Option Thread) → lookup (is_tid t) d.node.threads ≡ o → IsHeldOnce (at_found o step d).node
    by None e = h
    by (Some x) e = k x e

pub told_held : (t : Tid) (code : ℕ) (second : Option ℕ) (d : EventSoFar) → IsHeldOnce d.node → IsHeldOnce (tell t code second d).node
unfolding tell arrive say keep
told_held t code second d h = by (lookup (is_tid t) d.node.threads) refl
  where
    by : (o : Option Thread) → lookup (is_tid t) d.node.threads ≡ o → IsHeldOnce (tell_found t code second o d).node
    by None e = h
    by (Some x) e = same_held d.node _ refl (same_slots t x (waits wait.No (told code second x.guest)) d.node e refl) h

pub answered_held : (t : Tid) (code : ℕ) (d : EventSoFar) → IsHeldOnce d.node → IsHeldOnce (answer t code d).node
unfolding judge say
answered_held t code d h = told_held t code None (judge t code None d) (same_held d.node _ refl (λ u. refl) h)

-- ## One thread has more

-- from s to now thread t has got new slots, which nobody here had
pub record Gains (t : Tid) (new : List ℕ) (s now : Local) : Type 0 where
  pub fewer : (x : ℕ) → has x now.slots.free ≡ true → has x s.slots.free ≡ true
  pub taken : (x : ℕ) → has x new ≡ true → has x now.slots.free ≡ false
  pub apart : (u : Tid) (x : ℕ) → has x new ≡ true → has x (slots_here s u) ≡ true → ⊥
  pub held : (u : Tid) (x : ℕ) → has x (slots_here now u) ≡ true → (has x (slots_here s u) ≡ true) ⊎ ((t ≡ u) × (has x new ≡ true))

pub gained_held : (t : Tid) (new : List ℕ) (s now : Local) → Gains t new s now → IsHeldOnce s → IsHeldOnce now
gained_held t new s now g h = record {
  free = λ u x k. free u x (g.held u x k);
  one = λ u v x k l. one u v x (g.held u x k) (g.held v x l);
}
  where
    free : (u : Tid) (x : ℕ) → (has x (slots_here s u) ≡ true) ⊎ ((t ≡ u) × (has x new ≡ true)) → has x now.slots.free ≡ false
    free u x (inl k) = elim (has x now.slots.free) as (λ v. has x now.slots.free ≡ v → v ≡ false) [ true ↦ λ e. sym (g.fewer x e) ∙ h.free u x k | false ↦ λ e. refl ] refl
    free u x (inr k) = g.taken x k.1

    one : (u v : Tid) (x : ℕ) → (has x (slots_here s u) ≡ true) ⊎ ((t ≡ u) × (has x new ≡ true)) → (has x (slots_here s v) ≡ true) ⊎ ((t ≡ v) × (has x new ≡ true)) → u ≡ v
    one u v x (inl k) (inl l) = h.one u v x k l
    one u v x (inl k) (inr l) = absurd (g.apart u x l.1 k)
    one u v x (inr k) (inl l) = absurd (g.apart v x k.1 l)
    one u v x (inr k) (inr l) = sym k.0 ∙ l.0

-- the entry of t is y, and all others are as before; y has beside what t had new slots alone
pub new_slots : (t : Tid) (y : Thread) (new : List ℕ) (s now : Local) → ((u : Tid) → lookup (is_tid u) now.threads ≡ cond (is_tid t u) (Some y) (lookup (is_tid u) s.threads))
    → ((x : ℕ) → has x (guest_slots y.guest) ≡ true → (has x (slots_here s t) ≡ true) ⊎ (has x new ≡ true))
    → (u : Tid) (x : ℕ) → has x (slots_here now u) ≡ true → (has x (slots_here s u) ≡ true) ⊎ ((t ≡ u) × (has x new ≡ true))
new_slots t y new s now entry more u x k =
    elim (is_tid t u) as (λ v. is_tid t u ≡ v → has x (slots_with (cond v (Some y) (lookup (is_tid u) s.threads))) ≡ true → (has x (slots_here s u) ≡ true) ⊎ ((t ≡ u) × (has x new ≡ true))) [
      | true ↦ λ e g. by (is-true t u e) (more x g)
      | false ↦ λ e g. inl g
    ] refl (sym (ap (λ o. has x (slots_with o)) (entry u)) ∙ k)
  where
    by : t ≡ u → (has x (slots_here s t) ≡ true) ⊎ (has x new ≡ true) → (has x (slots_here s u) ≡ true) ⊎ ((t ≡ u) × (has x new ≡ true))
    by same (inl g) = inl (ap (λ z. has x (slots_here s z)) (sym same) ∙ g)
    by same (inr g) = inr (same, g)

-- where the new slots were the node's
pub given_held : (t : Tid) (y : Thread) (new : List ℕ) (s now : Local) → now.slots.free ≡ minus s.slots.free new → ((x : ℕ) → has x new ≡ true → has x s.slots.free ≡ true)
    → ((u : Tid) → lookup (is_tid u) now.threads ≡ cond (is_tid t u) (Some y) (lookup (is_tid u) s.threads))
    → ((x : ℕ) → has x (guest_slots y.guest) ≡ true → (has x (slots_here s t) ≡ true) ⊎ (has x new ≡ true))
    → IsHeldOnce s → IsHeldOnce now
given_held t y new s now free mine entry more h = gained_held t new s now (record {
  fewer = λ x k. grind (arith, ap (has x) free, has-minus x s.slots.free new, k);
  taken = λ x k. grind (arith, ap (has x) free, has-minus x s.slots.free new, k);
  apart = λ u x k l. cc (mine x k, h.free u x l);
  held = new_slots t y new s now entry more;
}) h
