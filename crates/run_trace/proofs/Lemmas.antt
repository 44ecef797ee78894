-- Lemmas of the definitions of runs. Other crates cite these alone.
use Rattle.std.proofs.Common.{[], IsSome, List, None, cond, false, true, ℕ, ◌++◌, ◌∷◌, ◌≡◌, refl, sym, ap, ◌∙◌, subst, arith}
use Rattle.run_trace.specs.Guests.{with_zero_slots, without_slots}
use Rattle.rv_step.specs.Memory.{Memory, block_of, slots_of}
use Rattle.slot_space.specs.Sets.{IsAscending, has, minus, run, union}
use Rattle.slot_space.specs.declared.names.Tid.{Tid}
use Rattle.std.specs.declared.cmp.Ordering.{Ordering}
use Rattle.std.specs.declared.cmp.Ordering.TheVariants.{Less, Equal, Greater}
use Rattle.std.specs.Ordering.{nat_cmp, ordering_then, is_eq}
use Rattle.std.proofs.lemmas.Bool.{eq-eqb, eqb-true, ltb-true}
use Rattle.run_trace.specs.Names.{is_tid, tid}
use Rattle.run_trace.proofs.HeldSlots

-- ## The slots that a memory holds

-- a memory that gave slots up holds what it held without them
pub has_gives : (y : ℕ) (slots : List ℕ) (m : Memory) → has y (slots_of (without_slots slots m)) ≡ cond (has y slots) false (has y (slots_of m))
has_gives = HeldSlots.has_gives

-- a memory that took slots holds them and what it held
pub has_takes : (y : ℕ) (slots : List ℕ) (m : Memory) → has y (slots_of (with_zero_slots slots m)) ≡ cond (has y slots) true (has y (slots_of m))
has_takes = HeldSlots.has_takes

-- the slots of a memory that gave slots up are the difference
pub slots_gives : (slots : List ℕ) (m : Memory) → slots_of (without_slots slots m) ≡ minus (slots_of m) slots
slots_gives = HeldSlots.slots_gives

-- a run of new slots joins those that are held
pub slots_takes : (first count : ℕ) (m : Memory) → IsAscending (slots_of m) → ((s : ℕ) → has s (run first count) ≡ true → has s (slots_of m) ≡ false)
    → slots_of (with_zero_slots (run first count) m) ≡ union (slots_of m) (run first count)
slots_takes = HeldSlots.slots_takes

-- a slot that is not held has no bytes
pub none_held : (m : Memory) (s : ℕ) → has s (slots_of m) ≡ false → block_of m s ≡ None
none_held = HeldSlots.none_held

-- a slot that is held has bytes
pub some_held : (m : Memory) (s : ℕ) → has s (slots_of m) ≡ true → IsSome (block_of m s)
some_held = HeldSlots.some_held

-- a slot without bytes is not held
pub not_held : (m : Memory) (s : ℕ) → block_of m s ≡ None → has s (slots_of m) ≡ false
not_held = HeldSlots.not_held

-- none is no value
pub missing : IsSome {T = List ℕ} None → ⊥
missing = HeldSlots.missing

-- ## Names

-- numbers that compare as equal are one
pub cmp-true : (a b : ℕ) → is_eq (nat_cmp a b) ≡ true → a ≡ b
cmp-true a b h = grind (arith, h, eqb-true a b)

-- a number compares as equal to itself
pub cmp-refl : (a : ℕ) → nat_cmp a a ≡ Equal
cmp-refl a = grind (arith, eq-eqb a a refl, ltb-true a a)

-- two comparisons, one after the other, are equal where each is
pub then_parts : (x y : Ordering) → is_eq (ordering_then x y) ≡ true → (is_eq x ≡ true) × (is_eq y ≡ true)
then_parts Less y h = absurd (cc h)
then_parts Equal y h = (refl, h)
then_parts Greater y h = absurd (cc h)

-- a name is a home and a number
pub same_name : (a b : Tid) → a.home ≡ b.home → a.seq ≡ b.seq → a ≡ b
same_name a b h s = ap (λ (n : ℕ). tid n a.seq) h ∙ ap (λ (n : ℕ). tid b.home n) s

-- names that are equal are one
pub is-true : (a b : Tid) → is_tid a b ≡ true → a ≡ b
is-true a b h = let parts = then_parts (nat_cmp a.home b.home) (nat_cmp a.seq b.seq) h in
    same_name a b (cmp-true a.home b.home parts.0) (cmp-true a.seq b.seq parts.1)

-- a name is equal to itself
pub is-refl : (a : Tid) → is_tid a a ≡ true
is-refl a = ap (λ o. is_eq (ordering_then o (nat_cmp a.seq a.seq))) (cmp-refl a.home) ∙ ap is_eq (cmp-refl a.seq)

-- names that are one are equal
pub is-equal : (a b : Tid) → a ≡ b → is_tid a b ≡ true
is-equal a b e = subst (λ c. is_tid a c ≡ true) e (is-refl a)

-- names that are not equal are not one
pub is-false : (a b : Tid) → is_tid a b ≡ false → a ≡ b → ⊥
is-false a b h e = let g : is_tid a b ≡ true = is-equal a b e in absurd (cc (h, g))

-- names that are not one are not equal
pub is-other : (a b : Tid) → (a ≡ b → ⊥) → is_tid a b ≡ false
is-other a b n = elim (is_tid a b) as (λ v. is_tid a b ≡ v → v ≡ false) [ true ↦ λ e. absurd (n (is-true a b e)) | false ↦ λ e. refl ] refl

-- names that are not equal are not so the other way round
pub is-flip : (a b : Tid) → is_tid a b ≡ false → is_tid b a ≡ false
is-flip a b h = is-other b a (λ e. is-false a b h (sym e))

-- the test doesn't ask which comes first
pub is-same : (a b : Tid) → is_tid a b ≡ is_tid b a
is-same a b = elim (is_tid b a) as (λ v. is_tid b a ≡ v → is_tid a b ≡ v) [ true ↦ λ e. is-equal a b (sym (is-true b a e)) | false ↦ λ e. is-flip b a e ] refl
