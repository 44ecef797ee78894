-- Slots one after another: a run that is granted, and a set that is given back.
use Rattle.std.proofs.Common.{◌≡◌, ℕ, zero, suc, ◌+◌, ◌-◌, ◌<◌, ◌≤◌, List, [], ◌∷◌, Option, Some, None, IfSome, IsSome, ◌≢◌, inl, inr, option_and_then, option_map, Bool, true, false, eqb, cond, not, refl, sym, ap, ◌∙◌, subst, arith}
use Rattle.std.specs.Prelude.{slice_get}
use Rattle.std.specs.List.{insert, remove}
use Rattle.std.proofs.lemmas.Bool.{eq-eqb, cases_eq}
use Rattle.std.proofs.lemmas.Bool.Decides.{nat_tests}
use Rattle.slot_space.specs.Limits.{slot_size}
use Rattle.slot_space.specs.Sets.{has, run}
use Rattle.slot_space.proofs.Lemmas.{has-run}
use Rattle.rv_step.specs.declared.memory.Held.{Held}
use Rattle.rv_step.specs.Memory.{Memory, slots_of, new_place, block_of, slot_place}
use Rattle.run_trace.specs.Guests.{zeros_of, with_zero_slot, with_zero_slots, without_slots}
use Rattle.run_trace.proofs.Lemmas.{has_takes, none_held, some_held, not_held, missing}

-- ## A run that is granted

run_front : (first count n : ℕ) → n < count → run (first + n) (count - n) ≡ (first + n) ∷ run (first + (n + 1)) (count - (n + 1))
unfolding run
run_front first count n l =
    let more : count - n ≡ suc (count - (n + 1)) = omega arith in
    let next : suc (first + n) ≡ first + (n + 1) = omega arith in
    rw more (ap (λ k. (first + n) ∷ run k (count - (n + 1))) next)

run_none : (first count : ℕ) → run (first + count) (count - count) ≡ []
unfolding run
run_none first count = let none : count - count ≡ 0 = omega arith in rw none refl

pub granted_none : (first count n : ℕ) (m : Memory) → n < count → ((s : ℕ) → has s (run (first + n) (count - n)) ≡ true → has s (slots_of m) ≡ false) → block_of m (first + n) ≡ None
granted_none first count n m l new = none_held m (first + n) (new (first + n) (ap (has (first + n)) (run_front first count n l) ∙ (rw (eq-eqb (first + n) (first + n) refl) refl)))

pub granted_same : (first count n : ℕ) (m new whole : Memory) (block : List ℕ) → n < count → with_zero_slots (run (first + n) (count - n)) m ≡ whole
    → new ≡ insert m (new_place m (first + n)) (record { slot = first + n; block = block }) → block ≡ zeros_of slot_size
    → with_zero_slots (run (first + (n + 1)) (count - (n + 1))) new ≡ whole
granted_same first count n m new whole block l same is zeros =
    ap (λ (z : Memory). with_zero_slots (run (first + (n + 1)) (count - (n + 1))) z) (is ∙ ap (λ (b : List ℕ). insert m (new_place m (first + n)) (record { slot = first + n; block = b })) zeros)
    ∙ sym (ap (λ xs. with_zero_slots xs m) (run_front first count n l)) ∙ same

pub granted_new : (first count n : ℕ) (m new : Memory) (block : List ℕ) → n < count → ((s : ℕ) → has s (run (first + n) (count - n)) ≡ true → has s (slots_of m) ≡ false)
    → new ≡ insert m (new_place m (first + n)) (record { slot = first + n; block = block }) → block ≡ zeros_of slot_size
    → (s : ℕ) → has s (run (first + (n + 1)) (count - (n + 1))) ≡ true → has s (slots_of new) ≡ false
granted_new first count n m new block l old is zeros s h =
    let there : has s (run (first + n) (count - n)) ≡ true = ap (has s) (run_front first count n l) ∙ elim (eqb (first + n) s) as (λ b. cond b true (has s (run (first + (n + 1)) (count - (n + 1)))) ≡ true) [ true ↦ refl | false ↦ h ] in
    let out : has s (slots_of m) ≡ false = old s there in
    let more : has s (slots_of (with_zero_slot (first + n) m)) ≡ cond (cond (eqb (first + n) s) true false) true (has s (slots_of m)) = has_takes s ((first + n) ∷ []) m in
    ap (λ (z : Memory). has s (slots_of z)) (is ∙ ap (λ (b : List ℕ). insert m (new_place m (first + n)) (record { slot = first + n; block = b })) zeros)
    ∙ more ∙ grind (arith, nat_tests, has-run s (first + (n + 1)) (count - (n + 1)), h, out)

pub granted_all : (first count : ℕ) (m whole : Memory) → with_zero_slots (run (first + count) (count - count)) m ≡ whole → m ≡ whole
granted_all first count m whole same = sym (ap (λ xs. with_zero_slots xs m) (run_none first count)) ∙ same

pub granted_start : (first count : ℕ) → run (first + 0) (count - 0) ≡ run first count
granted_start first count = let a : first + 0 ≡ first = omega arith in let b : count - 0 ≡ count = omega arith in rw (a, b) refl

-- ## A set that is given back

without_removed : (slots : List ℕ) (m : Memory) (i : ℕ) (x : Held) → slice_get m i ≡ Some x → has x.slot slots ≡ true → without_slots slots (remove m i) ≡ without_slots slots m
without_removed slots [] i x e h = absurd (cc e)
without_removed slots (y ∷ m) zero x e h =
    let same : y ≡ x = cc e in
    let out : has y.slot slots ≡ true = ap (λ (z : Held). has z.slot slots) same ∙ h in
    rw out refl
without_removed slots (y ∷ m) (suc i) x e h = ap (λ (rest : Memory). cond (not (has y.slot slots)) (y ∷ rest) rest) (without_removed slots m i x e h)

-- where the set is gone, taking it away changes nothing
pub all_gone : (slots : List ℕ) (m : Memory) → ((s : ℕ) → has s slots ≡ true → has s (slots_of m) ≡ false) → without_slots slots m ≡ m
all_gone slots [] gone = refl
all_gone slots (x ∷ m) gone = by (has x.slot slots) refl (all_gone slots m (λ s h. rest s (gone s h)))
  where
    rest : (s : ℕ) → cond (eqb x.slot s) true (has s (slots_of m)) ≡ false → has s (slots_of m) ≡ false
    rest s e = grind (arith, e)

    own : has x.slot (slots_of (x ∷ m)) ≡ true
    own = rw (eq-eqb x.slot x.slot refl) refl

    by : (b : Bool) → has x.slot slots ≡ b → without_slots slots m ≡ m → cond (not b) (x ∷ without_slots slots m) (without_slots slots m) ≡ x ∷ m
    by true h more = absurd (let out = gone x.slot h in cc (own, out))
    by false h more = ap (λ (rest : Memory). x ∷ rest) more

stands : (m : Memory) (s : ℕ) → IsSome (block_of m s) → IsSome (slot_place m s)
stands m s = by (slot_place m s)
  where
    by : (o : Option ℕ) → IsSome (option_and_then (λ (place : ℕ). option_map (λ (held : Held). held.block) (slice_get m place)) o) → IsSome o
    by None w = absurd (cc w)
    by (Some place) w = refl

held_by : (m : Memory) (s : ℕ) → IsSome (block_of m s) → has s (slots_of m) ≡ true
held_by m s w = by (has s (slots_of m)) refl
  where
    by : (b : Bool) → has s (slots_of m) ≡ b → b ≡ true
    by true h = refl
    by false h = absurd (missing (subst (λ (o : Option (List ℕ)). IsSome o) (none_held m s h) w))

pub given_same : (slots : List ℕ) (m new whole : Memory) (n : ℕ) (block : List ℕ) → has n slots ≡ true → IsSome (block_of m n)
    → IfSome (slot_place m n) (λ place. (slice_get m place ≡ Some (record { slot = n; block = block })) × (new ≡ remove m place))
    → without_slots slots m ≡ whole → without_slots slots new ≡ whole
given_same slots m new whole n block member was placed same = by (slot_place m n) placed (stands m n was) ∙ same
  where
    by : (o : Option ℕ) → IfSome o (λ place. (slice_get m place ≡ Some (record { slot = n; block = block })) × (new ≡ remove m place)) → IsSome o → without_slots slots new ≡ without_slots slots m
    by None p w = absurd (cc w)
    by (Some place) p w = ap (without_slots slots) p.1 ∙ without_removed slots m place _ p.0 member

-- those below n + 1 are gone, since those below n are
pub given_gone : (slots : List ℕ) (m new : Memory) (n : ℕ) → block_of new n ≡ None → ((t : ℕ) → t ≢ n → block_of new t ≡ block_of m t)
    → ((s : ℕ) → s < n → has s slots ≡ true → has s (slots_of m) ≡ false) → (s : ℕ) → s < n + 1 → has s slots ≡ true → has s (slots_of new) ≡ false
given_gone slots m new n left others gone s low h = elim (cases_eq s n) as (λ v. has s (slots_of new) ≡ false) [
  | inl e ↦ not_held new s (ap (block_of new) e ∙ left)
  | inr e ↦ not_held new s (others s e ∙ none_held m s (gone s (omega arith) h))
]

-- and those from n + 1 on are held
pub given_held : (slots : List ℕ) (m new : Memory) (n : ℕ) → ((t : ℕ) → t ≢ n → block_of new t ≡ block_of m t)
    → ((s : ℕ) → n ≤ s → has s slots ≡ true → has s (slots_of m) ≡ true) → (s : ℕ) → n + 1 ≤ s → has s slots ≡ true → has s (slots_of new) ≡ true
given_held slots m new n others held s low h =
    let apart : s ≢ n = λ e. omega arith in
    held_by new s (subst (λ (o : Option (List ℕ)). IsSome o) (sym (others s apart)) (some_held m s (held s (omega arith) h)))
