-- The slots and blocks beside a hart are those that it holds, as slots come and go.
use Rattle.std.proofs.Common.{◌≡◌, ℕ, List, [], ◌∷◌, Bool, true, false, eqb, cond, not, refl, sym, ap, ◌∙◌, subst, arith}
use Rattle.std.proofs.lemmas.Bool.{eq-eqb, eqb-true}
use Rattle.slot_space.specs.Sets.{has, union, minus, run, IsAscending, IsSlotSet}
use Rattle.slot_space.proofs.Lemmas.{has-union, has-minus, has-filter, ascending-union, ascending-minus, ascending-run, same_members}
use Rattle.iso_blocks.specs.Bytes.{is_met}
use Rattle.iso_blocks.specs.Heap.{Heap, with_slots, without, emptied, freed}
use Rattle.rv_step.specs.declared.hart.Hart.{Hart}
use Rattle.rv_step.specs.Memory.{slots_of}
use Rattle.run_trace.specs.Guests.{with_zero_slots, without_slots}
use Rattle.run_trace.proofs.Lemmas.{slots_takes, slots_gives}
use Rattle.node_thread.specs.Views.{IsOwn}

-- a new thread has its stack alone
pub alone : (slot : ℕ) (hart : Hart) (slots : List ℕ) (blocks : Heap) → slots_of hart.mem.0 ≡ slots → slots ≡ slot ∷ [] → blocks ≡ record { live = []; slots = [] } → IsOwn slot hart slots blocks
unfolding minus
alone slot hart slots blocks held one none = record {
  held = held;
  stack = rw one (rw (eq-eqb slot slot refl) refl);
  heap = rw (one, none) (rw (eq-eqb slot slot refl) refl);
}

-- ## More slots

pub takes_own : (stack first count : ℕ) (hart new : Hart) (slots : List ℕ) (blocks : Heap) → IsOwn stack hart slots blocks → IsSlotSet slots
    → ((s : ℕ) → has s (run first count) ≡ true → has s (slots_of hart.mem.0) ≡ false)
    → new.mem.0 ≡ with_zero_slots (run first count) hart.mem.0
    → IsOwn stack new (union slots (run first count)) (with_slots blocks first count)
takes_own stack first count hart new slots blocks own proper fresh mem = record {
  held = ap slots_of mem ∙ slots_takes first count hart.mem.0 (subst (λ xs. IsAscending xs) (sym own.held) proper.ascending) fresh ∙ ap (λ xs. union xs (run first count)) own.held;
  stack = has-union stack slots (run first count) ∙ (rw own.stack refl);
  heap = ap (λ xs. union xs (run first count)) own.heap ∙ same_members _ _
      (ascending-union (minus slots (stack ∷ [])) (run first count) (ascending-run first count))
      (ascending-minus (union slots (run first count)) (stack ∷ []) (ascending-union slots (run first count) (ascending-run first count)))
      (λ s. grind (arith, has-union s (minus slots (stack ∷ [])) (run first count), has-minus s slots (stack ∷ []), has-minus s (union slots (run first count)) (stack ∷ []), has-union s slots (run first count), out, eqb-true stack s));
}
  where
    there : has stack (slots_of hart.mem.0) ≡ true
    there = ap (has stack) own.held ∙ own.stack

    out : has stack (run first count) ≡ false
    out = by (has stack (run first count)) refl
      where
        by : (b : Bool) → has stack (run first count) ≡ b → b ≡ false
        by true e = absurd (let f = fresh stack e in cc (f, there))
        by false e = refl

-- ## Fewer slots

emptied_has : (heap : Heap) (address s : ℕ) → has s (emptied heap address) ≡ cond (not (is_met (without heap.live address) s)) (has s heap.slots) false
emptied_has heap address s = has-filter (λ z. not (is_met (without heap.live address) z)) s heap.slots

-- what is given is the thread's
pub empty_held : (stack address : ℕ) (hart : Hart) (slots : List ℕ) (blocks : Heap) → IsOwn stack hart slots blocks
    → (s : ℕ) → has s (emptied blocks address) ≡ true → has s (slots_of hart.mem.0) ≡ true
empty_held stack address hart slots blocks own s h =
    let there : has s blocks.slots ≡ has s (minus slots (stack ∷ [])) = ap (has s) own.heap in
    ap (has s) own.held ∙ grind (arith, emptied_has blocks address s, there, has-minus s slots (stack ∷ []), h)

minus_swap : (xs ys zs : List ℕ) → minus (minus xs ys) zs ≡ minus (minus xs zs) ys
unfolding minus
minus_swap [] ys zs = refl
minus_swap (x ∷ xs) ys zs = grind (arith, minus_swap xs ys zs)

pub frees_own : (stack address : ℕ) (hart new : Hart) (slots : List ℕ) (blocks : Heap) → IsOwn stack hart slots blocks
    → new.mem.0 ≡ without_slots (emptied blocks address) hart.mem.0
    → IsOwn stack new (minus slots (emptied blocks address)) (freed blocks address)
frees_own stack address hart new slots blocks own mem = record {
  held = ap slots_of mem ∙ slots_gives (emptied blocks address) hart.mem.0 ∙ ap (λ xs. minus xs (emptied blocks address)) own.held;
  stack = has-minus stack slots (emptied blocks address) ∙ (rw (stays, own.stack) refl);
  heap = ap (λ xs. minus xs (emptied blocks address)) own.heap ∙ minus_swap slots (stack ∷ []) (emptied blocks address);
}
  where
    stays : has stack (emptied blocks address) ≡ false
    stays =
        let same : eqb stack stack ≡ true = eq-eqb stack stack refl in
        let there : has stack blocks.slots ≡ has stack (minus slots (stack ∷ [])) = ap (has stack) own.heap in
        grind (arith, emptied_has blocks address stack, there, has-minus stack slots (stack ∷ []), same)
