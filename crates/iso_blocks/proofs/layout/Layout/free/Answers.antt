use Rattle.std.proofs.Common.{◌≡◌, ℕ, List, sym, ap, ◌∙◌, subst, get_or, not}
use Rattle.std.specs.List.{filter}
use Rattle.slot_space.specs.Sets.{minus}
use Rattle.iso_blocks.specs.declared.layout.Layout.{Layout}
use Rattle.iso_blocks.specs.Bytes.{is_met}
use Rattle.iso_blocks.specs.Heap.{Heap, without, emptied}
use Rattle.iso_blocks.specs.Kept.{heap_of, IsKept}
use Rattle.iso_blocks.proofs.FreeBytes.{heap}
use Rattle.iso_blocks.proofs.HeapSets.{minus-filter, in_minus}
use Rattle.iso_blocks.proofs.Rows.{same_default}
use Rattle.iso_blocks.proofs.layout.Layout.free.Goals as goal

-- what no block meets once the one at the address is lifted out
given_of : (l m : Layout) (a : ℕ) → IsKept m → heap_of m ≡ heap (without l.live.items a) l.heap → minus m.heap m.met ≡ emptied (heap_of l) a
given_of l m a kept e =
    minus-filter (is_met (without l.live.items a)) m.heap m.met (λ s. kept.met s ∙ ap (λ (h : Heap). is_met h.live s) e)
    ∙ ap (λ (h : Heap). filter (λ (s : ℕ). not (is_met (without l.live.items a) s)) h.slots) e

pub drop_slots-requires-clause-there : goal.drop_slots-requires-clause-there
drop_slots-requires-clause-there c s e = (in_minus s c.lift.new.self.heap c.lift.new.self.met (rw c.remove_all.ensures at e)).0

pub drop_slots-requires-clause-unmet : goal.drop_slots-requires-clause-unmet
drop_slots-requires-clause-unmet c s e = sym (c.lift.ensures.kept.met s) ∙ (in_minus s c.lift.new.self.heap c.lift.new.self.met (rw c.remove_all.ensures at e)).1

pub returns-clause-given : goal.returns-clause-given
returns-clause-given c =
    let l = c.args.self.now in
    let found = rw c.deref.ensures.value at c.in_ok-k.ensures in
    let b = get_or l.live.items c.in_ok-k.k (0, 0) in
    let read = same_default l.live.items c.in_ok-k.k (0, 0) found.0 in
    let P : ℕ → Type 0 = λ a. heap_of c.lift.new.self ≡ heap (without l.live.items a) l.heap in
    let lifted = subst P (found.2 b read) (c.lift.ensures.heap b read) in
    (found.1, c.remove_all.ensures ∙ given_of l c.lift.new.self c.args.address c.lift.ensures.kept lifted)

pub returns-clause-some : goal.returns-clause-some
returns-clause-some c =
    let l = c.args.self.now in
    let found = rw c.deref.ensures.value at c.in_ok-k.ensures in
    let b = get_or l.live.items c.in_ok-k.k (0, 0) in
    let read = same_default l.live.items c.in_ok-k.k (0, 0) found.0 in
    let P : ℕ → Type 0 = λ a. heap_of c.lift.new.self ≡ heap (without l.live.items a) l.heap in
    let lifted = subst P (found.2 b read) (c.lift.ensures.heap b read) in
    let given = c.remove_all.ensures ∙ given_of l c.lift.new.self c.args.address c.lift.ensures.kept lifted in
    c.drop_slots.ensures.heap ∙ ap (λ (h : Heap). heap h.live (minus h.slots c.remove_all.new.self)) lifted
    ∙ ap (λ (gone : List ℕ). heap (without l.live.items c.args.address) (minus l.heap gone)) given
