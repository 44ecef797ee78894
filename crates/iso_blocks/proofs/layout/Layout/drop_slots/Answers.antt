use Rattle.std.proofs.Common.{arith, ◌≡◌, ℕ, List, Some, sym, ap, ◌∙◌}
use Rattle.slot_space.specs.Sets.{has, least_from}
use Rattle.slot_space.proofs.Lemmas.{least_from-found}
use Rattle.iso_blocks.specs.Heap.{Heap}
use Rattle.iso_blocks.specs.Bytes.{is_met}
use Rattle.iso_blocks.proofs.FreeBytes.{heap}
use Rattle.iso_blocks.proofs.HeapSets.{left_more, left_there, left_all, no_more}
use Rattle.iso_blocks.proofs.layout.Layout.drop_slots.Goals as goal

pub drop_slot-requires-clause-there : goal.drop_slot-requires-clause-there
drop_slot-requires-clause-there c =
    let step : least_from c.loop-slot.from c.args.slots.now ≡ Some c.slot.inside.0 = sym c.next_from.ensures.least ∙ c.in-Some.is ∙ ap Some (sym c.slot.view_is) in
    let member = (least_from-found c.loop-slot.from c.slot.inside.0 c.args.slots.now step).1 in
    left_there c.loop-slot.from c.slot.inside.0 c.args.slots.now c.args.self.now.heap c.loop-slot.self.heap step c.loop-slot.invariant.heap (c.requires.there c.slot.inside.0 member)

pub drop_slot-requires-clause-unmet : goal.drop_slot-requires-clause-unmet
drop_slot-requires-clause-unmet c =
    let step : least_from c.loop-slot.from c.args.slots.now ≡ Some c.slot.inside.0 = sym c.next_from.ensures.least ∙ c.in-Some.is ∙ ap Some (sym c.slot.view_is) in
    let member = (least_from-found c.loop-slot.from c.slot.inside.0 c.args.slots.now step).1 in
    ap (λ (live : List (ℕ × ℕ)). is_met live c.slot.inside.0) c.loop-slot.invariant.live ∙ c.requires.unmet c.slot.inside.0 member

pub overflow_add-from : goal.overflow_add-from
overflow_add-from c =
    let step : least_from c.loop-slot.from c.args.slots.now ≡ Some c.slot.inside.0 = sym c.next_from.ensures.least ∙ c.in-Some.is ∙ ap Some (sym c.slot.view_is) in
    let small = c.next_from.ensures.proper.small c.slot.inside.0 (least_from-found c.loop-slot.from c.slot.inside.0 c.args.slots.now step).1 in
    omega (arith, small)

pub loop-slot-smaller : goal.loop-slot-smaller
loop-slot-smaller c =
    let step : least_from c.loop-slot.from c.args.slots.now ≡ Some c.slot.inside.0 = sym c.next_from.ensures.least ∙ c.in-Some.is ∙ ap Some (sym c.slot.view_is) in
    let found = least_from-found c.loop-slot.from c.slot.inside.0 c.args.slots.now step in
    let small = c.next_from.ensures.proper.small c.slot.inside.0 found.1 in
    omega (arith, small, found.0)

pub loop-slot-preserved : goal.loop-slot-preserved
loop-slot-preserved c =
    let step : least_from c.loop-slot.from c.args.slots.now ≡ Some c.slot.inside.0 = sym c.next_from.ensures.least ∙ c.in-Some.is ∙ ap Some (sym c.slot.view_is) in
    let proper = c.next_from.ensures.proper in
    let inv = c.loop-slot.invariant in
    let small = proper.small c.slot.inside.0 (least_from-found c.loop-slot.from c.slot.inside.0 c.args.slots.now step).1 in
    record {
      kept = c.drop_slot.ensures.kept;
      live = ap (λ (h : Heap). h.live) c.drop_slot.ensures.heap ∙ inv.live;
      heap = λ t. ap (λ (h : Heap). has t h.slots) c.drop_slot.ensures.heap
          ∙ left_more c.loop-slot.from c.slot.inside.0 c.args.slots.now c.args.self.now.heap c.loop-slot.self.heap proper.ascending step inv.heap t;
      small = omega (arith, small);
    }

pub returns-clause-heap : goal.returns-clause-heap
returns-clause-heap c =
    let none = sym c.next_from.ensures.least ∙ no_more c.next_from.result c.in_default.not-Some in
    let inv = c.loop-slot.invariant in
    let gone = left_all c.loop-slot.from c.args.slots.now c.args.self.now.heap c.loop-slot.self.heap c.requires.kept.proper.ascending inv.kept.proper.ascending none inv.heap in
    ap (λ (live : List (ℕ × ℕ)). heap live c.loop-slot.self.heap) inv.live ∙ ap (heap c.args.self.now.live.items) gone
