use Rattle.std.proofs.Common.{arith, ◌≡◌, ℕ, List, [], Some, sym, ap, ◌∙◌}
use Rattle.slot_space.specs.Sets.{has, least_from}
use Rattle.slot_space.proofs.Lemmas.{least_from-found}
use Rattle.iso_blocks.specs.Heap.{Heap}
use Rattle.iso_blocks.proofs.FreeBytes.{heap}
use Rattle.iso_blocks.proofs.HeapSets.{taken_more, taken_all, no_more}
use Rattle.iso_blocks.proofs.layout.Layout.take_slots.Goals as goal

pub add_slots-requires-clause-within : goal.add_slots-requires-clause-within
add_slots-requires-clause-within c =
    let step : least_from c.loop-slot.from c.args.slots.now ≡ Some c.slot.inside.0 = sym c.next_from.ensures.least ∙ c.in-Some.is ∙ ap Some (sym c.slot.view_is) in
    let small = c.next_from.ensures.proper.small c.slot.inside.0 (least_from-found c.loop-slot.from c.slot.inside.0 c.args.slots.now step).1 in
    omega (arith, small)

pub overflow_add-from : goal.overflow_add-from
overflow_add-from c =
    let step : least_from c.loop-slot.from c.args.slots.now ≡ Some c.slot.inside.0 = sym c.next_from.ensures.least ∙ c.in-Some.is ∙ ap Some (sym c.slot.view_is) in
    let small = c.next_from.ensures.proper.small c.slot.inside.0 (least_from-found c.loop-slot.from c.slot.inside.0 c.args.slots.now step).1 in
    omega (arith, small)

pub loop-slot-smaller : goal.loop-slot-smaller
loop-slot-smaller c =
    let step : least_from c.loop-slot.from c.args.slots.now ≡ Some c.slot.inside.0 = sym c.next_from.ensures.least ∙ c.in-Some.is ∙ ap Some (sym c.slot.view_is) in
    let found = least_from-found c.loop-slot.from c.slot.inside.0 c.args.slots.now step in
    let small = c.next_from.ensures.proper.small c.slot.inside.0 found.1 in
    omega (arith, small, found.0)

pub loop-slot-preserved : goal.loop-slot-preserved
loop-slot-preserved c =
    let step : least_from c.loop-slot.from c.args.slots.now ≡ Some c.slot.inside.0 = sym c.next_from.ensures.least ∙ c.in-Some.is ∙ ap Some (sym c.slot.view_is) in
    let proper = c.next_from.ensures.proper in
    let inv = c.loop-slot.invariant in
    let small = proper.small c.slot.inside.0 (least_from-found c.loop-slot.from c.slot.inside.0 c.args.slots.now step).1 in
    record {
      kept = c.in_ok-add_slots.ensures.kept;
      live = ap (λ (h : Heap). h.live) c.in_ok-add_slots.ensures.ok ∙ inv.live;
      heap = λ t. ap (λ (h : Heap). has t h.slots) c.in_ok-add_slots.ensures.ok
          ∙ taken_more c.loop-slot.from c.slot.inside.0 c.args.slots.now c.loop-slot.self.heap proper.ascending step inv.heap t;
      small = omega (arith, small);
    }

pub returns-clause-ok : goal.returns-clause-ok
returns-clause-ok c =
    let none = sym c.next_from.ensures.least ∙ no_more c.next_from.result c.in_default.not-Some in
    let inv = c.loop-slot.invariant in
    let all = taken_all c.loop-slot.from c.args.slots.now c.loop-slot.self.heap c.next_from.ensures.proper.ascending inv.kept.proper.ascending none inv.heap in
    ap (λ (live : List (ℕ × ℕ)). heap live c.loop-slot.self.heap) inv.live ∙ ap (heap []) all
