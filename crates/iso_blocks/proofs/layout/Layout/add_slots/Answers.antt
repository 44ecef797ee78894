use Rattle.std.proofs.Common.{arith, ◌≡◌, ℕ, ◌+◌, ◌-◌, sym, ap, ◌∙◌}
use Rattle.slot_space.specs.Sets.{insert, union, run}
use Rattle.iso_blocks.specs.Heap.{Heap}
use Rattle.iso_blocks.proofs.FreeBytes.{heap}
use Rattle.iso_blocks.proofs.HeapSets.{union-run_more, union-run_none}
use Rattle.iso_blocks.proofs.layout.Layout.add_slots.Goals as goal

pub loop-slot-init : goal.loop-slot-init
loop-slot-init c =
    let l = c.reserve.new.self in
    let zero_run : c.args.first - c.args.first ≡ 0 = omega arith in
    record {
      kept = c.in_ok-reserve.ensures.kept;
      heap = rw zero_run (ap (heap l.live.items) (sym (union-run_none l.heap c.args.first c.in_ok-reserve.ensures.kept.proper.ascending)));
      room = omega (arith, c.in_ok-reserve.ensures.room);
    }

pub loop-slot-preserved : goal.loop-slot-preserved
loop-slot-preserved c =
    let l = c.reserve.new.self in
    let inv = c.loop-slot.invariant in
    let k = c.loop-slot.slot - c.args.first in
    let at : c.loop-slot.slot ≡ c.args.first + k = omega arith in
    let next : c.loop-slot.slot + 1 - c.args.first ≡ k + 1 = omega arith in
    record {
      kept = c.add_slot.ensures.kept;
      heap = c.add_slot.ensures.heap ∙ ap (λ (h : Heap). heap h.live (insert c.loop-slot.slot h.slots)) inv.heap
          ∙ ap (λ (n : ℕ). heap l.live.items (insert n (union l.heap (run c.args.first k)))) at
          ∙ ap (heap l.live.items) (union-run_more l.heap c.args.first k c.in_ok-reserve.ensures.kept.proper.ascending)
          ∙ ap (λ (n : ℕ). heap l.live.items (union l.heap (run c.args.first n))) (sym next);
      room = omega (arith, inv.room, c.add_slot.ensures.added, c.add_slot.ensures.capacity, c.loop-slot-test.true);
    }
