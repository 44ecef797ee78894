use Rattle.std.proofs.Common.{◌≡◌, ap, sym, ◌∙◌}
use Rattle.slot_space.specs.Sets.{insert}
use Rattle.rv_step.specs.Memory.{slots_of}
use Rattle.pack_thread.specs.Threads.{thread_of}
use Rattle.pack_thread.proofs.RuleLaws.{keeps}
use Rattle.pack_thread.proofs.Memories.{ascending_memory}
use Rattle.pack_thread.proofs.packing.pack.Goals as goal

pub held_slots-requires-clause-small : goal.held_slots-requires-clause-small
held_slots-requires-clause-small c = (keeps (thread_of c.args.b.now) c.in_ok-put_head.ensures.regs c.requires.rules).stack

pub put_memory-requires-clause-ascending : goal.put_memory-requires-clause-ascending
put_memory-requires-clause-ascending c =
    let heap = c.heap_slots-heap.result in
    let same : slots_of c.args.b.now.hart.mem.0 ≡ c.in_ok-held.held.items =
    c.requires.holds ∙ ap (insert c.args.b.now.stack) (sym c.heap_slots-heap.ensures.slots) ∙ sym c.in_ok-held.ensures.slots in
    ascending_memory c.args.b.now.hart.mem.0 (rw same c.in_ok-held.ensures.ascending)

pub returns-clause-typed : goal.returns-clause-typed
returns-clause-typed c = record { numbers = c.in_ok-put_head.ensures.fit; regs = c.in_ok-put_head.ensures.regs; blocks = c.in_ok-put_memory.ensures.blocks }
