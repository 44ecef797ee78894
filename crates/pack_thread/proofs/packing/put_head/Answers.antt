use Rattle.std.proofs.Common.{◌≡◌, ◌+◌, length, arith}
use Rattle.iso_blocks.specs.Heap.{StandFrom}
use Rattle.thread_text.specs.Fields.{Blocks}
use Rattle.thread_text.specs.Grammar.{thread_fields}
use Rattle.pack_thread.specs.Threads.{thread_of, numbers_of}
use Rattle.pack_thread.specs.Writing.{Writes}
use Rattle.pack_thread.proofs.Limits.{slots_few, blocks_few}
use Rattle.pack_thread.proofs.WriteSteps.{head_written, writes_all}
use Rattle.pack_thread.proofs.packing.put_head.Goals as goal

pub overflow_cast-slots : goal.overflow_cast-slots
overflow_cast-slots c = let h = slots_few c.args.slots.now c.requires.proper in omega (arith, h)

pub put_live-requires : goal.put_live-requires
put_live-requires c =
    let live = c.live-live.result.now in
    let stand : StandFrom 0 c.args.b.now.blocks.slots live = rw c.live-live.ensures.blocks c.live-live.ensures.sound in
    blocks_few c.args.b.now.blocks.slots live (rw (← c.requires.heap) c.requires.proper) stand

-- everything is written
whole : (c : goal.In_ok-put_live) → Writes c.args.bytes.now.items c.put_live.new.bytes.items thread_fields (numbers_of (thread_of c.args.b.now)) (Blocks (length c.args.b.now.blocks.slots + 1))
whole c =
    let t = thread_of c.args.b.now in
    let heap : c.args.slots.now ≡ t.heap.slots = c.requires.heap in
    let same : c.heap_slots-heap.result ≡ t.heap.slots = c.heap_slots-heap.ensures.slots in
    let live : c.live-live.result.now ≡ t.heap.live = c.live-live.ensures.blocks in
    head_written t c.args.bytes.now.items c.put_who.new.bytes.items c.put_duty.new.bytes.items c.put_registers.new.bytes.items c.put_place.new.bytes.items c.put_slots.new.bytes.items c.put_live.new.bytes.items
    (Blocks (length t.heap.slots + 1)) c.in_ok-put_who.ensures c.in_ok-put_duty.ensures c.in_ok-put_registers.ensures.numbers (rw heap at c.in_ok-put_place.ensures)
    (rw heap at (c.in_ok-put_slots.ensures t.stack)) (rw (same, live) at c.in_ok-put_live.ensures)

pub returns-clause-text : goal.returns-clause-text
returns-clause-text c = (writes_all _ _ _ _ _ (whole c)).0

pub returns-clause-fit : goal.returns-clause-fit
returns-clause-fit c = (writes_all _ _ _ _ _ (whole c)).1
