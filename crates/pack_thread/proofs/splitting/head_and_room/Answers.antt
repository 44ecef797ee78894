use Rattle.std.proofs.Common.{◌≡◌, length, ap, ◌∙◌, arith}
use Rattle.pack_thread.specs.Threads.{thread_of}
use Rattle.pack_thread.proofs.Texts.{count_memory}
use Rattle.pack_thread.proofs.splitting.head_and_room.Goals as goal

pub returns-clause-room : goal.returns-clause-room
returns-clause-room c =
    let t = thread_of c.args.b.now in
    let slots : length c.in_ok-slots.slots.items ≡ length t.heap.slots = ap length (c.in_ok-slots.ensures ∙ c.heap_slots.ensures.slots) in
    let count = count_memory t c.requires c.in_ok-put_head.ensures.regs in
    (c.in_ok-reserve.ensures.items ∙ c.new-blocks.ensures.items, omega (arith, c.in_ok-reserve.ensures.ok, c.len.ensures, slots, count))
