use Rattle.std.proofs.Common.{◌++◌, ap, ◌∙◌, arith}
use Rattle.byteorder.specs.Endian.{little_bytes}
use Rattle.pack_thread.proofs.WriteSteps.{slot_written, slots_written}
use Rattle.pack_thread.proofs.packing.put_slots.Goals as goal

pub loop-slot-preserved : goal.loop-slot-preserved
loop-slot-preserved c = λ stack.
    let n = c.slot-item.result in
    let mid = c.loop-slot.bytes.items in
    let e = c.in_ok-put_number.ensures ∙ ap (λ k. mid ++ little_bytes 2 k) c.slot_number.ensures in
    slot_written c.args.bytes.now.items mid c.put_number.new.bytes.items c.args.slots.now c.loop-slot.slot-index stack n (omega arith) c.slot-item.is e (omega (arith, c.slot_number.ensures)) (c.loop-slot.invariant stack)

pub returns : goal.returns
returns c = λ stack. slots_written c.args.bytes.now.items c.loop-slot.bytes.items c.args.slots.now c.loop-slot.slot-index stack (omega arith) (c.loop-slot.invariant stack)
