use Rattle.std.proofs.Common.{◌≡◌, ◌+◌, ◌-◌, ◌*◌, ◌<◌, ◌∙◌, ap, length, take, drop, arith}
use Rattle.slot_space.specs.Limits.{slot_size}
use Rattle.pack_thread.proofs.Memories.{all_below, width_of, not_held, granted_last, granted_next, length-part}
use Rattle.pack_thread.proofs.unpacking.memory_of.Goals as goal

pub grant-requires-clause-held : goal.grant-requires-clause-held
grant-requires-clause-held c =
    let m = c.loop-slot.memory.0 in
    not_held m c.slot-item.result (all_below m c.args.held.now c.loop-slot.slot-index c.slot-item.result c.requires.ascending c.loop-slot.invariant.granted.slots (omega arith) c.slot-item.is)

pub loop-slot-preserved : goal.loop-slot-preserved
loop-slot-preserved c =
    let m = c.loop-slot.memory.0 in
    let held = c.args.held.now in
    let i = c.loop-slot.slot-index in
    let s = c.slot-item.result in
    let below = all_below m held i s c.requires.ascending c.loop-slot.invariant.granted.slots (omega arith) c.slot-item.is in
    let bytes = c.args.bytes.now in
    let at = c.loop-slot.at in
    let place = c.loop-slot.invariant.place in
    let width : at + slot_size - at ≡ slot_size = width_of at in
    let part : c.fill.new.block ≡ take slot_size (drop (slot_size * i) bytes) = c.fill.ensures ∙ ap (λ k. take k (drop at bytes)) width ∙ ap (λ k. take slot_size (drop k bytes)) place in
    let len : length c.fill.new.block ≡ slot_size = ap length part ∙ length-part bytes i (length held) c.loop-slot-test.true c.requires.whole in
    let some : 0 < c.loop-slot.pool = omega (arith, c.loop-slot.invariant.spare, c.loop-slot-test.true) in
    let taken = (c.in-Ok.ensures.spare some).1 in
    record {
      granted = rw (c.grant.ensures.slots, granted_last m s c.fill.new.block below) (granted_next m held bytes c.fill.new.block i s (omega arith) c.slot-item.is c.loop-slot.invariant.granted part len);
      place = omega arith;
      room = omega (arith, c.grant.ensures.room, c.loop-slot.invariant.room);
      spare = omega (arith, taken, c.loop-slot.invariant.spare);
    }
