use Rattle.std.proofs.Common.{get_or, arith}
use Rattle.std.proofs.lemmas.List.{get_or_default}
use Rattle.pack_thread.proofs.WriteSteps.{live_begin, block_written, live_written}
use Rattle.pack_thread.proofs.packing.put_live.Goals as goal

pub loop-block-init : goal.loop-block-init
loop-block-init c = live_begin c.args.bytes.now.items c.put_number.new.bytes.items c.args.live.now c.args.slots.now c.in_ok-put_number.ensures (omega (arith, c.requires))

pub loop-block-preserved : goal.loop-block-preserved
loop-block-preserved c =
    let live = c.args.live.now in
    let i = c.loop-block.block-index in
    let b = get_or live i (0, 0) in
    block_written c.args.bytes.now.items c.loop-block.bytes.items c.put_number-in-loop-block.new.bytes.items c.put_number-in-loop-block-2.new.bytes.items live c.args.slots.now i b
    (omega arith) (get_or_default live i (0, 0) b (omega arith)) c.in_ok-put_number-2.ensures (omega arith) c.in_ok-put_number-3.ensures (omega arith) c.loop-block.invariant

pub returns : goal.returns
returns c = live_written c.args.bytes.now.items c.loop-block.bytes.items c.args.live.now c.args.slots.now c.loop-block.block-index (omega arith) c.loop-block.invariant
