use Rattle.std.proofs.Common.{get_or, refl, arith}
use Rattle.pack_thread.proofs.WriteSteps.{register_written, register_more, registers_written}
use Rattle.pack_thread.proofs.packing.put_registers.Goals as goal

pub loop-r-preserved : goal.loop-r-preserved
loop-r-preserved c =
    let regs = c.args.regs.now in
    let n = get_or regs c.loop-r.r 0 in
    let more = register_more regs c.loop-r.r n (omega arith) (omega arith) refl in
    rw more (register_written c.args.bytes.now.items c.loop-r.bytes.items c.put_number.new.bytes.items c.loop-r.r n _ (omega arith) c.in_ok-put_number.ensures (omega arith) c.loop-r.invariant)

pub returns-clause-numbers : goal.returns-clause-numbers
returns-clause-numbers c = registers_written c.args.bytes.now.items c.loop-r.bytes.items c.args.regs.now c.loop-r.r (omega arith) (omega arith) c.loop-r.invariant
