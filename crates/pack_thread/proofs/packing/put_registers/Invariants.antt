use Rattle.std.proofs.Common.{◌-◌, take, drop}
use Rattle.thread_text.specs.Grammar.{register_fields}
use Rattle.pack_thread.specs.Writing.{Writes}
use Rattle.pack_thread.proofs.packing.put_registers.Given as goal

abbrev pub invariant-loop-r : goal.invariant-loop-r
invariant-loop-r l = Writes l.fn.bytes.items l.bytes.items (register_fields 31) (drop 1 (take l.r l.regs)) (register_fields (32 - l.r))
