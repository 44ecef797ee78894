use Rattle.std.proofs.Common.{◌≡◌, ◌+◌, ◌-◌, ◌*◌, length, take, drop, get_or}
use Rattle.thread_text.specs.Fields.{read}
use Rattle.thread_text.specs.Grammar.{register_fields}
use Rattle.thread_text.specs.Reading.{behind_all}
use Rattle.thread_text.proofs.opening.read_registers.Given as goal

abbrev pub invariant-loop-r : goal.invariant-loop-r
invariant-loop-r l = record {
  so_far : read (register_fields 31) l.bytes 25 ≡ behind_all (drop 1 (take l.r l.regs)) (read (register_fields (32 - l.r)) l.bytes (17 + 8 * l.r));
  zero : get_or l.regs 0 0 ≡ 0;
  all : length l.regs ≡ 32;
}
