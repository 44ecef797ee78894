use Rattle.std.proofs.Common.{◌∙◌, take, drop, arith}
use Rattle.std.proofs.lemmas.Result.{err_from_is_err_and}
use Rattle.std.proofs.lemmas.List.{length-set, get_or-set_other}
use Rattle.thread_text.specs.Fields.{read}
use Rattle.thread_text.specs.Grammar.{register_fields}
use Rattle.thread_text.proofs.Steps.{register_read, register_short, registers_all, register_set}
use Rattle.thread_text.proofs.opening.read_registers.Goals as goal

pub returns-in_err-regs-clause-numbers : goal.returns-in_err-regs-clause-numbers
returns-in_err-regs-clause-numbers c =
    let p = err_from_is_err_and c.from_residual.result c.from_residual.ensures.1 in
    rw (p.1, p.2) (register_short c.args.bytes.now c.loop-r.r c.in_err-regs.field-0.0 (drop 1 (take c.loop-r.r c.loop-r.regs)) (read (register_fields 31) c.args.bytes.now 25) (omega arith) c.in_err-regs.ensures.number c.loop-r.invariant.so_far)

pub loop-r-preserved : goal.loop-r-preserved
loop-r-preserved c =
    let bytes = c.args.bytes.now in
    let regs = c.loop-r.regs in
    let n = c.in_ok-regs.field-0 in
    let set = register_set regs c.loop-r.r n (omega arith) (omega arith) in
    record {
      so_far = rw set (register_read bytes c.loop-r.r n (drop 1 (take c.loop-r.r regs)) (read (register_fields 31) bytes 25) (omega arith) c.in_ok-regs.ensures.number c.loop-r.invariant.so_far);
      zero = get_or-set_other regs c.loop-r.r 0 n 0 (omega arith) ∙ c.loop-r.invariant.zero;
      all = length-set regs c.loop-r.r n ∙ c.loop-r.invariant.all;
    }

pub returns-clause-numbers : goal.returns-clause-numbers
returns-clause-numbers c = registers_all c.args.bytes.now c.loop-r.r c.loop-r.regs (read (register_fields 31) c.args.bytes.now 25) (omega arith) (omega arith) (omega arith) c.loop-r.invariant.so_far
