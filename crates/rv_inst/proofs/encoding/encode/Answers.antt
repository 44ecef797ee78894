use Rattle.rv_inst.proofs.Again.{imm_small, shift_small, reg_small}
use Rattle.rv_inst.proofs.encoding.encode.Goals as goal

pub i_word-requires-in-Imm-clause-funct3 : goal.i_word-requires-in-Imm-clause-funct3
i_word-requires-in-Imm-clause-funct3 c = rw c.imm_row-row.ensures.funct3 (imm_small c.in-Imm.op).0

pub i_word-requires-in-Imm-clause-opcode : goal.i_word-requires-in-Imm-clause-opcode
i_word-requires-in-Imm-clause-opcode c = rw c.imm_row-row.ensures.opcode (imm_small c.in-Imm.op).1

pub i_word-requires-in-Shift-clause-funct3 : goal.i_word-requires-in-Shift-clause-funct3
i_word-requires-in-Shift-clause-funct3 c = rw c.shift_row-row.ensures.funct3 (shift_small c.in-Shift.op).0

pub i_word-requires-in-Shift-clause-opcode : goal.i_word-requires-in-Shift-clause-opcode
i_word-requires-in-Shift-clause-opcode c = rw c.shift_row-row.ensures.opcode (shift_small c.in-Shift.op).1

pub r_word-requires-clause-funct7 : goal.r_word-requires-clause-funct7
r_word-requires-clause-funct7 c = rw c.reg_row-row.ensures.funct7 (reg_small c.in-Op.op).2

pub r_word-requires-clause-funct3 : goal.r_word-requires-clause-funct3
r_word-requires-clause-funct3 c = rw c.reg_row-row.ensures.funct3 (reg_small c.in-Op.op).0

pub r_word-requires-clause-opcode : goal.r_word-requires-clause-opcode
r_word-requires-clause-opcode c = rw c.reg_row-row.ensures.opcode (reg_small c.in-Op.op).1
