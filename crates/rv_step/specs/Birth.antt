-- How a thread begins, and how a call is answered.
use Rattle.std.specs.Prelude.{ℕ, List, [], replicate, Option, Some, None}
use Rattle.rv_inst.specs.Image.{image_start}
use Rattle.rv_alu.specs.Alu.{plus}
use Rattle.rv_step.specs.Step.{HartState, with_reg}

-- the numbers of the registers that a call or a birth writes
abbrev pub ra : ℕ
ra = 1

abbrev pub sp_ : ℕ
sp_ = 2

abbrev pub a0_ : ℕ
a0_ = 10

abbrev pub a1_ : ℕ
a1_ = 11

-- a new thread: it stands at its entry, has its arguments and the end of its stack, returns to the image's first word,
-- and holds no slot yet
abbrev pub born : (entry a0 a1 sp : ℕ) → HartState
born entry a0 a1 sp = record {
  regs = with_reg (with_reg (with_reg (with_reg (replicate 32 0) ra image_start) sp_ sp) a0_ a0) a1_ a1;
  pc = entry;
  memory = [];
}

abbrev pub with_second : List ℕ → Option ℕ → List ℕ
with_second regs None = regs
with_second regs (Some a1) = with_reg regs a1_ a1

-- a thread whose call is answered: a0 is written, a1 too where it is given, and the thread goes on after the ECALL
abbrev pub told : HartState → ℕ → Option ℕ → HartState
told s a0 a1 = record s { regs = with_second (with_reg s.regs a0_ a0) a1; pc = plus s.pc 4 }
