-- A hart that stands at a multiple of 4 stays at one: what isn't a jump goes on by 4, and a jump or a taken branch to another target
-- faults.
use Rattle.std.proofs.Common.{◌≡◌, ℕ, zero, suc, eqb, ◌%◌, ◌≤◌, List, [], ◌∷◌, Option, Some, None, Bool, true, false, refl, ap, ◌∙◌, subst, arith}
use Rattle.std.specs.Prelude.{slice_index}
use Rattle.std.specs.Option.{option_and_then}
use Rattle.std.proofs.lemmas.Bool.{eqb-true}
use Rattle.rv_inst.specs.Image.{image_word}
use Rattle.rv_inst.specs.Fields.{inst_of}
use Rattle.rv_inst.specs.declared.inst.Inst.{Inst}
use Rattle.rv_inst.specs.declared.inst.Inst.TheVariants.{Lui, Auipc, Jal, Jalr, Branch, Load, Store, Imm, Shift, Op, Fence, Ecall, Ebreak}
use Rattle.rv_inst.specs.declared.inst.LoadOp.{LoadOp}
use Rattle.rv_step.specs.declared.hart.Hart.{Hart}
use Rattle.rv_step.specs.Memory.{Memory}
use Rattle.rv_step.specs.Step.{HartState, state_of, Outcome, Next, Call, Fault, Keeps, step_of, word_effect, effect_if, effect, jumps, branches, loads, stores, reg_of, with_reg}
use Rattle.rv_alu.specs.Alu.{plus, taken}
use Rattle.rv_step.specs.Birth.{born, told, with_second, a0_, a1_}
use Rattle.rv_step.specs.Run.{after, next_of}
use Rattle.iso_blocks.specs.Heap.{Heap}
use Rattle.node_thread.specs.Views.{IsOwn, CanTravel}

abbrev Stands : HartState → Type 0
Stands s = s.pc % 4 ≡ 0

abbrev GoesOn : Outcome → Type 0
GoesOn (Next new) = Stands new
GoesOn Call = Unit {0}
GoesOn (Fault kind) = Unit {0}

four_on : (pc : ℕ) → pc % 4 ≡ 0 → plus pc 4 % 4 ≡ 0
four_on pc h = grind (arith, h)

jumps_go : (s : HartState) (rd target : ℕ) → GoesOn (jumps s rd target)
jumps_go s rd target = by (eqb (target % 4) 0) refl
  where
    by : (b : Bool) → eqb (target % 4) 0 ≡ b → GoesOn (jumps s rd target)
    by true h = rw h (eqb-true (target % 4) 0 h)
    by false h = rw h tt

branches_go : (s : HartState) (target : ℕ) (taken : Bool) → Stands s → GoesOn (branches s target taken)
branches_go s target false h = four_on s.pc h
branches_go s target true h = by (eqb (target % 4) 0) refl
  where
    by : (b : Bool) → eqb (target % 4) 0 ≡ b → GoesOn (branches s target true)
    by true e = rw e (eqb-true (target % 4) 0 e)
    by false e = rw e tt

loads_go : (s : HartState) (rd : ℕ) (op : LoadOp) (o : Option (List ℕ)) → Stands s → GoesOn (loads s rd op o)
loads_go s rd op None h = tt
loads_go s rd op (Some bytes) h = four_on s.pc h

stores_go : (s : HartState) (o : Option Memory) → Stands s → GoesOn (stores s o)
stores_go s None h = tt
stores_go s (Some memory) h = four_on s.pc h

effect_goes : (image : List ℕ) (s : HartState) (inst : Inst) → Stands s → GoesOn (effect image s inst)
effect_goes image s (Lui rd imm) h = four_on s.pc h
effect_goes image s (Auipc rd imm) h = four_on s.pc h
effect_goes image s (Jal rd offset) h = jumps_go s rd _
effect_goes image s (Jalr rd rs1 offset) h = jumps_go s rd _
effect_goes image s (Branch op rs1 rs2 offset) h = branches_go s _ (taken op (reg_of s.regs rs1) (reg_of s.regs rs2)) h
effect_goes image s (Load op rd rs1 offset) h = loads_go s rd op _ h
effect_goes image s (Store op rs1 rs2 offset) h = stores_go s _ h
effect_goes image s (Imm op rd rs1 imm) h = four_on s.pc h
effect_goes image s (Shift op rd rs1 amount) h = four_on s.pc h
effect_goes image s (Op op rd rs1 rs2) h = four_on s.pc h
effect_goes image s (Fence rd rs1 bits) h = four_on s.pc h
effect_goes image s Ecall h = tt
effect_goes image s Ebreak h = tt

if_goes : (image : List ℕ) (s : HartState) (o : Option Inst) → Stands s → GoesOn (effect_if image s o)
if_goes image s None h = tt
if_goes image s (Some inst) h = effect_goes image s inst h

word_goes : (image : List ℕ) (s : HartState) (o : Option ℕ) → Stands s → GoesOn (word_effect image s o)
word_goes image s None h = tt
word_goes image s (Some word) h = if_goes image s (inst_of word) h

step_goes : (image : List ℕ) (s : HartState) → Stands s → GoesOn (step_of image s)
unfolding step_of
step_goes image s h = word_goes image s (image_word image s.pc) h

abbrev StandsIn : Option HartState → Type 0
StandsIn None = Unit {0}
StandsIn (Some s) = Stands s

next_stands : (o : Outcome) → GoesOn o → StandsIn (next_of o)
next_stands (Next s) h = h
next_stands Call h = tt
next_stands (Fault kind) h = tt

after_stands : (image : List ℕ) (s : HartState) (count : ℕ) → Stands s → StandsIn (after image s count)
unfolding after
after_stands image s zero h = h
after_stands image s (suc count) h = by (after image s count) (after_stands image s count h)
  where
    by : (o : Option HartState) → StandsIn o → StandsIn (option_and_then (λ (mid : HartState). next_of (step_of image mid)) o)
    by None k = tt
    by (Some mid) k = next_stands (step_of image mid) (step_goes image mid k)

-- so many steps keep what a thread needs to travel
pub run_travels : (image : List ℕ) (priority count : ℕ) (old new : Hart) → after image (state_of old) count ≡ Some (state_of new) → Keeps (state_of old) (state_of new)
    → CanTravel priority old → CanTravel priority new
run_travels image priority count old new steps keeps can = record {
  zero = keeps.0 ∙ can.zero;
  pc = subst StandsIn steps (after_stands image (state_of old) count can.pc);
  low = can.low;
}

-- the same registers and pc
pub still : (new old : Hart) (priority : ℕ) → new.regs ≡ old.regs → new.pc ≡ old.pc → CanTravel priority old → CanTravel priority new
still new old priority regs pc can = record {
  zero = ap (λ (rs : List ℕ). slice_index rs 0) regs ∙ can.zero;
  pc = ap (λ (n : ℕ). n % 4) pc ∙ can.pc;
  low = can.low;
}

-- a new thread begins at its entry
pub born_so : (entry a0 sp priority : ℕ) (hart new : Hart) → state_of hart ≡ born entry a0 0 sp → new.regs ≡ hart.regs → new.pc ≡ hart.pc → entry % 4 ≡ 0 → priority ≤ 7 → CanTravel priority new
born_so entry a0 sp priority hart new is regs pc aligned low = record {
  zero = ap (λ (rs : List ℕ). slice_index rs 0) regs ∙ ap (λ (s : HartState). slice_index s.regs 0) is;
  pc = ap (λ (n : ℕ). n % 4) pc ∙ ap (λ (s : HartState). s.pc % 4) is ∙ aligned;
  low = low;
}

a0_stays : (rs : List ℕ) (v : ℕ) → slice_index (with_reg rs a0_ v) 0 ≡ slice_index rs 0
a0_stays [] v = refl
a0_stays (r ∷ rs) v = refl

a1_stays : (rs : List ℕ) (v : ℕ) → slice_index (with_reg rs a1_ v) 0 ≡ slice_index rs 0
a1_stays [] v = refl
a1_stays (r ∷ rs) v = refl

second_zero : (rs : List ℕ) (second : Option ℕ) → slice_index (with_second rs second) 0 ≡ slice_index rs 0
second_zero rs None = refl
second_zero rs (Some v) = a1_stays rs v

-- a thread that is told goes on by 4
pub told_so : (code priority : ℕ) (second : Option ℕ) (old new : Hart) → state_of new ≡ told (state_of old) code second → CanTravel priority old → CanTravel priority new
told_so code priority second old new is can = record {
  zero = ap (λ (s : HartState). slice_index s.regs 0) is ∙ second_zero (with_reg old.regs a0_ code) second ∙ a0_stays old.regs code ∙ can.zero;
  pc = ap (λ (s : HartState). s.pc % 4) is ∙ four_on old.pc can.pc;
  low = can.low;
}

-- a run keeps which slots are held
pub run_owns : (stack : ℕ) (old new : Hart) (slots : List ℕ) (blocks : Heap) → Keeps (state_of old) (state_of new) → IsOwn stack old slots blocks → IsOwn stack new slots blocks
run_owns stack old new slots blocks keeps own = record { held = keeps.1 ∙ own.held; stack = own.stack; heap = own.heap }
