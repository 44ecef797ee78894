-- What instructions do, one after another.
use Rattle.std.specs.Prelude.{◌≡◌, ℕ, List, [], ◌∷◌}
use Rattle.rv_inst.specs.declared.inst.Inst.{Inst}
use Rattle.rv_step.specs.Step.{HartState, Outcome, Next, Call, Fault, effect, with_reg}

-- on from the state that an instruction leaves, unless it stops
abbrev pub and_then : Outcome → (HartState → Outcome) → Outcome
and_then (Next state) f = f state
and_then Call f = Call
and_then (Fault kind) f = Fault kind

-- what becomes of a state by instructions, one after another
abbrev pub after : List ℕ → HartState → List Inst → Outcome
after image s [] = Next s
after image s (inst ∷ insts) = and_then (effect image s inst) (λ t. after image t insts)

-- the instructions put n into rd, and change nothing else but where the hart is
abbrev pub Puts : List ℕ → List Inst → (rd n : ℕ) → HartState → Type 0
Puts image insts rd n s = (pc : ℕ) × (after image s insts ≡ Next (record { regs = with_reg s.regs rd n; pc = pc; memory = s.memory }))
