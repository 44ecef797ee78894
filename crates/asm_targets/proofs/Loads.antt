-- One shift more in the load of a number.
use Rattle.std.proofs.Common.{◌≡◌, ◌≢◌, ℕ, zero, suc, ◌-◌, false, List, [], ◌∷◌, ◌++◌, refl, sym, ap, ◌∙◌, append_assoc, arith}
use Rattle.rv_inst.specs.declared.inst.Inst.{Inst}
use Rattle.rv_inst.specs.declared.inst.Inst.TheVariants.{Imm, Shift}
use Rattle.rv_inst.specs.declared.inst.ImmOp.TheVariants.{Addi}
use Rattle.rv_inst.specs.declared.inst.ShiftOp.TheVariants.{Slli}
use Rattle.rv_inst.specs.Format.{low_twelve}
use Rattle.asm_targets.specs.Expansions.{code, inst_bytes, fits_signed, shifted, load_within}

code_append : (xs ys : List Inst) → code (xs ++ ys) ≡ code xs ++ code ys
code_append [] ys = refl
code_append (x ∷ xs) ys = ap (λ bs. inst_bytes x ++ bs) (code_append xs ys) ∙ sym (append_assoc (inst_bytes x) (code xs) (code ys))

code_two : (a b : Inst) → code (a ∷ b ∷ []) ≡ code (a ∷ []) ++ code (b ∷ [])
code_two a b = code_append (a ∷ []) (b ∷ [])

load_longer : (s rd n : ℕ) → s ≢ 0 → fits_signed 31 n ≡ false
    → load_within s rd n ≡ load_within (s - 1) rd (shifted n) ++ Shift Slli rd rd 12 ∷ Imm Addi rd rd (low_twelve n) ∷ []
load_longer zero rd n some long = absurd (some refl)
load_longer (suc s) rd n some long = let e : suc s - 1 ≡ s = omega arith in rw (long, e) refl

pub longer : (s rd n : ℕ) (old a b d : List ℕ) → s ≢ 0 → fits_signed 31 n ≡ false
    → a ≡ old ++ code (load_within (s - 1) rd (shifted n)) → b ≡ a ++ code (Shift Slli rd rd 12 ∷ []) → d ≡ b ++ code (Imm Addi rd rd (low_twelve n) ∷ [])
    → d ≡ old ++ code (load_within s rd n)
longer s rd n old a b d some long x y z =
    let first = load_within (s - 1) rd (shifted n) in
    let shift : Inst = Shift Slli rd rd 12 in
    let add : Inst = Imm Addi rd rd (low_twelve n) in
    let e : code (load_within s rd n) ≡ code first ++ (code (shift ∷ []) ++ code (add ∷ [])) =
    ap code (load_longer s rd n some long) ∙ code_append first (shift ∷ add ∷ []) ∙ ap (λ bs. code first ++ bs) (code_two shift add) in
    z ∙ ap (λ bs. bs ++ code (add ∷ [])) (y ∙ ap (λ bs. bs ++ code (shift ∷ [])) x)
    ∙ append_assoc (old ++ code first) (code (shift ∷ [])) (code (add ∷ []))
    ∙ append_assoc old (code first) (code (shift ∷ []) ++ code (add ∷ []))
    ∙ ap (λ bs. old ++ bs) (sym e)
