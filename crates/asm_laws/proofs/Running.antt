-- Running the expansions.
use Rattle.std.proofs.Common.{◌≡◌, ℕ, suc, ◌+◌, ◌*◌, ◌%◌, ◌^◌, ◌<◌, true, false, eqb, cond, ne_eqb, List, [], ◌∷◌, ◌++◌, length, refl, ap, ◌∙◌, arith, set-set, get_or-set_same}
use Rattle.std.specs.Int.{cast_unsigned, w64}
use Rattle.rv_inst.specs.declared.inst.Inst.{Inst}
use Rattle.rv_inst.specs.declared.inst.Inst.TheVariants.{Lui, Imm, Shift}
use Rattle.rv_inst.specs.declared.inst.ImmOp.TheVariants.{Addi, Addiw}
use Rattle.rv_inst.specs.declared.inst.ShiftOp.TheVariants.{Slli}
use Rattle.rv_alu.specs.Alu.{plus, extended}
use Rattle.rv_step.specs.Memory.{Memory}
use Rattle.rv_step.specs.Step.{HartState, Next, Call, Fault, effect, reg_of, with_reg}
use Rattle.rv_inst.specs.Format.{low_twelve}
use Rattle.asm_targets.specs.Expansions.{fits_signed, high, shifted, load_short, load_within, load_number, distance, load_address}
use Rattle.asm_laws.specs.Loads.{and_then, after, Puts}
use Rattle.asm_laws.proofs.Sums.{low_alone, low_onto, low_onto_high, low_onto_place, shifted_fits, shifted_once, shifted_twice, shifted_thrice}

-- ---- one register

isnt_zero : (rd : ℕ) → 0 < rd → eqb rd 0 ≡ false
isnt_zero rd some = ne_eqb rd 0 (λ e. absurd (omega (arith, some, e)))

pub read_back : (regs : List ℕ) (rd a : ℕ) → 0 < rd → rd < length regs → reg_of (with_reg regs rd a) rd ≡ a
read_back regs rd a some h = let other : eqb rd 0 ≡ false = isnt_zero rd some in rw other (get_or-set_same regs rd a 0 h)

pub over : (regs : List ℕ) (rd a b : ℕ) → 0 < rd → with_reg (with_reg regs rd a) rd b ≡ with_reg regs rd b
over regs rd a b some = let other : eqb rd 0 ≡ false = isnt_zero rd some in rw other (set-set regs rd a b)

pub in_state : (r t : List ℕ) (pc : ℕ) (m : Memory) → r ≡ t → Next (record { regs = r; pc = pc; memory = m }) ≡ Next (record { regs = t; pc = pc; memory = m })
in_state r t pc m e = ap (λ x. Next (record { regs = x; pc = pc; memory = m })) e

-- what a second instruction reads is what the first one wrote
pub second : (regs : List ℕ) (rd a b : ℕ) (f : ℕ → ℕ) → 0 < rd → rd < length regs → f a ≡ b
    → with_reg (with_reg regs rd a) rd (f (reg_of (with_reg regs rd a) rd)) ≡ with_reg regs rd b
second regs rd a b f some h e =
    ap (λ v. with_reg (with_reg regs rd a) rd v) (ap f (read_back regs rd a some h) ∙ e) ∙ over regs rd a b some

-- ---- one after another

after_then : (image : List ℕ) (xs ys : List Inst) (s : HartState) → after image s (xs ++ ys) ≡ and_then (after image s xs) (λ t. after image t ys)
after_then image [] ys s = refl
after_then image (x ∷ xs) ys s =
    elim (effect image s x) as (λ o. and_then o (λ t. after image t (xs ++ ys)) ≡ and_then (and_then o (λ t. after image t xs)) (λ t. after image t ys)) [
      | Next t ↦ after_then image xs ys t
      | Call ↦ refl
      | Fault kind ↦ refl
    ]

-- ---- loads

short_puts : (image : List ℕ) (s : HartState) (rd n : ℕ) → 0 < rd → rd < length s.regs → n < 2 ^ 64 → fits_signed 31 n ≡ true → Puts image (load_short rd n) rd n s
short_puts image s rd n some h fit e =
    elim (fits_signed 11 n) as (λ b. fits_signed 11 n ≡ b → Puts image (cond b (Imm Addi rd 0 (low_twelve n) ∷ []) (Lui rd (high n) ∷ Imm Addiw rd rd (low_twelve n) ∷ [])) rd n s) [
      | true ↦ λ f. (plus s.pc 4, in_state _ _ _ _ (ap (λ v. with_reg s.regs rd v) (low_alone n fit f)))
      | false ↦ λ f. (plus (plus s.pc 4) 4, in_state _ _ _ _ (second s.regs rd (extended (high n * 2 ^ 12)) n (λ x. extended ((x + cast_unsigned w64 (low_twelve n)) % 2 ^ 32)) some h (low_onto_high n fit e)))
    ] refl

tail_puts : (image : List ℕ) (s : HartState) (rd n pc : ℕ) → 0 < rd → rd < length s.regs → n < 2 ^ 64
    → after image (record { regs = with_reg s.regs rd (shifted n); pc = pc; memory = s.memory }) (Shift Slli rd rd 12 ∷ Imm Addi rd rd (low_twelve n) ∷ [])
    ≡ Next (record { regs = with_reg s.regs rd n; pc = plus (plus pc 4) 4; memory = s.memory })
tail_puts image s rd n pc some h fit =
    let one = with_reg s.regs rd (shifted n) in
    let b : ℕ = (shifted n * 2 ^ 12) % 2 ^ 64 in
    let first : with_reg one rd ((reg_of one rd * 2 ^ 12) % 2 ^ 64) ≡ with_reg s.regs rd b = second s.regs rd (shifted n) b (λ x. (x * 2 ^ 12) % 2 ^ 64) some h refl in
    in_state _ _ _ _
    (ap (λ r. with_reg r rd (plus (reg_of r rd) (cast_unsigned w64 (low_twelve n)))) first
    ∙ second s.regs rd b n (λ x. plus x (cast_unsigned w64 (low_twelve n))) some h (low_onto n fit))

longer_puts : (image : List ℕ) (s : HartState) (k rd n : ℕ) → 0 < rd → rd < length s.regs → n < 2 ^ 64
    → Puts image (load_within k rd (shifted n)) rd (shifted n) s → Puts image (load_within (suc k) rd n) rd n s
longer_puts image s k rd n some h fit first =
    let tail : List Inst = Shift Slli rd rd 12 ∷ Imm Addi rd rd (low_twelve n) ∷ [] in
    elim (fits_signed 31 n) as (λ b. fits_signed 31 n ≡ b → Puts image (cond b (load_short rd n) (load_within k rd (shifted n) ++ tail)) rd n s) [
      | true ↦ λ e. short_puts image s rd n some h fit e
      | false ↦ λ e. (plus (plus first.0 4) 4, after_then image (load_within k rd (shifted n)) tail s ∙ ap (λ o. and_then o (λ t. after image t tail)) first.1 ∙ tail_puts image s rd n first.0 some h fit)
    ] refl

pub number_puts : (image : List ℕ) (s : HartState) (rd n : ℕ) → 0 < rd → rd < length s.regs → n < 2 ^ 64 → Puts image (load_number rd n) rd n s
unfolding load_number
number_puts image s rd n some h fit =
    let one = shifted n in
    let two = shifted one in
    let three = shifted two in
    let fits_one = shifted_fits n in
    let fits_two = shifted_fits one in
    let last = shifted_thrice two fits_two (shifted_twice one fits_one (shifted_once n)) in
    longer_puts image s 2 rd n some h fit
    (longer_puts image s 1 rd one some h fits_one
    (longer_puts image s 0 rd two some h fits_two (short_puts image s rd three some h (shifted_fits two) last)))

-- ---- an address

pub address_puts : (image : List ℕ) (s : HartState) (rd target : ℕ) → 0 < rd → rd < length s.regs → s.pc < 2 ^ 30 → target < 2 ^ 30
    → Puts image (load_address rd s.pc target) rd target s
address_puts image s rd target some h near fit =
    let d = distance s.pc target in (
      plus (plus s.pc 4) 4,
      in_state _ _ _ _ (second s.regs rd (plus s.pc (extended (high d * 2 ^ 12))) target (λ x. plus x (cast_unsigned w64 (low_twelve d))) some h
          (low_onto_place s.pc target near fit)),
    )
