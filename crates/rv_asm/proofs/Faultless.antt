-- What holds of lines without a fault: they have as many bytes as their sizes say, and each service starts at a multiple of 4.
use Rattle.std.proofs.Common.{◌≡◌, ℕ, ◌+◌, ◌*◌, ◌%◌, Bool, true, false, eqb, cond, List, [], ◌∷◌, length, Option, Some, None, Result, Ok, Err, refl, ap, ◌∙◌, inl, inr, arith, length-append, eqb-true}
use Rattle.std.proofs.lemmas.List.{length-replicate}
use Rattle.std.specs.Prelude.{is_none, ℤ, ◌||◌}
use Rattle.std.specs.Option.{option_map_or, option_or}
use Rattle.std.specs.List.{flat_map}
use Rattle.std.proofs.lemmas.Bool.{cases_Bool}
use Rattle.rv_inst.specs.declared.inst.Inst.{Inst}
use Rattle.rv_inst.specs.declared.inst.Inst.TheVariants.{Branch, Jal}
use Rattle.asm_text.specs.declared.slots.What.{What}
use Rattle.asm_text.specs.declared.statements.Width.{Width}
use Rattle.asm_text.specs.declared.statements.Width.TheVariants.{Byte, Word, Dword}
use Rattle.asm_text.specs.Statements.{StatementOf, plain, branch, jump, load_number, load_address, values, bytes, align, service, nothing}
use Rattle.asm_text.specs.Lines.{LineOf}
use Rattle.asm_targets.specs.declared.labels.Mark.{Mark}
use Rattle.rv_asm.specs.declared.error.AsmError.{AsmError}
use Rattle.rv_asm.specs.declared.error.AsmError.TheVariants.{BadLine, Twice, Unknown, FarTarget}
use Rattle.asm_text.specs.declared.slots.What.TheVariants.{Place}
use Rattle.asm_targets.specs.Labels.{ServiceOf}
use Rattle.asm_targets.specs.Expansions as expansions
use Rattle.asm_targets.specs.Expansions.{code, inst_bytes, offset_to, branch_reach, jump_reach}
use Rattle.rv_asm.specs.Layout.{width_len, padding, size_at, line_size, statement_in, service_by, service_among, end_of}
use Rattle.rv_asm.specs.Faults.{Labels, Services, is_odd_place, is_misplaced, is_unknown, is_beyond, is_far, label_is_given, service_is_given, label_fault, statement_fault, line_fault, first_fault}
use Rattle.rv_asm.specs.Bytes.{address_of, bytes_of_width, number_of_value, offset_bytes, statement_bytes, line_bytes, all_bytes}

-- ---- how many bytes

inst_len : (inst : Inst) → length (inst_bytes inst) ≡ 4
unfolding inst_bytes
inst_len inst = refl

code_len : (insts : List Inst) → length (code insts) ≡ 4 * length insts
code_len [] = refl
code_len (x ∷ xs) = omega (arith, length-append (inst_bytes x) (code xs), inst_len x, code_len xs)

flat_len : {X : Type 0} (f : X → List ℕ) (k : ℕ) → ((x : X) → length (f x) ≡ k) → (xs : List X) → length (flat_map f xs) ≡ k * length xs
flat_len f k each [] = omega arith
flat_len f k each (x ∷ xs) = omega (arith, length-append (f x) (flat_map f xs), each x, flat_len f k each xs)

width_bytes_len : (w : Width) (n : ℕ) → length (bytes_of_width w n) ≡ width_len w
width_bytes_len Byte n = refl
width_bytes_len Word n = refl
width_bytes_len Dword n = refl

offset_len : (reach at : ℕ) (inst : ℤ → Inst) (mark : Option Mark) → is_none mark ≡ false → is_beyond reach at mark ≡ false
    → length (offset_bytes reach at inst mark) ≡ 4
offset_len reach at inst None known near = absurd cc
offset_len reach at inst (Some m) known near =
    elim (offset_to reach at m.address) as (λ o. is_none o ≡ false → length (option_map_or (λ offset. code (inst offset ∷ [])) o []) ≡ 4) [
      | None ↦ λ e. absurd cc
      | Some offset ↦ λ e. code_len (inst offset ∷ [])
    ] near

statement_len : (labels : Labels) (at : ℕ) (s : StatementOf) → is_unknown labels s ≡ false → is_far labels at s ≡ false
    → length (statement_bytes labels at s) ≡ size_at at s
statement_len labels at (plain inst) known near = code_len (inst ∷ [])
statement_len labels at (branch op rs1 rs2 label) known near = offset_len branch_reach at (Branch op rs1 rs2) (labels label) known near
statement_len labels at (jump rd label) known near = offset_len jump_reach at (Jal rd) (labels label) known near
statement_len labels at (load_number rd n) known near = code_len (expansions.load_number rd n)
statement_len labels at (load_address rd label) known near = code_len (expansions.load_address rd at (address_of labels label))
statement_len labels at (values w vs) known near =
    flat_len (λ v. bytes_of_width w (number_of_value labels v)) (width_len w) (λ v. width_bytes_len w (number_of_value labels v)) vs
statement_len labels at (bytes bs) known near = refl
statement_len labels at (align k) known near = length-replicate (padding k at) 0
statement_len labels at (service n label) known near = refl
statement_len labels at nothing known near = refl

-- ---- no fault is none of each kind

four : (a b c d : Bool) (w x y z : AsmError) → cond a (Some w) (cond b (Some x) (cond c (Some y) (cond d (Some z) None))) ≡ None
    → (a ≡ false) × (c ≡ false) × (d ≡ false)
four true b c d w x y z e = absurd cc
four false true c d w x y z e = absurd cc
four false false true d w x y z e = absurd cc
four false false false true w x y z e = absurd cc
four false false false false w x y z e = (refl, refl, refl)

clear_of : (labels : Labels) (services : Services) (i at : ℕ) (label : Option (List ℕ)) (s : StatementOf) → statement_fault labels services i at label s ≡ None
    → (is_misplaced labels at s ≡ false) × (is_unknown labels s ≡ false) × (is_far labels at s ≡ false)
clear_of labels services i at label s e =
    four (is_misplaced labels at s) (label_is_given labels i label || service_is_given services i s) (is_unknown labels s) (is_far labels at s)
    (BadLine i Place) (Twice i) (Unknown i) (FarTarget i) e

both_none : {X : Type 0} (a b : Option X) → option_or a b ≡ None → (a ≡ None) × (b ≡ None)
both_none None b e = (refl, e)
both_none (Some x) b e = absurd cc

-- ---- lines

line_len : (labels : Labels) (services : Services) (i at : ℕ) (line : Result LineOf What) → line_fault labels services i at line ≡ None
    → length (line_bytes labels at line) ≡ line_size at line
line_len labels services i at (Err what) e = absurd cc
line_len labels services i at (Ok line) e =
    elim line.statement as (λ o. option_map_or (statement_fault labels services i at line.label) o (label_fault labels i line.label) ≡ None
    → length (option_map_or (statement_bytes labels at) o []) ≡ option_map_or (size_at at) o 0) [
      | None ↦ λ f. refl
      | Some s ↦ λ f. let clear = clear_of labels services i at line.label s f in statement_len labels at s clear.1 clear.2
    ] e

pub lines_len : (labels : Labels) (services : Services) (i at : ℕ) (lines : List (Result LineOf What)) → first_fault labels services i at lines ≡ None
    → at + length (all_bytes labels at lines) ≡ end_of at lines
lines_len labels services i at [] e = omega arith
lines_len labels services i at (line ∷ lines) e =
    let clear = both_none (line_fault labels services i at line) (first_fault labels services (i + 1) (at + line_size at line) lines) e in
    let next = at + line_size at line in
    omega (
      arith,
      length-append (line_bytes labels at line) (all_bytes labels next lines),
      line_len labels services i at line clear.0,
      lines_len labels services (i + 1) next lines clear.1,
    )

-- ---- services

even_place : (labels : Labels) (label : List ℕ) → is_odd_place (labels label) ≡ false → address_of labels label % 4 ≡ 0
even_place labels label e =
    elim (labels label) as (λ o. is_odd_place o ≡ false → option_map_or (λ m. m.address) o 0 % 4 ≡ 0) [
      | None ↦ λ f. refl
      | Some m ↦ λ f. elim (cases_Bool (eqb (m.address % 4) 0)) [
        | inl is ↦ eqb-true (m.address % 4) 0 is
        | inr isnt ↦ absurd (cc (f, isnt))
      ]
    ] e

label_is : (b : Bool) (i : ℕ) (label : List ℕ) (s : ServiceOf) → cond b (Some (record { line = i; label = label })) None ≡ Some s → label ≡ s.label
label_is true i label s e = ap (λ (o : Option ServiceOf). option_map_or (λ (t : ServiceOf). t.label) o []) e
label_is false i label s e = absurd cc

statement_placed : (labels : Labels) (services : Services) (i at j n : ℕ) (label : Option (List ℕ)) (st : StatementOf) (s : ServiceOf)
    → statement_fault labels services i at label st ≡ None → service_by (Some st) n j ≡ Some s → address_of labels s.label % 4 ≡ 0
statement_placed labels services i at j n label (service number name) s e g =
    let clear = clear_of labels services i at label (service number name) e in
    let same : name ≡ s.label = label_is (eqb number n) j name s g in
    rw (← same) (even_place labels name clear.0)
statement_placed labels services i at j n label (plain inst) s e g = absurd cc
statement_placed labels services i at j n label _ s e g = absurd cc

line_placed : (labels : Labels) (services : Services) (i at j n : ℕ) (line : Result LineOf What) (s : ServiceOf)
    → line_fault labels services i at line ≡ None → service_by (statement_in line) n j ≡ Some s → address_of labels s.label % 4 ≡ 0
line_placed labels services i at j n (Err what) s e g = absurd cc
line_placed labels services i at j n (Ok line) s e g =
    elim line.statement as (λ o. option_map_or (statement_fault labels services i at line.label) o (label_fault labels i line.label) ≡ None
    → service_by o n j ≡ Some s → address_of labels s.label % 4 ≡ 0) [
      | None ↦ λ f h. absurd cc
      | Some st ↦ λ f h. statement_placed labels services i at j n line.label st s f h
    ] e g

pub placed : (labels : Labels) (services : Services) (i at j n : ℕ) (lines : List (Result LineOf What)) (s : ServiceOf)
    → first_fault labels services i at lines ≡ None → service_among j lines n ≡ Some s → address_of labels s.label % 4 ≡ 0
placed labels services i at j n [] s e g = absurd cc
placed labels services i at j n (line ∷ lines) s e g =
    let clear = both_none (line_fault labels services i at line) (first_fault labels services (i + 1) (at + line_size at line) lines) e in
    elim (service_by (statement_in line) n j) as (λ o. service_by (statement_in line) n j ≡ o → option_or o (service_among (j + 1) lines n) ≡ Some s
    → address_of labels s.label % 4 ≡ 0) [
      | None ↦ λ is f. placed labels services (i + 1) (at + line_size at line) (j + 1) n lines s clear.1 f
      | Some x ↦ λ is f. line_placed labels services i at j n line s clear.0 (is ∙ f)
    ] refl g
