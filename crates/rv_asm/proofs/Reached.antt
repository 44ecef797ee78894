-- A label stands no further than the end of the lines.
use Rattle.std.proofs.Common.{◌≡◌, ℕ, ◌+◌, ◌%◌, ◌≤◌, true, false, eqb, cond, List, [], ◌∷◌, Option, Some, None, Result, refl, sym, ap, ◌∙◌, arith}
use Rattle.std.specs.Option.{option_map_or}
use Rattle.asm_text.specs.declared.slots.What.{What}
use Rattle.asm_text.specs.Lines.{LineOf}
use Rattle.asm_targets.specs.declared.labels.Mark.{Mark}
use Rattle.rv_asm.specs.Layout.{line_size, end_of, gives_label, label_among}
use Rattle.rv_asm.specs.Faults.{Labels}
use Rattle.rv_asm.specs.Bytes.{address_of}
use Rattle.rv_asm.specs.Images.{main_at}

end_later : (at : ℕ) (lines : List (Result LineOf What)) → at ≤ end_of at lines
end_later at [] = omega arith
end_later at (line ∷ lines) = omega (arith, end_later (at + line_size at line) lines)

mark_address : (m n : Mark) → Some m ≡ Some n → m.address ≡ n.address
mark_address m n e = ap (λ (o : Option Mark). option_map_or (λ (x : Mark). x.address) o 0) e

pub label_reached : (i at : ℕ) (lines : List (Result LineOf What)) (name : List ℕ) (m : Mark) → label_among i at lines name ≡ Some m → m.address ≤ end_of at lines
label_reached i at [] name m e = absurd cc
label_reached i at (line ∷ lines) name m e =
    let next = at + line_size at line in
    elim (gives_label line name) as (λ b. cond b (Some (record { line = i; address = at })) (label_among (i + 1) next lines name) ≡ Some m → m.address ≤ end_of next lines) [
      | true ↦ λ f. omega (arith, mark_address (record { line = i; address = at }) m f, end_later next lines)
      | false ↦ λ f. label_reached (i + 1) next lines name m f
    ] e

pub address_reached : (labels : Labels) (i at : ℕ) (lines : List (Result LineOf What)) (name : List ℕ) → labels name ≡ label_among i at lines name → address_of labels name ≤ end_of at lines
address_reached labels i at lines name given =
    elim (labels name) as (λ o. labels name ≡ o → option_map_or (λ m. m.address) o 0 ≤ end_of at lines) [
      | None ↦ λ e. omega arith
      | Some m ↦ λ e. label_reached i at lines name m (sym given ∙ e)
    ] refl

pub main_reached : (mark : Option Mark) (main end : ℕ) → main_at mark ≡ Some main → ((m : Mark) → mark ≡ Some m → m.address ≤ end) → main ≤ end
main_reached None main end e reached = absurd cc
main_reached (Some m) main end e reached =
    elim (eqb (m.address % 4) 0) as (λ b. cond b (Some m.address) None ≡ Some main → main ≤ end) [
      | true ↦ λ f. let same : m.address ≡ main = ap (λ (o : Option ℕ). option_map_or (λ (x : ℕ). x) o 0) f in omega (arith, same, reached m refl)
      | false ↦ λ f. absurd cc
    ] e
