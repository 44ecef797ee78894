-- The lines of a source that isn't too long are few, with data that it has room for.
use Rattle.std.proofs.Common.{◌≡◌, ℕ, ◌+◌, ◌≤◌, Bool, true, false, eqb, cond, List, [], ◌∷◌, length, map, Some, None, Result, Ok, Err, ap, arith, IfSome}
use Rattle.std.specs.List.{All, AllByRecursion, slice_split}
use Rattle.std.specs.Str.Lines.{lines, lines_of_parts}
use Rattle.std.proofs.lemmas.List.{length-map}
use Rattle.std.proofs.lemmas.List.Elements.{All-cons}
use Rattle.std.proofs.lemmas.List.Splits.{length-slice_split}
use Rattle.std.proofs.lemmas.List.Sums.{count_by-le-length}
use Rattle.asm_text.specs.declared.slots.What.{What}
use Rattle.asm_text.specs.declared.reading.Line.{Line}
use Rattle.asm_text.specs.Slots.{seen}
use Rattle.asm_text.specs.Statements.{StatementOf, plain, branch, jump, load_number, load_address, values, bytes, align, service, nothing, IsSound}
use Rattle.asm_text.specs.Lines.{LineOf, line_seen, line_said, said, HasSound}
use Rattle.rv_asm.specs.Layout.{IsReadable, limit}

-- ---- few lines

parts_few : (parts : List (List ℕ)) → length (lines_of_parts parts) ≤ length parts
parts_few [] = omega arith
parts_few (x ∷ []) = elim (eqb (length x) 0) as (λ b. length (cond b [] (x ∷ [])) ≤ 1) [ true ↦ omega arith | false ↦ omega arith ]
parts_few (x ∷ y ∷ more) = omega (arith, parts_few (y ∷ more))

lines_few : (bs : List ℕ) → length (lines bs) ≤ length bs + 1
lines_few bs =
    let is_end : ℕ → Bool = λ b. eqb b 10 in
    omega (arith, parts_few (slice_split is_end bs), length-slice_split is_end bs, count_by-le-length is_end bs)

-- ---- with room for their data

sound_more : (m n : ℕ) → m ≤ n → (s : StatementOf) → IsSound m s → IsSound n s
sound_more m n le (plain inst) h = h
sound_more m n le (branch op rs1 rs2 label) h = tt
sound_more m n le (jump rd label) h = tt
sound_more m n le (load_number rd number) h = tt
sound_more m n le (load_address rd label) h = tt
sound_more m n le (values w vs) h = omega (arith, le, h)
sound_more m n le (bytes bs) h = omega (arith, le, h)
sound_more m n le (align k) h = h
sound_more m n le (service number label) h = tt
sound_more m n le nothing h = tt

has_sound_more : (m n : ℕ) → m ≤ n → (line : Result LineOf What) → HasSound m line → HasSound n line
has_sound_more m n le (Err what) h = tt
has_sound_more m n le (Ok line) h =
    elim line.statement as (λ o. IfSome o (IsSound m) → IfSome o (IsSound n)) [
      | None ↦ λ g. tt
      | Some s ↦ λ g. sound_more m n le s g
    ] h

all_sound : (m n : ℕ) → m ≤ n → (rs : List (Result Line What)) → AllByRecursion (HasSound m) (map (seen line_seen) rs)
    → All (λ reading. HasSound n (seen line_seen reading)) rs
all_sound m n le [] h = λ k d g. absurd (omega arith)
all_sound m n le (r ∷ rs) h =
    All-cons (λ reading. HasSound n (seen line_seen reading)) r rs (has_sound_more m n le (seen line_seen r) h.0) (all_sound m n le rs h.1)

pub readable : (rs : List (Result Line What)) (source : List ℕ) → length source ≤ limit → map (seen line_seen) rs ≡ said source
    → AllByRecursion (HasSound (length source)) (map (seen line_seen) rs) → IsReadable rs
readable rs source le exact sound =
    record {
      few = omega (arith, length-map rs (seen line_seen), ap length exact, length-map (lines source) line_said, lines_few source);
      sound = all_sound (length source) limit le rs sound;
    }
