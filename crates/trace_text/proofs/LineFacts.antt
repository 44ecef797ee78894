-- Lines, for the functions that read them.
use Rattle.std.proofs.Common.{◌^◌, ◌≡◌, ℕ, ◌+◌, ◌<◌, List, [], ◌∷◌, length, eqb, false, subst, None, Result, Ok, Err, refl, sym, ap, ◌∙◌, arith}
use Rattle.trace_text.specs.Reading.{parts, left}
use Rattle.std.specs.List.{count_by}
use Rattle.std.proofs.lemmas.List.Splits.{length-slice_split}
use Rattle.std.proofs.lemmas.List.Sums.{count_by-le-length}
use Rattle.std.proofs.lemmas.Bool.{ne_eqb}
use Rattle.run_trace.specs.declared.entry.Entry.{Entry}
use Rattle.trace_text.specs.declared.lines.Reading.{Reading}
use Rattle.trace_text.specs.declared.error.TextError.{TextError}
use Rattle.trace_text.specs.Texts.{ended, line_at, at_line, read_from, with_rest, Fails, Goes}
use Rattle.trace_text.proofs.Digits.{some_parts}

some_left : {X : Type 0} (x : X) (ws : List (List ℕ)) → 0 < length ws → ended x ws ≡ None
some_left x [] lt = absurd (omega arith)
some_left x (w ∷ ws) lt = refl

left_some : (c : ℕ) (bs : List ℕ) → 0 < length bs → 0 < length (left c bs)
left_some c [] lt = absurd (omega arith)
left_some c (b ∷ bs) lt = some_parts c bs

pub not_ended : {X : Type 0} (x : X) (bs : List ℕ) → 0 < length bs → ended x (left 32 bs) ≡ None
not_ended x bs lt = some_left x (left 32 bs) (left_some 32 bs lt)

-- ---- lines

read_more : (i : ℕ) (l : List ℕ) (ps : List (List ℕ)) → 0 < length ps → read_from i (l ∷ ps) ≡ at_line i (line_at l) (read_from (i + 1) ps)
read_more i l [] lt = absurd (omega arith)
read_more i l (p ∷ ps) lt = refl

-- a line with its newline
pub read_line : (i : ℕ) (bs l more : List ℕ) → parts 10 bs ≡ l ∷ parts 10 more → read_from i (parts 10 bs) ≡ at_line i (line_at l) (read_from (i + 1) (parts 10 more))
read_line i bs l more e = ap (read_from i) e ∙ read_more i l (parts 10 more) (some_parts 10 more)

-- a last line without one
pub read_last : (i : ℕ) (bs : List ℕ) → parts 10 bs ≡ bs ∷ [] → 0 < length bs → read_from i (parts 10 bs) ≡ Err i
read_last i bs e lt = let some : eqb (length bs) 0 ≡ false = ne_eqb (length bs) 0 (λ z. absurd (omega (arith, z))) in ap (read_from i) e ∙ rw some refl

pub line_count : (bs l more : List ℕ) → parts 10 bs ≡ l ∷ parts 10 more → (length (parts 10 bs) ≡ 1 + length (parts 10 more)) × (0 < length (parts 10 more))
line_count bs l more e = (ap length e ∙ omega arith, some_parts 10 more)

-- what comes of a line
pub goes_wrong : (i : ℕ) (old : Reading) (e : TextError) (bs l more : List ℕ) (whole : Result (List Entry) ℕ) → Goes i (line_at l) old (Err e) → parts 10 bs ≡ l ∷ parts 10 more → with_rest old (read_from i (parts 10 bs)) ≡ whole → Fails e whole
goes_wrong i old e bs l more whole goes cut is =
    subst (Fails e) (ap (with_rest old) (sym (read_line i bs l more cut)) ∙ is) (goes (read_from (i + 1) (parts 10 more)))

pub goes_on : (i : ℕ) (old new : Reading) (bs l more : List ℕ) (whole : Result (List Entry) ℕ) → Goes i (line_at l) old (Ok new) → parts 10 bs ≡ l ∷ parts 10 more → with_rest old (read_from i (parts 10 bs)) ≡ whole → with_rest new (read_from (i + 1) (parts 10 more)) ≡ whole
goes_on i old new bs l more whole goes cut is =
    goes (read_from (i + 1) (parts 10 more)) ∙ ap (with_rest old) (sym (read_line i bs l more cut)) ∙ is

-- a text has at most one line more than bytes
pub few_lines : (bs : List ℕ) → length bs + 1 < 2 ^ 32 → length (parts 10 bs) < 2 ^ 32
few_lines bs h = let n : length (parts 10 bs) ≡ count_by (λ b. eqb b 10) bs + 1 = length-slice_split (λ b. eqb b 10) bs in omega (arith, n, h, count_by-le-length (λ b. eqb b 10) bs)
