-- The first line of some bytes.
use Rattle.std.proofs.Common.{◌≡◌, ℕ, ◌+◌, ◌<◌, ◌≤◌, Bool, false, eqb, List, [], ◌∷◌, length, take, drop, refl, ap, ◌∙◌, inl, inr, arith}
use Rattle.std.specs.List.{slice_split, position_or_len}
use Rattle.std.specs.Str.Lines.{lines, lines_of_parts, strip_carriage_return}
use Rattle.std.proofs.lemmas.List.Splits.{slice_split_first, slice_split-cons_no, length-slice_split}
use Rattle.std.proofs.lemmas.Bool.{cases_Bool, ne_eqb}

-- a newline
abbrev pub is_end : ℕ → Bool
is_end b = eqb b 10

more_parts : (x : List ℕ) (parts : List (List ℕ)) → 0 < length parts → lines_of_parts (x ∷ parts) ≡ strip_carriage_return x ∷ lines_of_parts parts
more_parts x [] h = absurd (omega arith)
more_parts x (y ∷ parts) h = refl

one_part : (b : ℕ) (bs : List ℕ) → lines_of_parts ((b ∷ bs) ∷ []) ≡ (b ∷ bs) ∷ []
one_part b bs = let ne : eqb (length (b ∷ bs)) 0 ≡ false = ne_eqb (length (b ∷ bs)) 0 (λ e. absurd (omega arith)) in rw ne refl

-- up to the first newline
pub line_ends : (bs : List ℕ) (n : ℕ) → n ≡ position_or_len is_end bs → n < length bs → lines bs ≡ strip_carriage_return (take n bs) ∷ lines (drop (n + 1) bs)
line_ends bs n e h =
    let lt : position_or_len is_end bs < length bs = omega arith in
    let some : 0 < length (slice_split is_end (drop (n + 1) bs)) = omega (arith, length-slice_split is_end (drop (n + 1) bs)) in
    ap lines_of_parts (slice_split_first is_end bs 0 lt) ∙ rw (← e) (more_parts (take n bs) (slice_split is_end (drop (n + 1) bs)) some)

no_end : (bs : List ℕ) → length bs ≤ position_or_len is_end bs → slice_split is_end bs ≡ bs ∷ []
no_end [] le = refl
no_end (b ∷ bs) le =
    elim (cases_Bool (is_end b)) [
      | inl is ↦
          let n : position_or_len is_end (b ∷ bs) ≡ 0 = rw is refl in
          absurd (omega arith)
      | inr isnt ↦
          let n : position_or_len is_end (b ∷ bs) ≡ 1 + position_or_len is_end bs = rw isnt refl in
          let e : slice_split is_end bs ≡ bs ∷ [] = no_end bs (omega arith) in
          slice_split-cons_no is_end b bs isnt ∙ rw e refl
    ]

-- where there is no newline, all of it is one line
pub line_is_all : (bs : List ℕ) → 0 < length bs → length bs ≤ position_or_len is_end bs → lines bs ≡ bs ∷ []
line_is_all [] some le = absurd (omega arith)
line_is_all (b ∷ bs) some le = ap lines_of_parts (no_end (b ∷ bs) le) ∙ one_part b bs
