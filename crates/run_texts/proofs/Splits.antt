-- The first part of some bytes.
use Rattle.std.proofs.Common.{◌≡◌, ◌∙◌, ℕ, suc, ◌+◌, ◌<◌, ◌≤◌, eqb, List, [], ◌∷◌, length, take, drop, refl, ap, inl, inr, arith}
use Rattle.std.specs.List.{position_or_len}
use Rattle.std.proofs.lemmas.Bool.{cases_Bool}
use Rattle.run_texts.specs.Parts.{onto, parts_of}

-- where the byte stands first
abbrev place : ℕ → List ℕ → ℕ
place end bs = position_or_len (λ b. eqb b end) bs

-- where the byte stands, a part ends
pub part_ends : (end : ℕ) (bs : List ℕ) (n : ℕ) → n ≡ place end bs → n < length bs → parts_of end bs ≡ take n bs ∷ parts_of end (drop (suc n) bs)
part_ends end [] n e h = absurd (omega arith)
part_ends end (b ∷ bs) n e h =
    elim (cases_Bool (eqb b end)) [
      | inl is ↦
          let zero : n ≡ 0 = e ∙ rw is refl in
          rw zero (rw is refl)
      | inr isnt ↦
          let one : place end (b ∷ bs) ≡ 1 + place end bs = rw isnt refl in
          let more : n ≡ suc (place end bs) = omega (arith, e, one) in
          let less : place end bs < length bs = omega arith in
          let rest = part_ends end bs (place end bs) refl less in
          rw more (rw isnt (ap (onto b) rest))
    ]

-- where it doesn't, all of it is one part
pub part_is_all : (end b : ℕ) (bs : List ℕ) → length (b ∷ bs) ≤ place end (b ∷ bs) → parts_of end (b ∷ bs) ≡ (b ∷ bs) ∷ []
part_is_all end b [] le =
    elim (cases_Bool (eqb b end)) [
      | inl is ↦ let zero : place end (b ∷ []) ≡ 0 = rw is refl in absurd (omega arith)
      | inr isnt ↦ rw isnt refl
    ]
part_is_all end b (c ∷ bs) le =
    elim (cases_Bool (eqb b end)) [
      | inl is ↦ let zero : place end (b ∷ c ∷ bs) ≡ 0 = rw is refl in absurd (omega arith)
      | inr isnt ↦
          let one : place end (b ∷ c ∷ bs) ≡ 1 + place end (c ∷ bs) = rw isnt refl in
          rw isnt (ap (onto b) (part_is_all end c bs (omega (arith, one))))
    ]

pub whole_part : (end : ℕ) (bs : List ℕ) → 0 < length bs → length bs ≤ place end bs → parts_of end bs ≡ bs ∷ []
whole_part end [] some le = absurd (omega arith)
whole_part end (b ∷ bs) some le = part_is_all end b bs le
