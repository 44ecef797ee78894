-- The first row of an entity, by its place.
use Rattle.std.proofs.Common.{◌≡◌, ℕ, zero, suc, ◌+◌, ◌<◌, ◌≤◌, Bool, true, false, List, [], ◌∷◌, length, Some, None, refl, ap, arith}
use Rattle.std.specs.Prelude.{is_some}
use Rattle.std.specs.List.{position, position_or_len, remove}
use Rattle.std.proofs.lemmas.Bool.Decides.{nat_tests}
use Rattle.levels.specs.declared.entity.Entity.{Entity}
use Rattle.levels.specs.Rows.{Row, is_entity, without, place_of}

abbrev pub row_place : Entity → List Row → ℕ
row_place e rows = position_or_len (λ (row : Row). is_entity row.0 e) rows

found_at : (e : Entity) (rows : List Row) (k : ℕ) → row_place e rows ≡ k → k < length rows → (without e rows ≡ remove rows k) × (is_some (place_of e rows) ≡ true)
found_at e [] k h lt = absurd (omega arith)
found_at e (row ∷ rows) k h lt = by (is_entity row.0 e) refl k h lt (found_at e rows)
  where
    by : (b : Bool) → is_entity row.0 e ≡ b → (k : ℕ) → row_place e (row ∷ rows) ≡ k → k < length (row ∷ rows)
        → ((j : ℕ) → row_place e rows ≡ j → j < length rows → (without e rows ≡ remove rows j) × (is_some (place_of e rows) ≡ true))
        → (without e (row ∷ rows) ≡ remove (row ∷ rows) k) × (is_some (place_of e (row ∷ rows)) ≡ true)
    by true t zero h lt more = (rw t refl, rw t refl)
    by true t (suc j) h lt more = absurd (let f = rw t at h in omega arith)
    by false t zero h lt more = absurd (let f = rw t at h in omega arith)
    by false t (suc j) h lt more =
        let f : 1 + row_place e rows ≡ suc j = rw t at h in
        let m = more j (omega arith) (omega arith) in
        (rw t (ap (λ (xs : List Row). row ∷ xs) m.0), rw t m.1)

not_found : (e : Entity) (rows : List Row) → length rows ≤ row_place e rows → (without e rows ≡ rows) × (is_some (place_of e rows) ≡ false)
not_found e [] h = (refl, refl)
not_found e (row ∷ rows) h = by (is_entity row.0 e) refl (not_found e rows)
  where
    by : (b : Bool) → is_entity row.0 e ≡ b
        → (length rows ≤ row_place e rows → (without e rows ≡ rows) × (is_some (place_of e rows) ≡ false))
        → (without e (row ∷ rows) ≡ row ∷ rows) × (is_some (place_of e (row ∷ rows)) ≡ false)
    by true t more = absurd (let f = rw t at h in omega arith)
    by false t more =
        let f : suc (length rows) ≤ 1 + row_place e rows = rw t at h in
        let m = more (omega arith) in
        (rw t (ap (λ (xs : List Row). row ∷ xs) m.0), rw t m.1)

-- an entity that is found goes with the row at its place
pub found : (e : Entity) (rows : List Row) (i : ℕ) → position (λ row. is_entity row.0 e) rows ≡ Some i → (without e rows ≡ remove rows i) × (is_some (place_of e rows) ≡ true)
found e rows i h =
    let inside : row_place e rows < length rows = grind (arith, nat_tests) in
    let at : row_place e rows ≡ i = grind (arith, nat_tests) in
    found_at e rows i at (omega arith)

pub missing : (e : Entity) (rows : List Row) → position (λ row. is_entity row.0 e) rows ≡ None → (without e rows ≡ rows) × (is_some (place_of e rows) ≡ false)
missing e rows h =
    let past : length rows ≤ row_place e rows = grind (arith, nat_tests) in
    not_found e rows past
