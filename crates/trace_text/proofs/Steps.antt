-- So many numbers, read one by one.
use Rattle.std.proofs.Common.{◌≡◌, ℕ, zero, suc, ◌-◌, ◌<◌, List, [], ◌∷◌, ◌++◌, Option, Some, None, refl, ap, ◌∙◌, append_assoc, arith}
use Rattle.std.specs.Option.{option_map}
use Rattle.trace_text.specs.Reading.{◌>>=◌, long, longs}

pub longs_stop : (n : ℕ) (ws : List (List ℕ)) → 0 < n → long ws ≡ None → longs n ws ≡ None
longs_stop zero ws lt e = absurd (omega arith)
longs_stop (suc n) ws lt e = rw e refl

abbrev some : List ℕ × List (List ℕ) → Option (List ℕ × List (List ℕ))
some p = Some p

abbrev pub front : List ℕ → List ℕ × List (List ℕ) → List ℕ × List (List ℕ)
front old p = (old ++ p.0, p.1)

one_more : (old : List ℕ) (x : ℕ) (o : Option (List ℕ × List (List ℕ))) → option_map (front (old ++ x ∷ [])) o ≡ option_map (front old) (o >>= λ q. Some (x ∷ q.0, q.1))
one_more old x None = refl
one_more old x (Some q) = ap (λ (y : List ℕ). some (y, q.1)) (append_assoc old (x ∷ []) q.0)

pub longs_step : (old new : List ℕ) (n m x : ℕ) (ws vs : List (List ℕ)) (whole : Option (List ℕ × List (List ℕ))) → 0 < n → m ≡ n - 1 → long ws ≡ Some (x, vs) → new ≡ old ++ x ∷ [] → option_map (front old) (longs n ws) ≡ whole → option_map (front new) (longs m vs) ≡ whole
longs_step old new zero m x ws vs whole lt e f g h = absurd (omega arith)
longs_step old new (suc n) m x ws vs whole lt e f g h =
    let is : m ≡ n = omega (arith, e) in
    let now : option_map (front old) (longs n vs >>= λ q. Some (x ∷ q.0, q.1)) ≡ whole = rw f at h in
    rw (g, is) (one_more old x (longs n vs) ∙ now)
