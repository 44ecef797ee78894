-- Lists in which each node stands once.
use Rattle.std.proofs.Common.{◌≡◌, ℕ, ◌<◌, ◌++◌, List, [], ◌∷◌, false, eqb, length, drop, refl, ap, ◌∙◌, arith, length-append}
use Rattle.std.specs.List.{list_any, IsDistinct, AllByRecursion}
use Rattle.std.proofs.lemmas.Bool.{eqb-true}
use Rattle.std.proofs.lemmas.List.Folds.{list_any-append}
use Rattle.std.proofs.lemmas.Map.Steps.{length-le_from_distinct_below}
use Rattle.negotiate.specs.Turns.{AreOnceEach}

pub none_listed : (xs : List ℕ) → xs ≡ [] → AreOnceEach xs
unfolding IsDistinct
none_listed [] e = record { once = tt; small = λ n h. absurd (cc h) }
none_listed (x ∷ xs) e = absurd (cc e)

apart-last : (x n : ℕ) (xs : List ℕ) → AllByRecursion (λ y. eqb x y ≡ false) xs → eqb x n ≡ false → AllByRecursion (λ y. eqb x y ≡ false) (xs ++ n ∷ [])
apart-last x n [] h e = (e, tt)
apart-last x n (y ∷ ys) h e = (h.0, apart-last x n ys h.1 e)

distinct-last : (n : ℕ) (xs : List ℕ) → IsDistinct eqb xs → list_any (λ y. eqb y n) xs ≡ false → IsDistinct eqb (xs ++ n ∷ [])
unfolding IsDistinct
distinct-last n [] d h = (tt, tt)
distinct-last n (x ∷ xs) d h = (apart-last x n xs d.0 (grind (arith, h)), distinct-last n xs d.1 (grind (arith, h)))

-- one that isn't in the list comes to its end (n and xs as code has them, k and ys as they are seen)
pub listed-last : (n k : ℕ) (xs ys : List ℕ) → n ≡ k → xs ≡ ys → k < 8 → AreOnceEach xs → list_any (λ y. eqb y k) ys ≡ false → AreOnceEach (xs ++ n ∷ [])
listed-last n k xs ys same all low a h = record {
  once = distinct-last n xs a.once (ap (λ m. list_any (λ y. eqb y m) xs) same ∙ ap (λ zs. list_any (λ y. eqb y k) zs) all ∙ h);
  small = λ q e. grind (arith, e, low, same, list_any-append (eqb q) xs (n ∷ []), a.small q, eqb-true q n);
}

-- and has room there
pub room : (k : ℕ) (xs ys : List ℕ) → xs ≡ ys → k < 8 → AreOnceEach xs → list_any (λ y. eqb y k) ys ≡ false → length xs < 8
room k xs ys all low a h =
    let b = listed-last k k xs ys refl all low a h in
    omega (arith, length-le_from_distinct_below (xs ++ k ∷ []) 8 b.once b.small, length-append xs (k ∷ []))

-- the first leaves
pub listed-rest : (xs : List ℕ) → AreOnceEach xs → AreOnceEach (drop 1 xs)
unfolding IsDistinct
listed-rest [] a = a
listed-rest (x ∷ xs) a = record { once = a.once.1; small = λ n e. a.small n (grind (arith, e)) }
