-- A list is gone through from its first item.
use Rattle.std.proofs.Common.{◌≡◌, ℕ, ◌+◌, ◌<◌, suc, List, [], ◌∷◌, ◌++◌, length, take, get_or, sym, ap, ◌∙◌, arith, append_assoc, rules}
use Rattle.std.proofs.Math.Seq.{take-suc}
use Rattle.std.specs.List.{flat_map}
use Rattle.std.proofs.lemmas.Grind.{flat_map-append}

module _ {X A : Type 0} (f : X → List A) where
  alone : (x : X) → flat_map f (x ∷ []) ≡ f x
  alone x = search rules

  -- with one item more, what all items give is more by what that one gives
  pub gives_more : (xs : List X) (i : ℕ) (x : X) (first old now : List A) → i < length xs → x ≡ get_or xs i x → old ≡ first ++ flat_map f (take i xs) → now ≡ old ++ f x
      → now ≡ first ++ flat_map f (take (i + 1) xs)
  gives_more xs i x first old now l at h k =
      let next : i + 1 ≡ suc i = omega arith in
      let more : take (i + 1) xs ≡ take i xs ++ x ∷ [] = ap (λ n. take n xs) next ∙ take-suc xs i x l ∙ ap (λ y. take i xs ++ y ∷ []) (sym at) in
      let all : flat_map f (take (i + 1) xs) ≡ flat_map f (take i xs) ++ f x = ap (flat_map f) more ∙ flat_map-append f (take i xs) (x ∷ []) ∙ ap (λ ys. flat_map f (take i xs) ++ ys) (alone x) in
      k ∙ ap (λ ys. ys ++ f x) h ∙ append_assoc first (flat_map f (take i xs)) (f x) ∙ ap (λ ys. first ++ ys) (sym all)
