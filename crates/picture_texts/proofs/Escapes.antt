-- An escaped text has no markup.
use Rattle.std.proofs.Common.{◌≡◌, ℕ, List, [], ◌∷◌, Bool, true, false, refl, ap, ◌∙◌}
use Rattle.std.specs.Prelude.{◌==◌, ◌||◌, codes, nat_lt, if◌then◌else◌}
use Rattle.std.specs.List.{list_any}
use Rattle.std.proofs.lemmas.List.Folds.{list_any-append}
use Rattle.picture_texts.specs.Escaping.{escaped_byte, escaped, is_markup}

by_tests : (low amp less more : Bool) (b : ℕ) → nat_lt b 32 ≡ low → (b == 60) ≡ less → (b == 62) ≡ more
    → list_any is_markup (if low then 63 ∷ [] else (if amp then codes "&amp;" else (if less then codes "&lt;" else (if more then codes "&gt;" else b ∷ [])))) ≡ false
by_tests true amp less more b l x g = refl
by_tests false true less more b l x g = refl
by_tests false false true more b l x g = refl
by_tests false false false true b l x g = refl
by_tests false false false false b l x g = rw (l, x, g) refl

no_markup : (b : ℕ) → list_any is_markup (escaped_byte b) ≡ false
no_markup b = by_tests (nat_lt b 32) (b == 38) (b == 60) (b == 62) b refl refl refl

pub no_markup_in : (name : List ℕ) → list_any is_markup (escaped name) ≡ false
no_markup_in [] = refl
no_markup_in (b ∷ bs) = list_any-append is_markup (escaped_byte b) (escaped bs) ∙ ap (λ v. v || list_any is_markup (escaped bs)) (no_markup b) ∙ no_markup_in bs
