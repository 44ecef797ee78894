-- A text without an x.
use Rattle.std.proofs.Common.{◌≡◌, ◌≢◌, ℕ, suc, ◌<◌, List, [], ◌∷◌, length, get_or, false, refl, arith}
use Rattle.std.specs.List.{list_any}
use Rattle.std.proofs.lemmas.Bool.{ne_eqb}
use Rattle.words.specs.Words.{Text}
use Rattle.settings.specs.Numbers.{is_between}

pub none_between : (text : Text) → ((i : ℕ) → i < length text → get_or text i 0 ≢ 120) → list_any is_between text ≡ false
none_between [] h = refl
none_between (b ∷ bs) h = rw (ne_eqb b 120 (h 0 (omega arith)), none_between bs (λ i l. h (suc i) (omega (arith, l)))) refl
