-- Prefixes.
use Rattle.std.proofs.Common.{◌≡◌, List, ◌++◌, sym, ap, ◌∙◌, append_assoc}
use mathlib.Core.List.{IsPrefix}

-- what was received and is known in the ring is what the ring was given, so what was received begins all that was sent
pub prefix_of_ring : {P : Type 0} (got ring given waiting : List P) → got ++ ring ≡ given → IsPrefix got (given ++ waiting)
prefix_of_ring got ring given waiting e = (ring ++ waiting, sym (append_assoc got ring waiting) ∙ ap (λ x. x ++ waiting) e)
