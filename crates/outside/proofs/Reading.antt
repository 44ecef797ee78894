-- Two reads in a row, and what remains of a file whose reads have ended.
use Rattle.std.proofs.Common.{ℕ, List, ◌++◌, append_assoc, ◌∙◌, ap, sym}
use Rattle.std.specs.Prelude.{Option, Some, None}
use Rattle.std.specs.Io.KnownBytes.{Consumes}

pub consumes_more : (a b c : Option (List ℕ)) (xs ys : List ℕ) → Consumes a b xs → Consumes b c ys → Consumes a c (xs ++ ys)
consumes_more None b c xs ys one two = tt
consumes_more (Some all) None c xs ys one two = elim one [ ]
consumes_more (Some all) (Some rest) None xs ys one two = elim two [ ]
consumes_more (Some all) (Some rest) (Some left) xs ys one two = one ∙ (ap (λ r. xs ++ r) two ∙ sym (append_assoc xs ys left))
