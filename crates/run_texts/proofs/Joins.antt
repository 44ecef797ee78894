-- What was written piece by piece.
use Rattle.std.proofs.Common.{◌≡◌, ◌∙◌, ℕ, List, ◌++◌, ap, append_assoc}

-- four pieces
pub four : (h m r j a b c d : List ℕ) → a ≡ h → b ≡ a ++ m → c ≡ b ++ r → d ≡ c ++ j → d ≡ h ++ (m ++ (r ++ j))
four h m r j a b c d ea eb ec ed = ed ∙ ap (λ x. x ++ j) (ec ∙ ap (λ x. x ++ r) (eb ∙ ap (λ x. x ++ m) ea)) ∙ append_assoc (h ++ m) r j ∙ append_assoc h m (r ++ j)
