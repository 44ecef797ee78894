-- What a writer of some fields adds to a text.
use Rattle.std.specs.Prelude.{◌≡◌, ℕ, List, ◌++◌}
use Rattle.thread_text.specs.Fields.{Fields, spelled, Fit}

-- these numbers are added as the first fields: whatever is spelled behind them, and each fits its field
pub record Writes (old new : List ℕ) (fields : Fields) (numbers : List ℕ) (left : Fields) : Type 0 where
  pub text : (rest : List ℕ) → old ++ spelled fields (numbers ++ rest) ≡ new ++ spelled left rest
  pub fit : (rest : List ℕ) → Fit left rest → Fit fields (numbers ++ rest)
