use Rattle.std.proofs.Common.{◌≡◌, ℕ, ◌<◌, false}
use Rattle.negotiate.specs.Buying.{awaits}
use Rattle.negotiate.proofs.buyer.Buyer.has_all.Given as goal

abbrev pub invariant-loop-n : goal.invariant-loop-n
invariant-loop-n l = (k : ℕ) → k < l.n → awaits l.self k ≡ false
