use Rattle.std.proofs.Common.{◌≡◌, ℕ, drop}
use Rattle.negotiate.specs.Buying.{hand, is_in_one}
use Rattle.negotiate.proofs.buyer.together.Given as goal

abbrev pub invariant-loop-loan : goal.invariant-loop-loan
invariant-loop-loan l = (s : ℕ) → is_in_one (hand l.all (drop l.loan-index l.loans)) s ≡ is_in_one (hand l.fn.own l.loans) s
