use Rattle.std.proofs.Common.{◌≡◌, take, None}
use Rattle.bubbles.specs.Rows.{thread_of}
use Rattle.bubbles.proofs.forest.set_last.Given as goal

abbrev pub invariant-loop-i : goal.invariant-loop-i
invariant-loop-i l = (l.threads ≡ l.fn.threads) × (thread_of l.t (take l.i l.threads) ≡ None)
