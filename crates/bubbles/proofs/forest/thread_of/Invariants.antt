use Rattle.std.proofs.Common.{◌≡◌, drop}
use Rattle.bubbles.specs.Rows.{thread_of}
use Rattle.bubbles.proofs.forest.thread_of.Given as goal

abbrev pub invariant-loop-x : goal.invariant-loop-x
invariant-loop-x l = thread_of l.t (drop l.x-index l.threads) ≡ thread_of l.t l.threads
