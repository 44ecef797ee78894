use Rattle.std.proofs.Common.{◌≡◌}
use Rattle.thread_text.specs.Reading.{blocks_at}
use Rattle.pack_thread.proofs.opened.live_at.Given as goal

abbrev pub invariant-loop-k : goal.invariant-loop-k
invariant-loop-k l = l.live.items ≡ blocks_at l.bytes l.at l.k
