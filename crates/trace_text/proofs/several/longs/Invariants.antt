use Rattle.std.proofs.Common.{◌≡◌}
use Rattle.std.specs.Option.{option_map}
use Rattle.trace_text.specs.Reading.{left, longs}
use Rattle.trace_text.proofs.Steps.{front}
use Rattle.trace_text.proofs.several.longs.Given as goal

abbrev pub invariant-loop-missing : goal.invariant-loop-missing
invariant-loop-missing l = option_map (front l.numbers.items) (longs l.missing (left 32 l.rest)) ≡ longs l.fn.count (left 32 l.fn.rest)

abbrev pub decreases-loop-missing : goal.decreases-loop-missing
decreases-loop-missing l = l.missing
