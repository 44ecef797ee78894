use Rattle.std.proofs.Common.{◌≡◌, ◌++◌, length}
use Rattle.std.specs.Option.{option_map}
use Rattle.trace_text.specs.Reading.{pairs_in}
use Rattle.trace_text.proofs.one_word.pairs_in.Given as goal

abbrev pub invariant-loop-high : goal.invariant-loop-high
invariant-loop-high l = option_map (λ ns. l.bytes.items ++ ns) (pairs_in l.rest) ≡ pairs_in l.digits

abbrev pub decreases-loop-high : goal.decreases-loop-high
decreases-loop-high l = length l.rest
