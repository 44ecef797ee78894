use Rattle.std.proofs.Common.{◌≡◌, ◌≤◌, ◌++◌, ◌+◌, length, cond, []}
use Rattle.std.specs.Option.{option_map}
use Rattle.trace_text.specs.Reading.{parts, slots_from}
use Rattle.trace_text.proofs.one_word.slots_in.Given as goal

abbrev pub invariant-loop-more : goal.invariant-loop-more
invariant-loop-more l =
    (option_map (λ ns. l.slots.items ++ ns) (slots_from l.least (cond l.more (parts 44 l.rest) [])) ≡ slots_from 0 (parts 44 l.fn.bytes)) × (l.least ≤ 65536)

abbrev pub decreases-loop-more : goal.decreases-loop-more
decreases-loop-more l = length l.rest + cond l.more 1 0
