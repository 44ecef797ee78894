use Rattle.std.proofs.Common.{◌≡◌, drop}
use Rattle.std.specs.Prelude.{map}
use Rattle.trace_text.specs.Calls.{row_of, numbered}
use Rattle.trace_text.proofs.rows.numbered.Given as goal

abbrev pub invariant-loop-row : goal.invariant-loop-row
invariant-loop-row l = numbered (map row_of (drop l.row-index l.rows)) l.number ≡ numbered (map row_of l.rows) l.number
