use Rattle.std.proofs.Common.{◌≡◌, drop}
use Rattle.std.specs.Prelude.{map}
use Rattle.trace_text.specs.Calls.{row_of, named}
use Rattle.trace_text.proofs.rows.named.Given as goal

abbrev pub invariant-loop-row : goal.invariant-loop-row
invariant-loop-row l = named (map row_of (drop l.row-index l.rows)) l.name ≡ named (map row_of l.rows) l.name
