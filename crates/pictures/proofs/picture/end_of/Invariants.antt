use Rattle.std.proofs.Common.{◌≡◌, max, drop}
use Rattle.pictures.specs.Drawing.{end_of}
use Rattle.pictures.proofs.picture.end_of.Given as goal

abbrev pub invariant-loop-entry : goal.invariant-loop-entry
invariant-loop-entry l = max l.end (end_of (drop l.entry-index l.trace)) ≡ end_of l.trace
