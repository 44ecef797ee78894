use Rattle.std.proofs.Common.{◌≡◌, ◌+◌, ◌≤◌, drop}
use Rattle.cluster.specs.Standing.{turns_in}
use Rattle.cluster.proofs.gathering.turns_in.Given as goal

-- those so far, with what is left, are all; there is at most one for each entry
abbrev pub invariant-loop-entry : goal.invariant-loop-entry
invariant-loop-entry l = record {
  all : l.turns + turns_in (drop l.entry-index l.entries) ≡ turns_in l.entries;
  few : l.turns ≤ l.entry-index;
}
