use Rattle.std.proofs.Common.{◌≡◌}
use Rattle.wires.specs.Ends.{width}
use Rattle.wires.specs.Wires.{StaysWired}
use Rattle.cluster_tests.proofs.links.answer.Given as goal

abbrev pub invariant-loop-n : goal.invariant-loop-n
invariant-loop-n l = record { width : width l.ends ≡ width l.initial.ends; wired : StaysWired l.initial.ends l.ends }
