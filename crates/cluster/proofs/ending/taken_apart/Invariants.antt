use Rattle.std.proofs.Common.{◌≡◌, map}
use Rattle.cluster.specs.Between.{entries_of}
use Rattle.cluster.specs.View.{ends_of}
use Rattle.cluster.proofs.ending.taken_apart.Given as goal

abbrev pub invariant-loop-node : goal.invariant-loop-node
invariant-loop-node l = record { parts : l.parts.items ≡ map entries_of l.yielded; ends : l.all.items ≡ map ends_of l.yielded }
