use Rattle.wires.specs.Wires.{StaysWired}
use Rattle.wires.proofs.Flushing.{FlushedBelow}
use Rattle.wires.proofs.ends.Ends.flush.Given as goal

abbrev pub invariant-loop-k : goal.invariant-loop-k
invariant-loop-k g l = record { flushed : FlushedBelow l.k l.initial.self l.self; wired : StaysWired l.initial.self l.self }
