use Rattle.std.proofs.Common.{◌≡◌, ◌+◌, ℕ, drop}
use Rattle.cluster.specs.Apart.{turns_together}
use Rattle.cluster.specs.Choosing.{IsCapped}
use Rattle.cluster.proofs.gathering.turns_together.Given as goal

-- those so far, with what is left, are all
abbrev pub invariant-loop-node : goal.invariant-loop-node
invariant-loop-node l = (so_far : ℕ) × IsCapped l.together so_far × (so_far + turns_together (drop l.node-index l.nodes) ≡ turns_together l.nodes)
