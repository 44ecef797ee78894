use Rattle.std.proofs.Common.{◌≡◌, take}
use Rattle.std.specs.List.{flat_map}
use Rattle.cluster.specs.Between.{acts_by}
use Rattle.cluster.proofs.cluster.Cluster.acts.Given as goal

-- those of the nodes so far
abbrev pub invariant-loop-node : goal.invariant-loop-node
invariant-loop-node l = l.acts.items ≡ flat_map (λ v. acts_by l.moves v) (take l.node-index l.self.nodes)
