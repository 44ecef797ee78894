use Rattle.std.proofs.Common.{◌≡◌, ◌<◌, ◌^◌, drop}
use Rattle.std.specs.Prelude.{slice_get, flat_map}
use Rattle.cluster.specs.Between.{acts_by}
use Rattle.cluster.proofs.choosing.act_at.Given as goal

-- it is at the place that is left, among those of the nodes that are left
abbrev pub invariant-loop-node : goal.invariant-loop-node
invariant-loop-node l = record {
  at : slice_get (flat_map (acts_by l.moves) (drop l.node-index l.nodes)) l.left ≡ slice_get (flat_map (acts_by l.moves) l.nodes) l.place;
  low : l.left < 2 ^ 32;
}
