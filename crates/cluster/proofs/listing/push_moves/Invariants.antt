use Rattle.std.proofs.Common.{◌≡◌, ◌++◌, take}
use Rattle.std.specs.List.{flat_map}
use Rattle.slot_space.specs.Sets.{run}
use Rattle.cluster.specs.Between.{moves_among}
use Rattle.cluster.proofs.listing.push_moves.Given as goal

-- those of the threads so far
abbrev pub invariant-loop-t : goal.invariant-loop-t
invariant-loop-t l = l.acts.items ≡ l.fn.acts.items ++ flat_map (λ t. moves_among l.node.me t (run 0 l.count)) (take l.t-index l.t-items)
