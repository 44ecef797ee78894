use Rattle.std.proofs.Common.{◌≡◌, ◌-◌, ◌++◌}
use Rattle.slot_space.specs.Sets.{run}
use Rattle.cluster.specs.Between.{moves_among}
use Rattle.cluster.proofs.listing.push_moves_of.Given as goal

-- those so far and those of what is left are all
abbrev pub invariant-loop-to : goal.invariant-loop-to
invariant-loop-to l = l.acts.items ++ moves_among l.own l.t (run l.to (l.count - l.to)) ≡ l.fn.acts.items ++ moves_among l.own l.t (run 0 l.count)
