use Rattle.std.proofs.Common.{◌≡◌, ◌+◌, ◌≤◌, length}
use Rattle.std.specs.Prelude.{min}
use Rattle.node_thread.specs.Limits.{spare_limit}
use Rattle.node_thread.proofs.blocks.put_all.Given as goal

-- the spare blocks and those that are still held come to the same
abbrev pub invariant-loop-slot : goal.invariant-loop-slot
invariant-loop-slot l =
    (min (l.pool + length l.mem.0) spare_limit ≡ min (l.fn.pool + length l.fn.mem.0) spare_limit) × (l.pool ≤ spare_limit)

abbrev pub decreases-loop-slot : goal.decreases-loop-slot
decreases-loop-slot l = length l.mem.0
