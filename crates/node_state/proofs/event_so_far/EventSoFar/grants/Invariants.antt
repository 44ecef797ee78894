use Rattle.std.proofs.Common.{◌≡◌, ◌≤◌, length}
use Rattle.node_state.specs.Turns.{grants_to}
use Rattle.node_state.proofs.event_so_far.EventSoFar.grants.Given as goal

-- the claims that are left come to what all come to
abbrev pub invariant-loop-left : goal.invariant-loop-left
invariant-loop-left l =
    (grants_to l.here.me l.left l.self ≡ grants_to l.fn.here.me (length l.fn.self.node.talk.claims) l.fn.self) × (l.left ≤ length l.self.node.talk.claims)

abbrev pub decreases-loop-left : goal.decreases-loop-left
decreases-loop-left l = l.left
