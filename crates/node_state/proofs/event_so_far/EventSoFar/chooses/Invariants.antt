use Rattle.std.proofs.Common.{◌≡◌}
use Rattle.run_trace.specs.Machine.{chooses, choice_limit}
use Rattle.node_state.proofs.event_so_far.EventSoFar.chooses.Given as goal

-- the choices that are left come to what all come to
abbrev pub invariant-loop-left : goal.invariant-loop-left
invariant-loop-left l =
    chooses l.here.program.now l.here.me l.vp l.quantum l.left l.self ≡ chooses l.fn.here.program.now l.fn.here.me l.fn.vp l.fn.quantum (choice_limit l.fn.self.node.forest) l.fn.self

abbrev pub decreases-loop-left : goal.decreases-loop-left
decreases-loop-left l = l.left
