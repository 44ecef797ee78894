use Rattle.std.proofs.Common.{◌≡◌}
use Rattle.bubbles.specs.Rows.{without_member}
use Rattle.bubbles.proofs.Leaving.{without_from}
use Rattle.bubbles.proofs.bubble.leave_bubbles.Given as goal

abbrev pub invariant-loop-i : goal.invariant-loop-i
invariant-loop-i l = without_from l.i l.e l.bubbles ≡ without_member l.e l.fn.bubbles
