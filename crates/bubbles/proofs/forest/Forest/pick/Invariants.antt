use Rattle.bubbles.proofs.Whole.{IsUnderway, left}
use Rattle.bubbles.proofs.forest.Forest.pick.Given as goal

abbrev pub invariant-loop-moves : goal.invariant-loop-moves
invariant-loop-moves l = IsUnderway l.vp l.fn.self l.moves.items l.self

abbrev pub decreases-loop-moves : goal.decreases-loop-moves
decreases-loop-moves l = left l.fn.self l.self
