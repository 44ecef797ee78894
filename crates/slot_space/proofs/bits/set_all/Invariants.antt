use Rattle.std.proofs.Common.{cond, true}
use Rattle.slot_space.specs.Words.{AreWords}
use Rattle.slot_space.proofs.Words.{IsJoinedTo}
use Rattle.slot_space.proofs.bits.set_all.Given as goal

abbrev pub invariant-loop-i : goal.invariant-loop-i
invariant-loop-i l = record { words : AreWords l.words; joined : IsJoinedTo (λ o w. cond o true w) l.initial.words l.words l.others l.i }
