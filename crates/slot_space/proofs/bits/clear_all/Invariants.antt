use Rattle.std.proofs.Common.{cond, false}
use Rattle.slot_space.specs.Words.{AreWords}
use Rattle.slot_space.proofs.Words.{IsJoinedTo}
use Rattle.slot_space.proofs.bits.clear_all.Given as goal

abbrev pub invariant-loop-i : goal.invariant-loop-i
invariant-loop-i l = record { words : AreWords l.words; joined : IsJoinedTo (λ o w. cond o false w) l.initial.words l.words l.others l.i }
