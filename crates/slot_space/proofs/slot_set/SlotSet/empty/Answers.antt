use Rattle.std.proofs.Common.{refl}
use Rattle.slot_space.proofs.Words.{members-zeros, zeros_fit}
use Rattle.slot_space.proofs.slot_set.SlotSet.empty.Goals as goal

pub returns : goal.returns
returns c = members-zeros 64

pub invariant_of-result : goal.invariant_of-result
invariant_of-result c = record { len = refl; fit = zeros_fit 64 }
