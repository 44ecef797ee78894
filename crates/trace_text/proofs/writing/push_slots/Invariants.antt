use Rattle.std.proofs.Common.{◌≡◌, ◌++◌, ◌∷◌, drop}
use Rattle.std.specs.Prelude.{decimal}
use Rattle.std.specs.List.{flat_map}
use Rattle.trace_text.specs.Words.{slots_text}
use Rattle.trace_text.proofs.writing.push_slots.Given as goal

abbrev pub invariant-loop-slot : goal.invariant-loop-slot
invariant-loop-slot l = l.out.items ++ flat_map (λ m. 44 ∷ decimal m) (drop l.slot-index l.others) ≡ l.fn.out.items ++ slots_text l.fn.slots
