use Rattle.asm_targets.proofs.expanding.+push_within.Given as goal

abbrev pub decreases-push_within : goal.decreases-push_within
decreases-push_within l = l.shifts
