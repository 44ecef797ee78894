use Rattle.asm_targets.proofs.expanding.+count_within.Given as goal

abbrev pub decreases-count_within : goal.decreases-count_within
decreases-count_within l = l.shifts
