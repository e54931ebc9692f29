use Rattle.rv_expand.proofs.constant.+shifted.Given as goal

abbrev pub decreases-shifted : goal.decreases-shifted
decreases-shifted l = l.shifts
