use Rattle.cycle_rules.proofs.BoundLow.{bound_low}
use Rattle.cycle_rules.proofs.RunEnds.{all_retire, run_ends}
use Rattle.cycle_rules.proofs.run_ends.Goals as goal

pub returns-clause-run : goal.returns-clause-run
returns-clause-run c = run_ends

pub returns-clause-retire : goal.returns-clause-retire
returns-clause-retire c = all_retire

pub returns-clause-low : goal.returns-clause-low
returns-clause-low c = bound_low
