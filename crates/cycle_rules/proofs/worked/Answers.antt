use Rattle.cycle_rules.proofs.WorkedRuns.{runs_are, broken_are, totals_are_within, bounds_are}
use Rattle.cycle_rules.proofs.worked.Goals as goal

pub returns-clause-runs : goal.returns-clause-runs
returns-clause-runs c = runs_are

pub returns-clause-broken : goal.returns-clause-broken
returns-clause-broken c = broken_are

pub returns-clause-bounds : goal.returns-clause-bounds
returns-clause-bounds c = bounds_are

pub returns-clause-within : goal.returns-clause-within
returns-clause-within c = totals_are_within
