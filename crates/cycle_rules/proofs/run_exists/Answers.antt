use Rattle.cycle_rules.specs.Events.{events, rules_of}
use Rattle.cycle_rules.proofs.Exists.{schedule_exists}
use Rattle.cycle_rules.proofs.RunBelow.{below_is_run, below_is_low}
use Rattle.cycle_rules.proofs.RunCut.{retired_is, run_is_below}
use Rattle.cycle_rules.proofs.run_exists.Goals as goal

pub returns-clause-schedule : goal.returns-clause-schedule
returns-clause-schedule c = λ g bound. schedule_exists (rules_of g) (events g) bound

pub returns-clause-run : goal.returns-clause-run
returns-clause-run c = below_is_run

pub returns-clause-bound : goal.returns-clause-bound
returns-clause-bound c = below_is_low

pub returns-clause-count : goal.returns-clause-count
returns-clause-count c = retired_is

pub returns-clause-converse : goal.returns-clause-converse
returns-clause-converse c = run_is_below
