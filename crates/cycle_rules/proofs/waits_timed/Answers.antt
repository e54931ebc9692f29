use Rattle.cycle_rules.specs.Row.{times}
use Rattle.cycle_rules.specs.WaitTimes.{by_phase, by_issue}
use Rattle.cycle_rules.proofs.WaitsTimed.{timed, phase_seen, phase_after, issue_seen, issue_after, in_time}
use Rattle.cycle_rules.proofs.waits_timed.Goals as goal

pub returns-clause-table : goal.returns-clause-table
returns-clause-table c = λ g t. timed g t (by_phase g t) (phase_seen g t) (phase_after g t)

pub returns-clause-run : goal.returns-clause-run
returns-clause-run c = λ g table is. timed g (times table) (by_issue (times table)) (issue_seen g (times table) is.each) (issue_after (times table))

pub returns-clause-time : goal.returns-clause-time
returns-clause-time c = λ g table is. in_time g (times table) is.each
