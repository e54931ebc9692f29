use Rattle.engine_state.proofs.Flow.{retire_first, retire_rest, issue_first, issue_rest, dispatch_first, dispatch_rest}
use Rattle.engine_state.proofs.rows_passed_over.Goals as goal

pub returns-clause-retired : goal.returns-clause-retired
returns-clause-retired c = retire_first

pub returns-clause-retires : goal.returns-clause-retires
returns-clause-retires c = retire_rest

pub returns-clause-issued : goal.returns-clause-issued
returns-clause-issued c = issue_first

pub returns-clause-issues : goal.returns-clause-issues
returns-clause-issues c = issue_rest

pub returns-clause-dispatched : goal.returns-clause-dispatched
returns-clause-dispatched c = dispatch_first

pub returns-clause-dispatches : goal.returns-clause-dispatches
returns-clause-dispatches c = dispatch_rest
