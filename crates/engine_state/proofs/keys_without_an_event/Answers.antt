use Rattle.engine_state.proofs.Turn.{retire_keeps, issue_keeps, dispatch_keeps}
use Rattle.engine_state.proofs.keys_without_an_event.Goals as goal

pub returns-clause-retire : goal.returns-clause-retire
returns-clause-retire c = retire_keeps

pub returns-clause-issue : goal.returns-clause-issue
returns-clause-issue c = issue_keeps

pub returns-clause-dispatch : goal.returns-clause-dispatch
returns-clause-dispatch c = dispatch_keeps
