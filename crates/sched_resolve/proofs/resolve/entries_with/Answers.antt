use Rattle.sched_resolve.proofs.resolve.entries_with.Goals as goal

pub returns-clause-list : goal.returns-clause-list
returns-clause-list c = c.in_ok-list.ensures

pub returns-clause-defaults : goal.returns-clause-defaults
returns-clause-defaults c = c.in_ok-defaults.ensures
