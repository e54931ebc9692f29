use Rattle.engine_steps.proofs.dispatch.wait_or_issue.Goals as goal

pub issue_memory-requires : goal.issue_memory-requires
issue_memory-requires c = (c.requires.memory.0, c.requires.memory.1, c.requires.memory.2, c.requires.memory.3, c.requires.memory.4, c.requires.memory.5, c.requires.memory.6 c.if-reserved.true)

pub returns-then-reserved-clause-queues : goal.returns-then-reserved-clause-queues
returns-then-reserved-clause-queues c = λ m rows s names few below. rw c.if-reserved.true s

pub returns-then-reserved-clause-memory : goal.returns-then-reserved-clause-memory
returns-then-reserved-clause-memory c = λ limits since rows s low wait may. rw c.if-reserved.true (c.issue_memory.ensures limits since rows s low wait (may c.if-reserved.true))

pub enter-requires : goal.enter-requires
enter-requires c = (c.requires.queues.0, c.requires.queues.1, c.requires.queues.2, c.requires.queues.3, c.requires.queues.4 c.if-reserved.false, c.requires.queues.5, c.requires.queues.6)

pub returns-clause-queues : goal.returns-clause-queues
returns-clause-queues c = λ m rows s names few below. rw c.if-reserved.false (c.enter.ensures.stands m rows s names few below)

pub returns-clause-memory : goal.returns-clause-memory
returns-clause-memory c = λ limits since rows s low wait may. rw c.if-reserved.false s
