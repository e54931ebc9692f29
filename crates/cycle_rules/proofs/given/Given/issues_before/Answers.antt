use Rattle.std.proofs.Common.{ap, ◌∙◌}
use Rattle.cycle_rules.specs.Row.{phase}
use Rattle.cycle_rules.proofs.Issued.{before_cycle, before_phase, before_row}
use Rattle.cycle_rules.proofs.given.Given.issues_before.Goals as goal

pub returns-then-issue-other : goal.returns-then-issue-other
returns-then-issue-other c = before_cycle c.args.a c.args.b _ _ _ _ _ _ (ap (λ t. t.issue) c.time.ensures) (ap (λ t. t.issue) c.time-2.ensures) c.if-issue-other.true

pub returns-then-phase-last : goal.returns-then-phase-last
returns-then-phase-last c = before_phase c.args.a c.args.b _ _ _ _ _ _ _ _ (ap (λ t. t.issue) c.time.ensures) (ap (λ t. t.issue) c.time-2.ensures) c.if-issue-other.false
    (c.phase_of-phase.ensures ∙ ap phase c.row.ensures.row) (c.phase_of-last.ensures ∙ ap phase c.row-2.ensures.row) c.if-phase-last.true

pub returns : goal.returns
returns c = before_row c.args.a c.args.b _ _ _ _ _ _ _ _ (ap (λ t. t.issue) c.time.ensures) (ap (λ t. t.issue) c.time-2.ensures) c.if-issue-other.false
    (c.phase_of-phase.ensures ∙ ap phase c.row.ensures.row) (c.phase_of-last.ensures ∙ ap phase c.row-2.ensures.row) c.if-phase-last.false
