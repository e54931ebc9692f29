use Rattle.std.proofs.Common.{ap, ◌∙◌}
use Rattle.cycle_rules.specs.Row.{phase}
use Rattle.cycle_rules.proofs.Issued.{issued_cycle, issued_phase, issued_row}
use Rattle.cycle_rules.proofs.given.Given.has_issued.Goals as goal

pub returns-then-issue-at : goal.returns-then-issue-at
returns-then-issue-at c = λ m. issued_cycle c.args.self.now.count c.args.k _ _ _ _ _ _ (ap (λ t. t.issue) c.time.ensures) c.requires.run c.if-issue-at.true

pub returns-then-phase-at : goal.returns-then-phase-at
returns-then-phase-at c = λ m. issued_phase c.args.self.now.count c.args.k _ _ _ _ _ _ _ (ap (λ t. t.issue) c.time.ensures) (c.phase_of-phase.ensures ∙ ap phase c.row.ensures.row) c.requires.run c.if-issue-at.false c.if-phase-at.true

pub returns : goal.returns
returns c = λ m. issued_row c.args.self.now.count c.args.k _ _ _ _ _ _ _ (ap (λ t. t.issue) c.time.ensures) (c.phase_of-phase.ensures ∙ ap phase c.row.ensures.row) c.requires.run c.if-issue-at.false c.if-phase-at.false
