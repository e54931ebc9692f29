use Rattle.mca_run.proofs.Causes.{refusal_same, report_same, not_both}
use Rattle.mca_run.proofs.one_answer.Goals as goal

pub returns-clause-refusal : goal.returns-clause-refusal
returns-clause-refusal c = refusal_same

pub returns-clause-report : goal.returns-clause-report
returns-clause-report c = report_same

pub returns-clause-not_both : goal.returns-clause-not_both
returns-clause-not_both c = not_both
