use Rattle.std.proofs.Common.{refl}
use Rattle.std.specs.Fmt.{digits}
use Rattle.cycle_rules.specs.Below.{sum_below, all_below, last_below}
use Rattle.cycle_rules.specs.Row.{phase, lead, advance_of, is_load, is_store, is_barrier}
use Rattle.cycle_rules.specs.Issue.{producer, has_operand, has_operands, is_fenced, memory_order, may_access}
use Rattle.cycle_rules.specs.Seen.{comes_before}
use Rattle.mca_views.specs.Lines.{listed}
use Rattle.mca_views.specs.Timeline.{row_lines, letter, ones, tens}
use Rattle.mca_views.proofs.wait_times.worked_times.Goals as goal

pub returns-clause-timeline : goal.returns-clause-timeline
unfolding digits listed row_lines letter ones tens
returns-clause-timeline c = refl

pub returns-clause-waits : goal.returns-clause-waits
unfolding digits listed sum_below all_below last_below phase lead advance_of is_load is_store is_barrier producer has_operand has_operands is_fenced memory_order may_access comes_before
returns-clause-waits c = refl

pub returns-clause-waiting : goal.returns-clause-waiting
unfolding digits listed row_lines letter ones tens
returns-clause-waiting c = refl

pub returns-clause-held : goal.returns-clause-held
unfolding digits listed sum_below all_below last_below phase lead advance_of is_load is_store is_barrier producer has_operand has_operands is_fenced memory_order may_access comes_before
returns-clause-held c = refl

pub returns-clause-limited : goal.returns-clause-limited
unfolding digits listed row_lines letter ones tens
returns-clause-limited c = refl

pub returns-clause-fenced : goal.returns-clause-fenced
unfolding digits listed sum_below all_below last_below phase lead advance_of is_load is_store is_barrier producer has_operand has_operands is_fenced memory_order may_access comes_before
returns-clause-fenced c = refl

pub returns-clause-reserved : goal.returns-clause-reserved
unfolding digits listed row_lines letter ones tens
returns-clause-reserved c = refl

pub returns-clause-tens : goal.returns-clause-tens
unfolding digits listed row_lines letter ones tens
returns-clause-tens c = refl

pub returns-clause-short : goal.returns-clause-short
unfolding digits listed row_lines letter ones tens
returns-clause-short c = refl
