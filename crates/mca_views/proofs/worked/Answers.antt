use Rattle.std.proofs.Common.{refl}
use Rattle.std.specs.Fmt.{digits}
use Rattle.cycle_rules.specs.Below.{sum_below, count_below, all_below, last_below}
use Rattle.cycle_rules.specs.Holds.{held_at, held_by_all}
use Rattle.cycle_rules.specs.Totals.{total_uops, block_throughput, throughput, greatest}
use Rattle.mca_views.specs.Lines.{listed}
use Rattle.mca_views.specs.Pressure.{columns, lines_of}
use Rattle.mca_views.specs.Timeline.{row_lines, letter, ones, tens}
use Rattle.cycle_rules.specs.Row.{phase, lead, advance_of, is_load, is_store, is_barrier}
use Rattle.cycle_rules.specs.Issue.{producer, has_operand, has_operands, is_fenced, memory_order, may_access}
use Rattle.cycle_rules.specs.Seen.{comes_before}
use Rattle.mca_views.specs.Region.{region_lines}
use Rattle.mca_views.proofs.worked.Goals as goal

pub returns-clause-short : goal.returns-clause-short
unfolding digits listed sum_below count_below total_uops block_throughput throughput greatest region_lines
returns-clause-short c = refl

pub returns-clause-summary : goal.returns-clause-summary
unfolding digits listed sum_below count_below total_uops block_throughput throughput greatest
returns-clause-summary c = refl

pub returns-clause-information : goal.returns-clause-information
unfolding digits listed sum_below count_below total_uops block_throughput throughput greatest
returns-clause-information c = refl

pub returns-clause-report : goal.returns-clause-report
unfolding digits listed sum_below count_below total_uops block_throughput throughput greatest columns lines_of held_at held_by_all region_lines row_lines letter ones tens all_below last_below phase lead advance_of is_load is_store is_barrier producer has_operand has_operands is_fenced memory_order may_access comes_before
returns-clause-report c = refl
