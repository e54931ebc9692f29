use Rattle.std.proofs.Common.{refl}
use Rattle.std.specs.Fmt.{digits}
use Rattle.unit_sets.specs.Below.{first_from, cyclic_from}
use Rattle.cycle_rules.specs.Below.{sum_below, count_below, all_below, last_below}
use Rattle.cycle_rules.specs.Row.{uops_of, phase, names, entries, lead, advance_of, is_load, is_store, is_barrier}
use Rattle.cycle_rules.specs.Pick.{holds_at, is_free, place_after, pick_unit, pick_units, taken_by, taken_in, taken_below, pick, padded}
use Rattle.cycle_rules.specs.Dispatch.{has_room, follows, share, has_place, fits_group, fits_reorder, cost_in, fits_registers, fits_loads, fits_stores, fits_buffers}
use Rattle.cycle_rules.specs.Issue.{producer, has_operand, has_operands, is_fenced, memory_order, may_access, can_start, can_issue}
use Rattle.cycle_rules.specs.Seen.{comes_before}
use Rattle.mca_views.specs.Bottleneck.{bottleneck_lines}
use Rattle.mca_views.proofs.WorkedSequence.{first_sum_is}
use Rattle.mca_views.proofs.bottlenecks.worked_bottleneck.Goals as goal

pub returns-clause-text : goal.returns-clause-text
unfolding digits first_from cyclic_from sum_below count_below all_below last_below uops_of phase names entries lead advance_of is_load is_store is_barrier holds_at is_free place_after pick_unit pick_units taken_by taken_in taken_below pick padded has_room follows share has_place fits_group fits_reorder cost_in fits_registers fits_loads fits_stores fits_buffers producer has_operand has_operands is_fenced memory_order may_access can_start can_issue comes_before bottleneck_lines
returns-clause-text c = refl

pub returns-clause-sequence : goal.returns-clause-sequence
returns-clause-sequence c = first_sum_is
