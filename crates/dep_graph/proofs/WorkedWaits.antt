-- The worked waits and stalls, by computing.
use Rattle.std.proofs.Common.{◌≡◌, ◌∷◌, [], refl}
use Rattle.cycle_rules.specs.Below.{sum_below, count_below, all_below, last_below}
use Rattle.unit_sets.specs.Below.{first_from, cyclic_from}
use Rattle.cycle_rules.specs.Row.{uops_of, phase, names, entries, lead, advance_of, is_load, is_store, is_barrier}
use Rattle.cycle_rules.specs.Pick.{holds_at, is_free, place_after, pick_unit, pick_units, taken_by, taken_in, taken_below, pick, padded}
use Rattle.cycle_rules.specs.Dispatch.{has_room, follows, share, has_place, fits_group, fits_reorder, cost_in, fits_registers, fits_loads, fits_stores, fits_buffers}
use Rattle.cycle_rules.specs.Issue.{producer, has_operand, has_operands, is_fenced, memory_order, may_access, can_start, can_issue}
use Rattle.cycle_rules.specs.Seen.{comes_before}
use Rattle.dep_graph.specs.Blamed.{busy_in}
use Rattle.dep_graph.specs.Worked.{worked_edges, worked_stalls}

pub edges_are : worked_edges ≡ ((0 ∷ 1 ∷ 0 ∷ 3 ∷ []) ∷ (2 ∷ 3 ∷ 0 ∷ 3 ∷ []) ∷ []) ∷ ((0 ∷ 1 ∷ 2 ∷ 1 ∷ []) ∷ []) ∷ ((0 ∷ 1 ∷ 1 ∷ 3 ∷ []) ∷ (1 ∷ 2 ∷ 1 ∷ 3 ∷ []) ∷ []) ∷ []
unfolding sum_below count_below all_below last_below first_from cyclic_from uops_of phase names entries lead advance_of is_load is_store is_barrier holds_at is_free place_after pick_unit pick_units taken_by taken_in taken_below pick padded has_room follows share has_place fits_group fits_reorder cost_in fits_registers fits_loads fits_stores fits_buffers producer has_operand has_operands is_fenced memory_order may_access can_start can_issue comes_before busy_in
edges_are = refl

pub stalls_are : worked_stalls ≡
    (1 ∷ 0 ∷ 0 ∷ 0 ∷ 0 ∷ 0 ∷ 0 ∷ [])
    ∷ (2 ∷ 0 ∷ 0 ∷ 0 ∷ 0 ∷ 0 ∷ 0 ∷ [])
    ∷ (1 ∷ 21 ∷ 0 ∷ 0 ∷ 0 ∷ 0 ∷ 0 ∷ [])
    ∷ (0 ∷ 0 ∷ 3 ∷ 0 ∷ 0 ∷ 0 ∷ 0 ∷ [])
    ∷ (0 ∷ 0 ∷ 0 ∷ 6 ∷ 0 ∷ 0 ∷ 0 ∷ [])
    ∷ (1 ∷ 0 ∷ 0 ∷ 0 ∷ 0 ∷ 20 ∷ 0 ∷ [])
    ∷ (0 ∷ 0 ∷ 0 ∷ 0 ∷ 0 ∷ 0 ∷ 3 ∷ [])
    ∷ []
unfolding sum_below count_below all_below last_below first_from cyclic_from uops_of phase names entries lead advance_of is_load is_store is_barrier holds_at is_free place_after pick_unit pick_units taken_by taken_in taken_below pick padded has_room follows share has_place fits_group fits_reorder cost_in fits_registers fits_loads fits_stores fits_buffers producer has_operand has_operands is_fenced memory_order may_access can_start can_issue comes_before busy_in
stalls_are = refl
