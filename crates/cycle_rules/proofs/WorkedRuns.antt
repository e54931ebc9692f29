-- The worked runs, by computing.
use Rattle.std.proofs.Common.{◌≡◌, ◌≤◌, List, ◌∷◌, [], true, false, refl}
use Rattle.std.specs.Prelude.{nat_le}
use Rattle.std.specs.List.{All, list_all, list_any}
use Rattle.std.proofs.lemmas.Bool.{and_parts, both_ways, leb-true}
use Rattle.std.proofs.lemmas.List.Elements.{All-cons, All-nil}
use Rattle.cycle_rules.specs.Below.{sum_below, count_below, all_below, last_below, first_from}
use Rattle.cycle_rules.specs.Row.{uops_of, phase, names, entries, lead, advance_of, is_load, is_store, is_barrier}
use Rattle.cycle_rules.specs.Pick.{holds_at, is_free, place_after, cyclic_from, pick_unit, pick_units, taken_by, taken_in, taken_below, pick, padded}
use Rattle.cycle_rules.specs.Dispatch.{has_room, follows, share, has_place, fits_group, fits_reorder, cost_in, fits_registers, fits_loads, fits_stores, fits_buffers, can_dispatch}
use Rattle.cycle_rules.specs.Issue.{producer, has_operand, has_operands, is_fenced, memory_order, may_access, can_start, can_issue}
use Rattle.cycle_rules.specs.Retire.{can_retire}
use Rattle.cycle_rules.specs.Seen.{comes_before}
use Rattle.cycle_rules.specs.CycleBound.{max_below, most_lag, cycle_bound, turn_bound}
use Rattle.cycle_rules.proofs.Check.{passes}
use Rattle.cycle_rules.specs.Run.{IsRunOf, total_of}
use Rattle.cycle_rules.specs.Worked.{Example}
use Rattle.cycle_rules.specs.Examples.{examples, worked_bounds}
use Rattle.cycle_rules.proofs.PassesRun.{passes_decides}
use Rattle.cycle_rules.proofs.Tests.{or_parts}

runs_pass : list_all (λ e. passes e.input e.run) examples ≡ true
unfolding sum_below count_below all_below last_below first_from uops_of phase names entries lead advance_of is_load is_store is_barrier holds_at is_free place_after cyclic_from pick_unit pick_units taken_by taken_in taken_below pick padded has_room follows share has_place fits_group fits_reorder cost_in fits_registers fits_loads fits_stores fits_buffers can_dispatch producer has_operand has_operands is_fenced memory_order may_access can_start can_issue can_retire comes_before
runs_pass = refl

broken_fail : list_any (λ e. passes e.input e.broken) examples ≡ false
unfolding sum_below count_below all_below last_below first_from uops_of phase names entries lead advance_of is_load is_store is_barrier holds_at is_free place_after cyclic_from pick_unit pick_units taken_by taken_in taken_below pick padded has_room follows share has_place fits_group fits_reorder cost_in fits_registers fits_loads fits_stores fits_buffers can_dispatch producer has_operand has_operands is_fenced memory_order may_access can_start can_issue can_retire comes_before
broken_fail = refl

runs_from : (es : List Example) → list_all (λ e. passes e.input e.run) es ≡ true → All (λ e. IsRunOf e.input e.run) es
runs_from [] h = All-nil (λ e. IsRunOf e.input e.run)
runs_from (e ∷ es) h =
    let parts : (passes e.input e.run ≡ true) × (list_all (λ x. passes x.input x.run) es ≡ true) = and_parts _ _ h in
    All-cons (λ x. IsRunOf x.input x.run) e es ((passes_decides e.input e.run).0 parts.0) (runs_from es parts.1)

broken_from : (es : List Example) → list_any (λ e. passes e.input e.broken) es ≡ false → All (λ e. IsRunOf e.input e.broken → ⊥) es
broken_from [] h = All-nil (λ e. IsRunOf e.input e.broken → ⊥)
broken_from (e ∷ es) h =
    let parts : (passes e.input e.broken ≡ false) × (list_any (λ x. passes x.input x.broken) es ≡ false) = or_parts _ _ h in
    All-cons (λ x. IsRunOf x.input x.broken → ⊥) e es (λ run. both_ways _ parts.0 ((passes_decides e.input e.broken).1 run)) (broken_from es parts.1)

pub runs_are : All (λ e. IsRunOf e.input e.run) examples
runs_are = runs_from examples runs_pass

pub broken_are : All (λ e. IsRunOf e.input e.broken → ⊥) examples
broken_are = broken_from examples broken_fail

totals_low : list_all (λ e. nat_le (total_of e.run) (cycle_bound e.input)) examples ≡ true
unfolding sum_below uops_of max_below most_lag cycle_bound
totals_low = refl

within_from : (es : List Example) → list_all (λ e. nat_le (total_of e.run) (cycle_bound e.input)) es ≡ true → All (λ e. total_of e.run ≤ cycle_bound e.input) es
within_from [] h = All-nil (λ e. total_of e.run ≤ cycle_bound e.input)
within_from (e ∷ es) h =
    let parts : (nat_le (total_of e.run) (cycle_bound e.input) ≡ true) × (list_all (λ x. nat_le (total_of x.run) (cycle_bound x.input)) es ≡ true) = and_parts _ _ h in
    All-cons (λ x. total_of x.run ≤ cycle_bound x.input) e es (leb-true _ _ parts.0) (within_from es parts.1)

pub totals_are_within : All (λ e. total_of e.run ≤ cycle_bound e.input) examples
totals_are_within = within_from examples totals_low

pub bounds_are : worked_bounds ≡ 8 ∷ 10 ∷ 48 ∷ 10 ∷ 26 ∷ 28 ∷ []
unfolding sum_below uops_of max_below most_lag cycle_bound turn_bound
bounds_are = refl
