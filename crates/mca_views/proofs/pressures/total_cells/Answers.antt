use Rattle.std.proofs.Common.{◌≡◌, ◌<◌, ◌∙◌, ◌++◌, ℕ, length, map, slice_index, sym, ap, subst}
use Rattle.cycle_rules.specs.Bind.{row_of}
use Rattle.cycle_rules.specs.Holds.{held_by_all}
use Rattle.cycle_rules.specs.Row.{times}
use Rattle.mca_views.specs.Pressure.{pressure_cells}
use Rattle.mca_views.proofs.Columns.{places_of, pressures_same, written_back}
use Rattle.mca_views.proofs.pressures.total_cells.Goals as goal

pub sum_holds-requires-clause-places : goal.sum_holds-requires-clause-places
sum_holds-requires-clause-places g c = places_of _ _ (g.M.Machine.meaning c.args.v.now.machine.now) c.args.v.now.body.now (g.met.M.Machine.valid c.args.v.now.machine.now) c.requires.shown.entry

pub returns : goal.returns
returns g c =
    let iterations = c.args.v.now.iterations in
    let units = c.args.units.now in
    let sums = c.sum_holds.new.sums in
    let sum : ℕ → ℕ = λ u. held_by_all (map row_of c.args.v.now.body.now) (times c.args.v.now.run.now.rows) iterations u in
    let all : length c.deref_mut.result.now ≡ g.M.Machine.UNITS = c.deref_mut.ensures.len ∙ c.in_ok-sums.ensures.len ∙ c.UNITS.ensures in
    let kept : c.deref.result.now ≡ sums = c.deref.ensures.value ∙ written_back sums c.in_ok-sums.sums.items c.in_ok-sums.sums.len (c.sum_holds.ensures.length ∙ c.deref_mut.ensures.len) in
    let same = pressures_same iterations sums sum units g.M.Machine.UNITS (c.sum_holds.ensures.length ∙ all) c.requires.low
    (λ u lt. c.sum_holds.ensures.each u (subst (λ n. u < n) (sym all) lt) ∙ ap (λ rows. held_by_all (map row_of c.args.v.now.body.now) (times rows) iterations u) c.as_slice.ensures) in
    c.in_ok-push_pressures.ensures
    ∙ ap (λ l. l ++ pressure_cells iterations (slice_index c.deref.result.now) units) c.new-line.ensures.items
    ∙ ap (λ ss. pressure_cells iterations (slice_index ss) units) kept
    ∙ same
