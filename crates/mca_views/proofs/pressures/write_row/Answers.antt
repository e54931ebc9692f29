use Rattle.std.proofs.Common.{◌≡◌, ◌<◌, ◌∙◌, ◌++◌, ℕ, map, slice_index, sym, ap, subst}
use Rattle.std.proofs.lemmas.List.{get_or_default}
use Rattle.rv_isa.specs.Spelling.{spelling}
use Rattle.cycle_rules.specs.Bind.{row_of}
use Rattle.cycle_rules.specs.Holds.{held_at}
use Rattle.cycle_rules.specs.Row.{times}
use Rattle.mca_views.specs.Shown.{no_instr, spelled, shown}
use Rattle.mca_views.specs.Pressure.{pressure_cells}
use Rattle.mca_views.proofs.Columns.{places_of, pressures_same}
use Rattle.mca_views.proofs.pressures.write_row.Goals as goal

pub sum_holds_at-requires-clause-places : goal.sum_holds_at-requires-clause-places
sum_holds_at-requires-clause-places g c = places_of _ _ (g.M.Machine.meaning c.args.v.now.machine.now) c.args.v.now.body.now (g.met.M.Machine.valid c.args.v.now.machine.now) c.requires.shown.entry

pub returns : goal.returns
returns g c =
    let s = shown g.M.Machine.meaning c.args.v.now in
    let iterations = c.args.v.now.iterations in
    let units = c.args.units.now in
    let sums = c.sum_holds_at.new.sums in
    let sum : ℕ → ℕ = λ u. held_at (map row_of c.args.v.now.body.now) (times c.args.v.now.run.now.rows) iterations c.args.k u in
    let same = pressures_same iterations sums sum units g.M.Machine.UNITS (c.sum_holds_at.ensures.length ∙ c.requires.sums) c.requires.low
    (λ u lt. c.sum_holds_at.ensures.each u (subst (λ n. u < n) (sym c.requires.sums) lt) ∙ ap (λ rows. held_at (map row_of c.args.v.now.body.now) (times rows) iterations c.args.k u) c.as_slice.ensures) in
    let cells : c.push_pressures.new.line.items ≡ pressure_cells iterations sum units =
    c.in_ok-push_pressures.ensures ∙ ap (λ l. l ++ pressure_cells iterations (slice_index sums) units) c.clear.ensures.items ∙ same in
    let named : c.deref.result.now ≡ spelled s c.args.k =
    c.deref.ensures.value ∙ c.in_ok-spell.ensures ∙ ap (λ i. spelling i c.args.v.now.names.now) (get_or_default c.args.v.now.code.now c.args.k c.index-v-k.result no_instr c.requires.place) in
    c.in_ok-extend_from_slice.ensures.items ∙ ap (λ l. l ++ c.deref.result.now) cells ∙ ap (λ l. pressure_cells iterations sum units ++ l) named
