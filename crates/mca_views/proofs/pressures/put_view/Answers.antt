use Rattle.std.proofs.Common.{◌++◌}
use Rattle.std.proofs.lemmas.Result.{err_from_is_err_and}
use Rattle.mca_views.specs.Pressure.{lines_of, unit_lines, iteration_lines, table_lines}
use Rattle.mca_views.specs.Shown.{shown}
use Rattle.mca_views.proofs.Listed.{then_lines, over_last, over_longer}
use Rattle.mca_views.proofs.pressures.put_view.Goals as goal

pub returns-clause-ok : goal.returns-clause-ok
unfolding lines_of
returns-clause-ok g c = let s = shown g.M.Machine.meaning c.args.v.now in let us = c.args.units.now in
    then_lines c.put_table.new.page c.put_totals.new.page c.args.page.now (unit_lines us s.machine ++ iteration_lines us s) (table_lines us s)
    (then_lines c.put_totals.new.page c.put_units.new.page c.args.page.now (unit_lines us s.machine) (iteration_lines us s) c.in_ok-put_units.ensures.ok c.in_ok-put_totals.ensures.ok)
    c.in_ok-put_table.ensures.ok

pub returns-in_err-put_units-clause-long : goal.returns-in_err-put_units-clause-long
unfolding lines_of
returns-in_err-put_units-clause-long g c = let e = err_from_is_err_and c.from_residual.result c.from_residual.ensures.1 in let s = shown g.M.Machine.meaning c.args.v.now in let us = c.args.units.now in
    rw (e.1, e.2) (over_longer c.args.page.now (unit_lines us s.machine ++ iteration_lines us s) (table_lines us s) c.in_err-put_units.field-0.0
    (over_longer c.args.page.now (unit_lines us s.machine) (iteration_lines us s) c.in_err-put_units.field-0.0 c.in_err-put_units.ensures.long))

pub returns-in_err-put_totals-clause-long : goal.returns-in_err-put_totals-clause-long
unfolding lines_of
returns-in_err-put_totals-clause-long g c = let e = err_from_is_err_and c.from_residual-in_err-put_totals.result c.from_residual-in_err-put_totals.ensures.1 in let s = shown g.M.Machine.meaning c.args.v.now in let us = c.args.units.now in
    rw (e.1, e.2) (over_longer c.args.page.now (unit_lines us s.machine ++ iteration_lines us s) (table_lines us s) c.in_err-put_totals.field-0.0
    (over_last c.put_units.new.page c.args.page.now (unit_lines us s.machine) (iteration_lines us s) c.in_err-put_totals.field-0.0 c.in_ok-put_units.ensures.ok c.in_err-put_totals.ensures.long))

pub returns-in_err-put_table-clause-long : goal.returns-in_err-put_table-clause-long
unfolding lines_of
returns-in_err-put_table-clause-long g c = let e = err_from_is_err_and c.from_residual-in_err-put_table.result c.from_residual-in_err-put_table.ensures.1 in let s = shown g.M.Machine.meaning c.args.v.now in let us = c.args.units.now in
    rw (e.1, e.2) (over_last c.put_totals.new.page c.args.page.now (unit_lines us s.machine ++ iteration_lines us s) (table_lines us s) c.in_err-put_table.field-0.0
    (then_lines c.put_totals.new.page c.put_units.new.page c.args.page.now (unit_lines us s.machine) (iteration_lines us s) c.in_ok-put_units.ensures.ok c.in_ok-put_totals.ensures.ok)
    c.in_err-put_table.ensures.long)
