use Rattle.std.proofs.Common.{length}
use Rattle.std.proofs.lemmas.Result.{err_from_is_err_and}
use Rattle.mca_views.specs.Lines.{listed}
use Rattle.mca_views.specs.Pressure.{table_head, pressure_line}
use Rattle.mca_views.specs.Shown.{shown}
use Rattle.mca_views.proofs.Listed.{then_lines, over_last, over_longer}
use Rattle.mca_views.proofs.pressures.put_table.Goals as goal

pub returns-clause-ok : goal.returns-clause-ok
returns-clause-ok g c = let s = shown g.M.Machine.meaning c.args.v.now in let us = c.args.units.now in
    then_lines c.put_rows.new.page c.put_table_head.new.page c.args.page.now (table_head us) (listed (length s.code) (pressure_line us s)) c.in_ok-put_table_head.ensures.ok c.in_ok-put_rows.ensures.ok

pub returns-in_err-put_table_head-clause-long : goal.returns-in_err-put_table_head-clause-long
returns-in_err-put_table_head-clause-long g c = let e = err_from_is_err_and c.from_residual.result c.from_residual.ensures.1 in let s = shown g.M.Machine.meaning c.args.v.now in let us = c.args.units.now in
    rw (e.1, e.2) (over_longer c.args.page.now (table_head us) (listed (length s.code) (pressure_line us s)) c.in_err-put_table_head.field-0.0 c.in_err-put_table_head.ensures.long)

pub returns-in_err-put_rows-clause-long : goal.returns-in_err-put_rows-clause-long
returns-in_err-put_rows-clause-long g c = let e = err_from_is_err_and c.from_residual-in_err-put_rows.result c.from_residual-in_err-put_rows.ensures.1 in let s = shown g.M.Machine.meaning c.args.v.now in let us = c.args.units.now in
    rw (e.1, e.2) (over_last c.put_table_head.new.page c.args.page.now (table_head us) (listed (length s.code) (pressure_line us s)) c.in_err-put_rows.field-0.0 c.in_ok-put_table_head.ensures.ok c.in_err-put_rows.ensures.long)
