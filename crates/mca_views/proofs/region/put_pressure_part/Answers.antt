use Rattle.std.proofs.lemmas.Result.{err_from_is_err_and}
use Rattle.mca_views.specs.Pressure.{pressure_lines}
use Rattle.mca_views.specs.Shown.{shown}
use Rattle.mca_views.proofs.OnParts.{part_on, over_part}
use Rattle.mca_views.proofs.region.put_pressure_part.Goals as goal

pub returns-clause-ok : goal.returns-clause-ok
returns-clause-ok g c = part_on c.args.on c.args.page.now c.put_line.new.self c.put_pressure.new.page (pressure_lines (shown g.M.Machine.meaning c.args.v.now)) c.if-not-on.false
    c.in_ok-put_line.ensures.ok c.in_ok-put_pressure.ensures.ok

pub returns-in_err-put_pressure-clause-long : goal.returns-in_err-put_pressure-clause-long
returns-in_err-put_pressure-clause-long g c = let e = err_from_is_err_and c.from_residual-in_err-put_pressure.result c.from_residual-in_err-put_pressure.ensures.1 in
    rw (e.1, e.2) (over_part c.args.on c.args.page.now c.put_line.new.self (pressure_lines (shown g.M.Machine.meaning c.args.v.now)) c.in_err-put_pressure.field-0.0 c.if-not-on.false
    c.in_ok-put_line.ensures.ok c.in_err-put_pressure.ensures.long)
