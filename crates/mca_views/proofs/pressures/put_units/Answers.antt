use Rattle.std.proofs.Common.{◌∙◌, ◌∷◌, [], map}
use Rattle.std.specs.Prelude.{codes}
use Rattle.std.proofs.lemmas.Result.{err_from_is_err_and}
use Rattle.mca_views.specs.Pressure.{unit_line}
use Rattle.mca_views.proofs.Listed.{line_alone, then_lines, over_last}
use Rattle.mca_views.proofs.pressures.put_units.Goals as goal

pub returns-clause-ok : goal.returns-clause-ok
returns-clause-ok g c = then_lines c.put_names.new.page c.put_line.new.self c.args.page.now (codes "Resources:" ∷ []) (map (unit_line (g.M.Machine.meaning c.args.machine.now)) c.args.units.now)
    (c.in_ok-put_line.ensures.ok ∙ line_alone c.args.page.now (codes "Resources:")) c.in_ok-put_names.ensures.ok

pub returns-in_err-put_names-clause-long : goal.returns-in_err-put_names-clause-long
returns-in_err-put_names-clause-long g c = let e = err_from_is_err_and c.from_residual-in_err-put_names.result c.from_residual-in_err-put_names.ensures.1 in
    rw (e.1, e.2) (over_last c.put_line.new.self c.args.page.now (codes "Resources:" ∷ []) (map (unit_line (g.M.Machine.meaning c.args.machine.now)) c.args.units.now) c.in_err-put_names.field-0.0
    (c.in_ok-put_line.ensures.ok ∙ line_alone c.args.page.now (codes "Resources:")) c.in_err-put_names.ensures.long)
