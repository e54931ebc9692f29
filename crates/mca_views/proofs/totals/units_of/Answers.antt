use Rattle.std.proofs.Common.{◌∙◌, subst, sym, ◌<◌}
use Rattle.mca_views.proofs.Loads.{units_counted}
use Rattle.mca_views.proofs.totals.units_of.Goals as goal

pub returns-clause-is : goal.returns-clause-is
returns-clause-is g c = c.count.ensures ∙ units_counted _ _ _ (g.M.Machine.meaning c.args.machine.now) c.args.r (g.met.M.Machine.valid c.args.machine.now) c.requires c.mask.ensures

pub returns-clause-some : goal.returns-clause-some
returns-clause-some g c = subst (λ n. 0 < n) (sym (c.count.ensures ∙ units_counted _ _ _ (g.M.Machine.meaning c.args.machine.now) c.args.r (g.met.M.Machine.valid c.args.machine.now) c.requires c.mask.ensures))
    ((g.met.M.Machine.valid c.args.machine.now).resource c.args.r c.requires).some_unit
