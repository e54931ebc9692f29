use Rattle.std.proofs.Common.{◌≡◌, ◌∙◌, ℕ, List, length, subst, OnOk, IfErr}
use Rattle.mca_views.specs.Fault.{Over}
use Rattle.mca_views.specs.Lines.{lines}
use Rattle.mca_views.specs.Page.{added}
use Rattle.mca_views.specs.Pressure.{lines_of}
use Rattle.mca_views.specs.Shown.{shown}
use Rattle.mca_views.proofs.pressures.put_pressure.Goals as goal

pub returns-clause-ok : goal.returns-clause-ok
returns-clause-ok g c = subst (λ (us : List ℕ). OnOk c.put_view.result (c.put_view.new.page ≡ added c.args.page.now (lines (lines_of us (shown g.M.Machine.meaning c.args.v.now)))))
    (c.deref.ensures.value ∙ c.in_ok-units.ensures.is) c.put_view.ensures.ok

pub returns-clause-long : goal.returns-clause-long
returns-clause-long g c = subst (λ (us : List ℕ). IfErr c.put_view.result (Over c.args.page.now.room (length (added c.args.page.now (lines (lines_of us (shown g.M.Machine.meaning c.args.v.now)))).text)))
    (c.deref.ensures.value ∙ c.in_ok-units.ensures.is) c.put_view.ensures.long
