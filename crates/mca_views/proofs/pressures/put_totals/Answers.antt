use Rattle.std.proofs.Common.{◌≡◌, ◌∙◌, ◌∷◌, [], ℕ, List, ap, subst, OnOk}
use Rattle.std.specs.Prelude.{codes}
use Rattle.mca_views.specs.Lines.{lines}
use Rattle.mca_views.specs.Page.{added}
use Rattle.mca_views.specs.Pressure.{cells, unit_number}
use Rattle.mca_views.proofs.pressures.put_totals.Goals as goal

pub returns-clause-ok : goal.returns-clause-ok
returns-clause-ok g c =
    let title = codes "Resource pressure per iteration:" in
    let is = ap (λ (l : List ℕ). [] ∷ title ∷ l ∷ c.as_slice-2.result.now ∷ []) (c.as_slice.ensures.value ∙ c.in_ok-head.ensures)
    ∙ ap (λ (l : List ℕ). [] ∷ title ∷ cells unit_number c.args.units.now ∷ l ∷ []) (c.as_slice-2.ensures.value ∙ c.in_ok-totals.ensures) in
    subst (λ (ls : List (List ℕ)). OnOk c.put_lines.result (c.put_lines.new.self ≡ added c.args.page.now (lines ls))) is c.put_lines.ensures.ok
