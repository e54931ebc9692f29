use Rattle.std.proofs.Common.{◌≡◌, ◌∙◌, ◌++◌, ◌∷◌, [], ℕ, List, length, ap, subst, OnOk, IfErr}
use Rattle.std.specs.Prelude.{codes}
use Rattle.mca_views.specs.Fault.{Over}
use Rattle.mca_views.specs.Lines.{lines}
use Rattle.mca_views.specs.Page.{added}
use Rattle.mca_views.proofs.pressures.put_table_head.Goals as goal

pub returns-clause-ok : goal.returns-clause-ok
returns-clause-ok c =
    let is = c.as_slice.ensures.value ∙ c.in_ok-extend_from_slice.ensures.items ∙ ap (λ (l : List ℕ). l ++ codes "Instructions:") c.in_ok-head.ensures in
    subst (λ (l : List ℕ). OnOk c.put_lines.result (c.put_lines.new.self ≡ added c.args.page.now (lines ([] ∷ codes "Resource pressure by instruction:" ∷ l ∷ [])))) is c.put_lines.ensures.ok

pub returns-clause-long : goal.returns-clause-long
returns-clause-long c =
    let is = c.as_slice.ensures.value ∙ c.in_ok-extend_from_slice.ensures.items ∙ ap (λ (l : List ℕ). l ++ codes "Instructions:") c.in_ok-head.ensures in
    subst (λ (l : List ℕ). IfErr c.put_lines.result (Over c.args.page.now.room (length (added c.args.page.now (lines ([] ∷ codes "Resource pressure by instruction:" ∷ l ∷ []))).text))) is c.put_lines.ensures.long
