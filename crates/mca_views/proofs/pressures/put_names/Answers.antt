use Rattle.std.proofs.Common.{◌≡◌, ◌<◌, ◌∙◌, ℕ, List, [], length, map, get_or, sym, ap, subst}
use Rattle.std.proofs.lemmas.List.{length-map, get_or-map}
use Rattle.std.proofs.lemmas.Result.{err_from_is_err_and}
use Rattle.mca_views.specs.Fault.{Over}
use Rattle.mca_views.specs.Lines.{line}
use Rattle.mca_views.specs.Page.{added}
use Rattle.mca_views.specs.Pressure.{unit_line}
use Rattle.mca_views.proofs.Texts.{over_line, added_line}
use Rattle.mca_views.proofs.pressures.put_names.Goals as goal

pub returns-in_err-put_line-clause-long : goal.returns-in_err-put_line-clause-long
returns-in_err-put_line-clause-long g c =
    let p = err_from_is_err_and c.from_residual-in_err-put_line.result c.from_residual-in_err-put_line.ensures.1 in
    let f : ℕ → List ℕ = unit_line (g.M.Machine.meaning c.args.machine.now) in
    let units = c.args.units.now in
    let k = c.loop-unit.unit-index in
    let within : k < length (map f units) = subst (λ n. k < n) (sym (length-map units f)) c.loop-unit-test.true in
    let text : c.deref.result.now ≡ get_or (map f units) k [] = c.deref.ensures.value ∙ c.in_ok-line.ensures ∙ sym (get_or-map f units k 0 [] c.loop-unit-test.true) in
    rw (p.1, p.2) (over_line c.loop-unit.page c.args.page.now (map f units) k _ within c.loop-unit.invariant
    (subst (λ t. Over c.loop-unit.page.room (length (added c.loop-unit.page (line t)).text) c.in_err-put_line.field-0.0) text c.in_err-put_line.ensures.long))

pub loop-unit-preserved : goal.loop-unit-preserved
loop-unit-preserved g c =
    let f : ℕ → List ℕ = unit_line (g.M.Machine.meaning c.args.machine.now) in
    let units = c.args.units.now in
    let k = c.loop-unit.unit-index in
    let within : k < length (map f units) = subst (λ n. k < n) (sym (length-map units f)) c.loop-unit-test.true in
    let text : c.deref.result.now ≡ get_or (map f units) k [] = c.deref.ensures.value ∙ c.in_ok-line.ensures ∙ sym (get_or-map f units k 0 [] c.loop-unit-test.true) in
    c.in_ok-put_line.ensures.ok ∙ ap (λ t. added c.loop-unit.page (line t)) text ∙ added_line c.loop-unit.page c.args.page.now (map f units) k within c.loop-unit.invariant
