use Rattle.std.proofs.Common.{◌≡◌, ◌<◌, ◌∙◌, ◌++◌, ◌∷◌, [], ℕ, Bool, is_some, sym, ap, subst, arith}
use Rattle.std.specs.Prelude.{All}
use Rattle.std.specs.List.{filter, range_with_len}
use Rattle.mca_views.specs.Pressure.{columns}
use Rattle.mca_views.proofs.Columns.{kept_yes, kept_no, columns_low}
use Rattle.mca_views.proofs.pressures.columns.Goals.{then-is_some+in_ok-push, else-is_some}
use Rattle.mca_views.proofs.pressures.columns.Goals as goal

pub loop-unit-preserved : goal.loop-unit-preserved
loop-unit-preserved g c =
    let p : ℕ → Bool = λ u. is_some ((g.M.Machine.meaning c.args.machine.now).owner u) in
    let told : p c.loop-unit.unit ≡ c.is_some.result = ap is_some (sym c.owner.ensures) ∙ sym c.is_some.ensures in
    elim c.if-is_some.branch [
      | then-is_some+in_ok-push w ↦ ap (λ v. v.items) w.units-is ∙ w.in_ok-push.ensures.items ∙ ap (λ l. l ++ c.loop-unit.unit ∷ []) c.loop-unit.invariant ∙ sym (kept_yes p c.loop-unit.unit (told ∙ w.if-is_some.true))
      | else-is_some w ↦ ap (λ v. v.items) w.units-is ∙ c.loop-unit.invariant ∙ sym (kept_no p c.loop-unit.unit (told ∙ w.if-is_some.false))
    ]

pub returns-clause-is : goal.returns-clause-is
unfolding columns
returns-clause-is g c =
    let m = g.M.Machine.meaning c.args.machine.now in
    let valid = g.met.M.Machine.valid c.args.machine.now in
    let end : c.loop-unit.unit ≡ m.unit_count = omega (arith, valid.units, c.UNITS-unit-end.ensures) in
    c.loop-unit.invariant ∙ ap (λ n. filter (λ u. is_some (m.owner u)) (range_with_len 0 n)) end

pub returns-clause-low : goal.returns-clause-low
returns-clause-low g c =
    let m = g.M.Machine.meaning c.args.machine.now in
    subst (λ n. All (λ u. u < n) c.loop-unit.units.items) (g.met.M.Machine.valid c.args.machine.now).units (columns_low m c.loop-unit.units.items (returns-clause-is g c))
