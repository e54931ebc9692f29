use Rattle.std.proofs.Common.{◌≡◌, sym, ◌∙◌, refl, subst, arith}
use Rattle.cycle_rules.specs.Bind.{row_of}
use Rattle.cycle_rules.specs.Row.{Row}
use Rattle.resource_units.specs.Stand.{machine_of}
use Rattle.engine_steps.specs.Refused.{HasOneUse}
use Rattle.engine_steps.proofs.Classes.{class_low, has_one}
use Rattle.engine_steps.proofs.Refusals.{one_unit, refused_more}
use Rattle.engine_steps.proofs.refused.refuse.Goals as goal

pub insert-requires : goal.insert-requires
insert-requires g c = omega (arith, c.class_of-class.ensures, class_low (row_of c.args.b.now).uses)

pub returns : goal.returns
returns g c taken stand h =
    let row : Row = row_of c.args.b.now in
    let ne : c.class_of-class.result ≡ 63 → ⊥ = c.if-class-eq-OTHERS.false in
    let one : HasOneUse row c.class_of-class.result = subst (HasOneUse row) (sym c.class_of-class.ensures) (has_one row row.uses refl (λ e. ne (c.class_of-class.ensures ∙ e))) in
    refused_more (machine_of g.M.Machine.meaning c.args.units.now) taken c.args.c c.args.refused.now _ c.class_of-class.result h
    (one_unit (machine_of g.M.Machine.meaning c.args.units.now) taken c.args.c c.class_of-class.result row one (sym (c.can_take.ensures.pick taken stand) ∙ c.if-can_take.false)) ne c.insert.ensures
