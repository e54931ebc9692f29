use Rattle.std.proofs.Common.{ap, ◌∙◌, ◌||◌}
use Rattle.std.specs.Prelude.{nat_lt}
use Rattle.cycle_rules.specs.Given.{input_in}
use Rattle.cycle_rules.specs.Row.{Row, times}
use Rattle.cycle_rules.proofs.Groups.{group_is}
use Rattle.cycle_rules.proofs.room.fits_group.Goals as goal

pub returns : goal.returns
returns g c = c.has_place.ensures ∙ group_is (input_in (g.M.Machine.meaning c.args.machine.now) c.args.given.now.body.now c.args.given.now.count) (times c.args.given.now.rows.now) c.args.j c.args.c c.limits-limits.result.width c.limits-limits.result.reorder c.shares-taken.result c.uops-size.result c.needs_empty-alone.result c.all_let_join-joins.result
    (ap (λ l. l.width) c.limits-limits.ensures) (ap (λ l. l.reorder) c.limits-limits.ensures) c.shares-taken.ensures.is c.uops-size.ensures
    (c.needs_empty-alone.ensures ∙ ap (λ (r : Row). r.begins_group || nat_lt c.limits-limits.result.width c.uops-size.result) c.row.ensures.row) c.all_let_join-joins.ensures
