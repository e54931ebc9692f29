use Rattle.std.proofs.Common.{ap, ◌∙◌, ◌&&◌}
use Rattle.std.specs.Prelude.{nat_le}
use Rattle.cycle_rules.specs.Given.{input_in}
use Rattle.cycle_rules.specs.Row.{Row, times}
use Rattle.cycle_rules.proofs.SeenIssues.{passes_older}
use Rattle.cycle_rules.proofs.starts.may_pass.Goals as goal

pub returns : goal.returns
returns g c = c.may_beside.ensures ∙ passes_older (input_in (g.M.Machine.meaning c.args.machine.now) c.args.given.now.body.now c.args.given.now.count) (times c.args.given.now.rows.now) c.args.at.phase c.args.at.row c.args.at.cycle c.args.k _ _ _ _ _ _
    (ap (λ (r : Row). r.kind) c.row.ensures.row) (ap (λ (r : Row). r.kind) c.row-2.ensures.row) (ap (λ l. l.no_alias) c.limits.ensures) c.requires.fenced
    (c.has_issued-issued.ensures (g.M.Machine.meaning c.args.machine.now)) (c.is_done.ensures ∙ ap (λ x. c.has_issued-issued.result && nat_le x.complete c.args.at.cycle) c.time.ensures)
