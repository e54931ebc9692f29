use Rattle.std.proofs.Common.{ap, sym, ◌∙◌}
use Rattle.cycle_rules.specs.Given.{input_in}
use Rattle.cycle_rules.specs.Row.{Row}
use Rattle.cycle_rules.proofs.SeenIssues.{access_plain}
use Rattle.cycle_rules.proofs.starts.may_access.Goals as goal

pub returns-in-Plain : goal.returns-in-Plain
returns-in-Plain g c = access_plain (input_in (g.M.Machine.meaning c.args.machine.now) c.args.given.now.body.now c.args.given.now.count) _ c.args.at.row c.args.at.cycle (sym (ap (λ (r : Row). r.kind) c.row.ensures.row) ∙ c.in-Plain.is)
