use Rattle.std.proofs.Common.{◌≡◌, true, false, rules, ap, sym, ◌∙◌}
use Rattle.cycle_rules.specs.Given.{input_in}
use Rattle.cycle_rules.specs.Row.{Row, times, lead, advance_of}
use Rattle.cycle_rules.proofs.SeenIssues.{value_seen, value_unseen}
use Rattle.cycle_rules.proofs.starts.has_value.Goals as goal

pub returns-then-not-has_issued : goal.returns-then-not-has_issued
returns-then-not-has_issued g c = value_unseen (input_in (g.M.Machine.meaning c.args.machine.now) c.args.given.now.body.now c.args.given.now.count) (times c.args.given.now.rows.now) c.args.at.phase c.args.at.row c.args.at.cycle c.args.read c.args.k
    (sym (c.has_issued.ensures (g.M.Machine.meaning c.args.machine.now)) ∙ (let e : c.has_issued.result ≡ false = search rules in e))

pub lead-requires-clause-from : goal.lead-requires-clause-from
lead-requires-clause-from g c = c.row.ensures.bound _ c.requires.bound

pub returns : goal.returns
returns g c = c.has_passed.ensures ∙ value_seen (input_in (g.M.Machine.meaning c.args.machine.now) c.args.given.now.body.now c.args.given.now.count) (times c.args.given.now.rows.now) c.args.at.phase c.args.at.row c.args.at.cycle c.args.read c.args.k c.time.result.now.issue c.lead.result
    (sym (c.has_issued.ensures (g.M.Machine.meaning c.args.machine.now)) ∙ (let e : c.has_issued.result ≡ true = search rules in e))
    (ap (λ x. x.issue) c.time.ensures)
    (c.lead.ensures ∙ ap (λ (r : Row). lead r.latency (advance_of (g.M.Machine.meaning c.args.machine.now) c.args.read r.write)) c.row.ensures.row)
