use Rattle.std.proofs.Common.{ℕ, ◌+◌, ap, subst, ◌∙◌}
use Rattle.cycle_rules.specs.Given.{input_in}
use Rattle.cycle_rules.specs.Row.{Row, times, lead, advance_of}
use Rattle.cycle_rules.specs.Still.{IsStill, IsReadStill}
use Rattle.cycle_rules.proofs.Stills.{producer_is}
use Rattle.cycle_rules.proofs.next.nearer_of_read.Goals as goal

pub lead-cycles-requires-clause-from : goal.lead-cycles-requires-clause-from
lead-cycles-requires-clause-from g c = c.row.ensures.bound _ c.requires.bound

pub returns-in-Some-clause-still : goal.returns-in-Some-clause-still
returns-in-Some-clause-still g c = λ b le lt. subst (IsReadStill (input_in (g.M.Machine.meaning c.args.machine.now) c.args.given.now.body.now c.args.given.now.count) (times c.args.given.now.rows.now) c.args.c b c.args.source.now)
    (producer_is (input_in (g.M.Machine.meaning c.args.machine.now) c.args.given.now.body.now c.args.given.now.count) c.args.j c.args.source.now.reg _ c.in-Some.ensures.is)
    (subst (λ (x : ℕ). IsStill x c.args.c b)
    (λ i. (c.time.ensures i).issue + (c.lead-cycles.ensures ∙ ap (λ (r : Row). lead r.latency (advance_of (g.M.Machine.meaning c.args.machine.now) c.args.source.now.read r.write)) c.row.ensures.row) i)
    (c.nearer_after.ensures.still b le lt))

pub returns-in-None-clause-still : goal.returns-in-None-clause-still
returns-in-None-clause-still g c = λ b le lt. subst (IsReadStill (input_in (g.M.Machine.meaning c.args.machine.now) c.args.given.now.body.now c.args.given.now.count) (times c.args.given.now.rows.now) c.args.c b c.args.source.now)
    (producer_is (input_in (g.M.Machine.meaning c.args.machine.now) c.args.given.now.body.now c.args.given.now.count) c.args.j c.args.source.now.reg _ c.in-None.ensures.is) tt
