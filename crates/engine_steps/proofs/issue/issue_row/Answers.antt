use Rattle.std.proofs.Common.{◌≡◌, ◌+◌, ◌<◌, List, arith, sym, ◌∙◌, ap, subst}
use Rattle.cycle_rules.specs.Pick.{Taken}
use Rattle.cycle_rules.specs.Row.{Input, times}
use Rattle.engine_state.specs.State.{now, taken_now}
use Rattle.engine_state.proofs.Turn.{issue_keeps, read_row}
use Rattle.engine_steps.proofs.Steps.{flight_at, issue_ahead}
use Rattle.engine_steps.specs.Refused.{AreRefused}
use Rattle.engine_steps.proofs.Refusals.{refused_grow}
use Rattle.engine_steps.proofs.issue.issue_row.Goals as goal

pub returns-then-index-clause-flight : goal.returns-then-index-clause-flight
returns-then-index-clause-flight g c =
    let run : Input = g.R.Rows.input c.args.rows.now in
    let lt : c.args.j < run.rows = omega (arith, c.requires.head, c.requires.flight.flow.within) in
    let v : c.index.result.now ≡ times c.args.f.now.table.items c.args.j = read_row _ _ _ _ _ c.requires.flight.state lt c.index.ensures in
    flight_at run c.args.f.now _ _ _ c.requires.flight (issue_keeps _ _ _ _ c.requires.flight.state lt (λ _ n. absurd (c.if-index.true (ap (λ t. t.issue) v ∙ n))))

pub returns-then-not-issues_now-clause-flight : goal.returns-then-not-issues_now-clause-flight
returns-then-not-issues_now-clause-flight g c =
    let run : Input = g.R.Rows.input c.args.rows.now in
    let lt : c.args.j < run.rows = omega (arith, c.requires.head, c.requires.flight.flow.within) in
    flight_at run c.args.f.now _ _ _ c.requires.flight (issue_keeps _ _ _ _ c.requires.flight.state lt (λ _ _. sym c.issues_now.ensures ∙ c.if-not-issues_now.true))

pub issues_now-requires-clause-late : goal.issues_now-requires-clause-late
issues_now-requires-clause-late g c =
    let run : Input = g.R.Rows.input c.args.rows.now in
    let lt : c.args.j < run.rows = omega (arith, c.requires.head, c.requires.flight.flow.within) in
    let v : c.index.result.now ≡ times c.args.f.now.table.items c.args.j = read_row _ _ _ _ _ c.requires.flight.state lt c.index.ensures in
    let ahead : (now run c.args.c c.args.f.now.table.items c.args.j).issue ≡ c.args.c + 1 = issue_ahead run c.args.c c.args.j c.args.f.now.table.items lt (c.requires.flight.state.kept c.args.j lt) (sym (ap (λ t. t.issue) v) ∙ c.if-index.false) in
    omega (arith, ahead)

pub returns-clause-refused : goal.returns-clause-refused
returns-clause-refused g c =
    let run : Input = g.R.Rows.input c.args.rows.now in
    subst (λ (taken : List Taken). AreRefused run.machine taken c.args.c c.args.refused.now) (sym c.issue.ensures.taken.1)
    (refused_grow run.machine (taken_now run c.args.c c.args.f.now.table.items) c.issue.ensures.taken.0 c.args.c c.args.refused.now c.requires.refused)
