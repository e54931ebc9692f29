use Rattle.std.proofs.Common.{◌≡◌, ◌+◌, ◌≤◌, ◌||◌, Bool, true, false, arith, refl, sym, ◌∙◌}
use Rattle.cycle_rules.specs.Row.{Input}
use Rattle.engine_state.specs.State.{taken_now}
use Rattle.engine_steps.specs.Refused.{AreRefused}
use Rattle.engine_steps.proofs.Refusals.{refused_none}
use Rattle.engine_steps.proofs.Selects.{selects}
use Rattle.engine_steps.proofs.Steps.{issues_first, issues_no_more}
use Rattle.engine_steps.proofs.issue.issue_rows.Goals as goal

pub loop-j-init : goal.loop-j-init
loop-j-init g c =
    let run : Input = g.R.Rows.input c.args.rows.now in
    let none : AreRefused run.machine (taken_now run c.args.c c.args.f.now.table.items) c.args.c c.empty-refused.result = refused_none _ _ _ _ c.empty-refused.ensures in
    record {
      flight = selects run c.args.f.now c.args.c c.empty-refused.result c.args.f.now.front c.next-j.result (issues_first run c.args.f.now c.args.c c.requires.flight) (omega arith) c.next-j.ensures.from c.next-j.ensures.end none c.next-j.ensures.none;
      units = c.requires.units;
      machine = c.requires.machine;
      front = refl;
      head = refl;
      from = c.next-j.ensures.from;
      end = c.next-j.ensures.end;
      event = λ e. cc;
      refused = none;
      none = λ _. refl;
    }

either_of : {A : Type 0} (a b : Bool) → (a || b) ≡ true → (a ≡ true → A) → (b ≡ true → A) → A
either_of true b e first second = first refl
either_of false b e first second = second e

neither : (a b : Bool) → (a || b) ≡ false → (a ≡ false) × (b ≡ false)
neither true b e = cc
neither false b e = (refl, e)

pub loop-j-preserved : goal.loop-j-preserved
loop-j-preserved g c =
    let run : Input = g.R.Rows.input c.args.rows.now in
    let end : c.loop-j.j + 1 ≤ c.issue_row.new.f.head = omega (arith, c.loop-j-test.true, c.issue_row.ensures.head) in
    record {
      flight = selects run c.issue_row.new.f c.args.c c.issue_row.new.refused (c.loop-j.j + 1) c.next-j-in-loop-j.result c.issue_row.ensures.flight (omega (arith, c.issue_row.ensures.front, c.loop-j.invariant.from)) c.next-j-in-loop-j.ensures.from c.next-j-in-loop-j.ensures.end c.issue_row.ensures.refused c.next-j-in-loop-j.ensures.none;
      units = c.issue_row.ensures.units;
      machine = c.issue_row.ensures.machine;
      front = c.issue_row.ensures.front ∙ c.loop-j.invariant.front;
      head = c.issue_row.ensures.head ∙ c.loop-j.invariant.head;
      from = omega (arith, c.issue_row.ensures.front, c.loop-j.invariant.from, c.next-j-in-loop-j.ensures.from);
      end = c.next-j-in-loop-j.ensures.end;
      event = λ e. either_of c.issue_row.result c.loop-j.any (sym c.either-any.ensures ∙ e) c.issue_row.ensures.event c.loop-j.invariant.event;
      refused = c.issue_row.ensures.refused;
      none = λ e. (let both : (c.issue_row.result ≡ false) × (c.loop-j.any ≡ false) = neither c.issue_row.result c.loop-j.any (sym c.either-any.ensures ∙ e) in c.issue_row.ensures.none both.0 ∙ c.loop-j.invariant.none both.1);
    }

pub returns-clause-flight : goal.returns-clause-flight
returns-clause-flight g c = issues_no_more (g.R.Rows.input c.args.rows.now) c.loop-j.f c.args.c c.loop-j.j (omega (arith, c.loop-j-test.false, c.loop-j.invariant.end)) c.loop-j.invariant.flight
