use Rattle.std.proofs.Common.{◌≡◌, ◌<◌, ◌++◌, ◌∙◌, ap}
use Rattle.cycle_rules.specs.Row.{times}
use Rattle.mca_views.specs.Lines.{cell, line, lines, listed}
use Rattle.mca_views.specs.Shown.{Shown, shown}
use Rattle.mca_views.specs.Timeline.{letter, lines_of_row}
use Rattle.mca_views.proofs.Rows.{row_some}
use Rattle.mca_views.proofs.timelines.put_row.Goals as goal

pub returns-clause-ok : goal.returns-clause-ok
returns-clause-ok g c =
    let s : Shown = shown g.M.Machine.meaning c.args.v.now in
    let early : (times s.table c.args.j).dispatch < c.args.cycles = rw (← c.as_slice.ensures) c.if-row-cycles.false in
    let is : lines (lines_of_row s c.args.cycles c.args.j) ≡ line (c.deref-2.result.now ++ listed c.args.cycles (letter (times s.table c.args.j)) ++ c.deref-3.result.now) =
    row_some s c.args.cycles c.args.j c.deref-2.result.now c.deref-3.result.now early
    (c.deref-2.ensures.value ∙ c.in_ok-cell.ensures ∙ ap (λ t. cell t 10) (c.deref.ensures.value ∙ c.in_ok-tag.ensures))
    (c.deref-3.ensures.value ∙ c.in_ok-spelling.ensures) in
    rw (is, ← c.as_slice.ensures) c.put_letter_line.ensures.ok

pub returns-clause-long : goal.returns-clause-long
returns-clause-long g c =
    let s : Shown = shown g.M.Machine.meaning c.args.v.now in
    let early : (times s.table c.args.j).dispatch < c.args.cycles = rw (← c.as_slice.ensures) c.if-row-cycles.false in
    let is : lines (lines_of_row s c.args.cycles c.args.j) ≡ line (c.deref-2.result.now ++ listed c.args.cycles (letter (times s.table c.args.j)) ++ c.deref-3.result.now) =
    row_some s c.args.cycles c.args.j c.deref-2.result.now c.deref-3.result.now early
    (c.deref-2.ensures.value ∙ c.in_ok-cell.ensures ∙ ap (λ t. cell t 10) (c.deref.ensures.value ∙ c.in_ok-tag.ensures))
    (c.deref-3.ensures.value ∙ c.in_ok-spelling.ensures) in
    rw (is, ← c.as_slice.ensures) c.put_letter_line.ensures.long
