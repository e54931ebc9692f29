use Rattle.std.proofs.lemmas.Result.{err_from_is_err_and}
use Rattle.mca_views.specs.Timeline.{timeline_lines}
use Rattle.mca_views.specs.Shown.{shown}
use Rattle.mca_views.proofs.OnParts.{part_on, over_part}
use Rattle.mca_views.proofs.region.put_timeline_part.Goals as goal

pub returns-clause-ok : goal.returns-clause-ok
returns-clause-ok g c = part_on c.args.o.now.timeline c.args.page.now c.put_line.new.self c.put_timeline.new.page (timeline_lines (shown g.M.Machine.meaning c.args.v.now) c.args.o.now) c.if-not-o.false
    c.in_ok-put_line.ensures.ok c.in_ok-put_timeline.ensures.ok

pub returns-in_err-put_timeline-clause-long : goal.returns-in_err-put_timeline-clause-long
returns-in_err-put_timeline-clause-long g c = let e = err_from_is_err_and c.from_residual-in_err-put_timeline.result c.from_residual-in_err-put_timeline.ensures.1 in
    rw (e.1, e.2) (over_part c.args.o.now.timeline c.args.page.now c.put_line.new.self (timeline_lines (shown g.M.Machine.meaning c.args.v.now) c.args.o.now) c.in_err-put_timeline.field-0.0 c.if-not-o.false
    c.in_ok-put_line.ensures.ok c.in_err-put_timeline.ensures.long)
