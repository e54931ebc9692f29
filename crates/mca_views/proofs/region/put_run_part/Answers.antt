use Rattle.std.proofs.Common.{true}
use Rattle.std.proofs.lemmas.Result.{err_from_is_err_and}
use Rattle.mca_views.specs.Bottleneck.{sequence_of}
use Rattle.mca_views.specs.Region.{part, bottleneck_part}
use Rattle.mca_views.specs.Shown.{shown}
use Rattle.mca_views.specs.Summary.{summary_lines}
use Rattle.mca_views.proofs.Listed.{then_lines, over_last, over_longer}
use Rattle.mca_views.proofs.region.put_run_part.Goals as goal

pub returns-clause-ok : goal.returns-clause-ok
returns-clause-ok g c = let s = shown g.M.Machine.meaning c.args.v.now in
    then_lines c.put_bottleneck_part.new.page c.put_summary_part.new.page c.args.page.now (part true (summary_lines s)) (bottleneck_part s (sequence_of c.args.held.now))
    c.in_ok-put_summary_part.ensures.ok c.in_ok-put_bottleneck_part.ensures.ok

pub returns-in_err-put_summary_part-clause-long : goal.returns-in_err-put_summary_part-clause-long
returns-in_err-put_summary_part-clause-long g c = let e = err_from_is_err_and c.from_residual.result c.from_residual.ensures.1 in let s = shown g.M.Machine.meaning c.args.v.now in
    rw (e.1, e.2) (over_longer c.args.page.now (part true (summary_lines s)) (bottleneck_part s (sequence_of c.args.held.now)) c.in_err-put_summary_part.field-0.0 c.in_err-put_summary_part.ensures.long)

pub returns-in_err-put_bottleneck_part-clause-long : goal.returns-in_err-put_bottleneck_part-clause-long
returns-in_err-put_bottleneck_part-clause-long g c = let e = err_from_is_err_and c.from_residual-in_err-put_bottleneck_part.result c.from_residual-in_err-put_bottleneck_part.ensures.1 in let s = shown g.M.Machine.meaning c.args.v.now in
    rw (e.1, e.2) (over_last c.put_summary_part.new.page c.args.page.now (part true (summary_lines s)) (bottleneck_part s (sequence_of c.args.held.now)) c.in_err-put_bottleneck_part.field-0.0
    c.in_ok-put_summary_part.ensures.ok c.in_err-put_bottleneck_part.ensures.long)
