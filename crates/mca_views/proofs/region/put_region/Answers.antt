use Rattle.std.proofs.Common.{[], ◌∷◌}
use Rattle.std.proofs.lemmas.Result.{err_from_is_err_and}
use Rattle.mca_views.specs.Bottleneck.{sequence_of}
use Rattle.mca_views.specs.Information.{information_lines}
use Rattle.mca_views.specs.Pressure.{pressure_lines}
use Rattle.mca_views.specs.Timeline.{timeline_lines}
use Rattle.mca_views.specs.WaitTimes.{wait_lines}
use Rattle.mca_views.specs.Region.{region_head, region_lines, part, run_part}
use Rattle.mca_views.specs.Shown.{shown}
use Rattle.mca_views.proofs.RegionParts.{after_6, over_1, over_2, over_3, over_4, over_5, over_6}
use Rattle.mca_views.proofs.region.put_region.Goals as goal

pub returns-clause-ok : goal.returns-clause-ok
unfolding region_lines
returns-clause-ok g c = let s = shown g.M.Machine.meaning c.args.v.now in
    after_6 c.args.page.now c.put_head.new.page c.put_run_part.new.page c.put_information_part.new.page c.put_pressure_part.new.page c.put_timeline_part.new.page c.put_waits_part.new.page
    (region_head c.args.number c.args.name.now ∷ []) (run_part s (sequence_of c.args.held.now)) (part c.args.o.now.instruction_info (information_lines s)) (part c.args.o.now.resource_pressure (pressure_lines s)) (part c.args.o.now.timeline (timeline_lines s c.args.o.now)) (part c.args.o.now.timeline (wait_lines s c.args.o.now))
    c.in_ok-put_head.ensures.ok c.in_ok-put_run_part.ensures.ok c.in_ok-put_information_part.ensures.ok c.in_ok-put_pressure_part.ensures.ok c.in_ok-put_timeline_part.ensures.ok c.in_ok-put_waits_part.ensures.ok

pub returns-in_err-put_head-clause-long : goal.returns-in_err-put_head-clause-long
unfolding region_lines
returns-in_err-put_head-clause-long g c = let e = err_from_is_err_and c.from_residual.result c.from_residual.ensures.1 in let s = shown g.M.Machine.meaning c.args.v.now in
    rw (e.1, e.2) (over_1 c.args.page.now
    (region_head c.args.number c.args.name.now ∷ []) (run_part s (sequence_of c.args.held.now)) (part c.args.o.now.instruction_info (information_lines s)) (part c.args.o.now.resource_pressure (pressure_lines s)) (part c.args.o.now.timeline (timeline_lines s c.args.o.now)) (part c.args.o.now.timeline (wait_lines s c.args.o.now)) c.in_err-put_head.field-0.0
    c.in_err-put_head.ensures.long)

pub returns-in_err-put_run_part-clause-long : goal.returns-in_err-put_run_part-clause-long
unfolding region_lines
returns-in_err-put_run_part-clause-long g c = let e = err_from_is_err_and c.from_residual-in_err-put_run_part.result c.from_residual-in_err-put_run_part.ensures.1 in let s = shown g.M.Machine.meaning c.args.v.now in
    rw (e.1, e.2) (over_2 c.args.page.now c.put_head.new.page
    (region_head c.args.number c.args.name.now ∷ []) (run_part s (sequence_of c.args.held.now)) (part c.args.o.now.instruction_info (information_lines s)) (part c.args.o.now.resource_pressure (pressure_lines s)) (part c.args.o.now.timeline (timeline_lines s c.args.o.now)) (part c.args.o.now.timeline (wait_lines s c.args.o.now)) c.in_err-put_run_part.field-0.0
    c.in_ok-put_head.ensures.ok c.in_err-put_run_part.ensures.long)

pub returns-in_err-put_information_part-clause-long : goal.returns-in_err-put_information_part-clause-long
unfolding region_lines
returns-in_err-put_information_part-clause-long g c = let e = err_from_is_err_and c.from_residual-in_err-put_information_part.result c.from_residual-in_err-put_information_part.ensures.1 in let s = shown g.M.Machine.meaning c.args.v.now in
    rw (e.1, e.2) (over_3 c.args.page.now c.put_head.new.page c.put_run_part.new.page
    (region_head c.args.number c.args.name.now ∷ []) (run_part s (sequence_of c.args.held.now)) (part c.args.o.now.instruction_info (information_lines s)) (part c.args.o.now.resource_pressure (pressure_lines s)) (part c.args.o.now.timeline (timeline_lines s c.args.o.now)) (part c.args.o.now.timeline (wait_lines s c.args.o.now)) c.in_err-put_information_part.field-0.0
    c.in_ok-put_head.ensures.ok c.in_ok-put_run_part.ensures.ok c.in_err-put_information_part.ensures.long)

pub returns-in_err-put_pressure_part-clause-long : goal.returns-in_err-put_pressure_part-clause-long
unfolding region_lines
returns-in_err-put_pressure_part-clause-long g c = let e = err_from_is_err_and c.from_residual-in_err-put_pressure_part.result c.from_residual-in_err-put_pressure_part.ensures.1 in let s = shown g.M.Machine.meaning c.args.v.now in
    rw (e.1, e.2) (over_4 c.args.page.now c.put_head.new.page c.put_run_part.new.page c.put_information_part.new.page
    (region_head c.args.number c.args.name.now ∷ []) (run_part s (sequence_of c.args.held.now)) (part c.args.o.now.instruction_info (information_lines s)) (part c.args.o.now.resource_pressure (pressure_lines s)) (part c.args.o.now.timeline (timeline_lines s c.args.o.now)) (part c.args.o.now.timeline (wait_lines s c.args.o.now)) c.in_err-put_pressure_part.field-0.0
    c.in_ok-put_head.ensures.ok c.in_ok-put_run_part.ensures.ok c.in_ok-put_information_part.ensures.ok c.in_err-put_pressure_part.ensures.long)

pub returns-in_err-put_timeline_part-clause-long : goal.returns-in_err-put_timeline_part-clause-long
unfolding region_lines
returns-in_err-put_timeline_part-clause-long g c = let e = err_from_is_err_and c.from_residual-in_err-put_timeline_part.result c.from_residual-in_err-put_timeline_part.ensures.1 in let s = shown g.M.Machine.meaning c.args.v.now in
    rw (e.1, e.2) (over_5 c.args.page.now c.put_head.new.page c.put_run_part.new.page c.put_information_part.new.page c.put_pressure_part.new.page
    (region_head c.args.number c.args.name.now ∷ []) (run_part s (sequence_of c.args.held.now)) (part c.args.o.now.instruction_info (information_lines s)) (part c.args.o.now.resource_pressure (pressure_lines s)) (part c.args.o.now.timeline (timeline_lines s c.args.o.now)) (part c.args.o.now.timeline (wait_lines s c.args.o.now)) c.in_err-put_timeline_part.field-0.0
    c.in_ok-put_head.ensures.ok c.in_ok-put_run_part.ensures.ok c.in_ok-put_information_part.ensures.ok c.in_ok-put_pressure_part.ensures.ok c.in_err-put_timeline_part.ensures.long)

pub returns-in_err-put_waits_part-clause-long : goal.returns-in_err-put_waits_part-clause-long
unfolding region_lines
returns-in_err-put_waits_part-clause-long g c = let e = err_from_is_err_and c.from_residual-in_err-put_waits_part.result c.from_residual-in_err-put_waits_part.ensures.1 in let s = shown g.M.Machine.meaning c.args.v.now in
    rw (e.1, e.2) (over_6 c.args.page.now c.put_head.new.page c.put_run_part.new.page c.put_information_part.new.page c.put_pressure_part.new.page c.put_timeline_part.new.page
    (region_head c.args.number c.args.name.now ∷ []) (run_part s (sequence_of c.args.held.now)) (part c.args.o.now.instruction_info (information_lines s)) (part c.args.o.now.resource_pressure (pressure_lines s)) (part c.args.o.now.timeline (timeline_lines s c.args.o.now)) (part c.args.o.now.timeline (wait_lines s c.args.o.now)) c.in_err-put_waits_part.field-0.0
    c.in_ok-put_head.ensures.ok c.in_ok-put_run_part.ensures.ok c.in_ok-put_information_part.ensures.ok c.in_ok-put_pressure_part.ensures.ok c.in_ok-put_timeline_part.ensures.ok c.in_err-put_waits_part.ensures.long)
