use Rattle.std.proofs.Common.{◌++◌}
use Rattle.std.proofs.lemmas.Result.{err_from_is_err_and}
use Rattle.mca_views.specs.Bottleneck.{waited_lines, stall_lines, sequence_lines, bottleneck_lines}
use Rattle.mca_views.specs.Shown.{shown}
use Rattle.mca_views.proofs.Listed.{then_lines, over_last, over_longer}
use Rattle.mca_views.proofs.bottlenecks.put_bottleneck.Goals as goal

pub returns-clause-ok : goal.returns-clause-ok
unfolding bottleneck_lines
returns-clause-ok g c = let s = shown g.M.Machine.meaning c.args.v.now in
    then_lines c.put_sequence.new.page c.put_stalls.new.page c.args.page.now (waited_lines s ++ stall_lines s) (sequence_lines s c.args.held.now.chain)
    (then_lines c.put_stalls.new.page c.put_waits.new.page c.args.page.now (waited_lines s) (stall_lines s) c.in_ok-put_waits.ensures.ok c.in_ok-put_stalls.ensures.ok)
    c.in_ok-put_sequence.ensures.ok

pub returns-in_err-put_waits-clause-long : goal.returns-in_err-put_waits-clause-long
unfolding bottleneck_lines
returns-in_err-put_waits-clause-long g c = let e = err_from_is_err_and c.from_residual.result c.from_residual.ensures.1 in let s = shown g.M.Machine.meaning c.args.v.now in
    rw (e.1, e.2) (over_longer c.args.page.now (waited_lines s ++ stall_lines s) (sequence_lines s c.args.held.now.chain) c.in_err-put_waits.field-0.0
    (over_longer c.args.page.now (waited_lines s) (stall_lines s) c.in_err-put_waits.field-0.0 c.in_err-put_waits.ensures.long))

pub returns-in_err-put_stalls-clause-long : goal.returns-in_err-put_stalls-clause-long
unfolding bottleneck_lines
returns-in_err-put_stalls-clause-long g c = let e = err_from_is_err_and c.from_residual-in_err-put_stalls.result c.from_residual-in_err-put_stalls.ensures.1 in let s = shown g.M.Machine.meaning c.args.v.now in
    rw (e.1, e.2) (over_longer c.args.page.now (waited_lines s ++ stall_lines s) (sequence_lines s c.args.held.now.chain) c.in_err-put_stalls.field-0.0
    (over_last c.put_waits.new.page c.args.page.now (waited_lines s) (stall_lines s) c.in_err-put_stalls.field-0.0 c.in_ok-put_waits.ensures.ok c.in_err-put_stalls.ensures.long))

pub returns-in_err-put_sequence-clause-long : goal.returns-in_err-put_sequence-clause-long
unfolding bottleneck_lines
returns-in_err-put_sequence-clause-long g c = let e = err_from_is_err_and c.from_residual-in_err-put_sequence.result c.from_residual-in_err-put_sequence.ensures.1 in let s = shown g.M.Machine.meaning c.args.v.now in
    rw (e.1, e.2) (over_last c.put_stalls.new.page c.args.page.now (waited_lines s ++ stall_lines s) (sequence_lines s c.args.held.now.chain) c.in_err-put_sequence.field-0.0
    (then_lines c.put_stalls.new.page c.put_waits.new.page c.args.page.now (waited_lines s) (stall_lines s) c.in_ok-put_waits.ensures.ok c.in_ok-put_stalls.ensures.ok)
    c.in_err-put_sequence.ensures.long)
