use Rattle.std.proofs.Common.{◌≡◌, sym, ◌∙◌, ap}
use Rattle.cycle_rules.specs.Below.{sum_below}
use Rattle.cycle_rules.specs.Row.{times}
use Rattle.cycle_rules.specs.Waits.{register_wait, memory_wait, resource_wait}
use Rattle.mca_views.specs.Bottleneck.{waited}
use Rattle.mca_views.specs.Shown.{Shown, shown, run_of}
use Rattle.mca_views.proofs.bottlenecks.put_waits.Goals as goal

pub returns-clause-ok : goal.returns-clause-ok
returns-clause-ok g c =
    let s : Shown = shown g.M.Machine.meaning c.args.v.now in
    let sums = c.requires.waits in
    let registers : c.args.waits.registers ≡ waited s register_wait = sums.registers ∙ ap (λ n. sum_below n (register_wait (run_of s) (times s.table))) (sym c.requires.shown.rows) in
    let memory : c.args.waits.memory ≡ waited s memory_wait = sums.memory ∙ ap (λ n. sum_below n (memory_wait (run_of s) (times s.table))) (sym c.requires.shown.rows) in
    let resources : c.args.waits.resources ≡ waited s resource_wait = sums.resources ∙ ap (λ n. sum_below n (resource_wait (run_of s) (times s.table))) (sym c.requires.shown.rows) in
    rw (← registers, ← memory, ← resources) c.put_sums.ensures.ok

pub returns-clause-long : goal.returns-clause-long
returns-clause-long g c =
    let s : Shown = shown g.M.Machine.meaning c.args.v.now in
    let sums = c.requires.waits in
    let registers : c.args.waits.registers ≡ waited s register_wait = sums.registers ∙ ap (λ n. sum_below n (register_wait (run_of s) (times s.table))) (sym c.requires.shown.rows) in
    let memory : c.args.waits.memory ≡ waited s memory_wait = sums.memory ∙ ap (λ n. sum_below n (memory_wait (run_of s) (times s.table))) (sym c.requires.shown.rows) in
    let resources : c.args.waits.resources ≡ waited s resource_wait = sums.resources ∙ ap (λ n. sum_below n (resource_wait (run_of s) (times s.table))) (sym c.requires.shown.rows) in
    rw (← registers, ← memory, ← resources) c.put_sums.ensures.long
