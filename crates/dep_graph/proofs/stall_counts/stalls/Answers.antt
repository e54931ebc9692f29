use Rattle.std.proofs.Common.{◌≡◌, ◌*◌, map, arith, sym, ◌∙◌, ap, subst}
use Rattle.std.specs.Prelude.{sum}
use Rattle.std.proofs.lemmas.List.{length-map}
use Rattle.machine_model.specs.Meaning.{MachineMeaning}
use Rattle.cycle_rules.specs.Bind.{row_of}
use Rattle.cycle_rules.specs.Row.{Input, input, times}
use Rattle.cycle_rules.proofs.BoundRows.{body_is_bound}
use Rattle.dep_graph.specs.RowCounts.{listed}
use Rattle.dep_graph.specs.Stalls.{last_dispatch}
use Rattle.dep_graph.specs.Walk.{IsSoundRun, sums_of}
use Rattle.dep_graph.proofs.Bodies.{sound_run}
use Rattle.dep_graph.proofs.Walks.{listed_sums, listed_total, total_sums}
use Rattle.dep_graph.proofs.stall_counts.stalls.Goals as goal

pub make-rows-requires-clause-bound : goal.make-rows-requires-clause-bound
make-rows-requires-clause-bound g c = body_is_bound g.M.Machine.UNITS g.M.Mask.UnitMask.SIZE (g.M.Machine.meaning c.args.machine.now) c.args.body.now (g.met.M.Machine.valid c.args.machine.now) c.requires.bound

pub count-requires : goal.count-requires
count-requires g c =
    let m : MachineMeaning = g.M.Machine.meaning c.args.machine.now in
    let run : Input = input m (map row_of c.args.body.now) c.args.iterations in
    let is : input (g.M.Machine.meaning c.make-rows.result.machine.now) (map row_of c.make-rows.result.body.now) c.make-rows.result.iterations ≡ run =
    λ i. input (g.M.Machine.meaning (c.make-rows.ensures.machine i)) (map row_of (c.make-rows.ensures.body i)) (c.make-rows.ensures.iterations i) in
    let table : c.make-rows.result.table.now ≡ c.args.run.now.rows = c.make-rows.ensures.table ∙ c.as_slice.ensures in
    let sound : IsSoundRun run c.args.run.now.rows = sound_run g.M.Machine.UNITS g.M.Mask.UnitMask.SIZE m c.args.body.now c.args.iterations c.args.run.now.rows (g.met.M.Machine.valid c.args.machine.now) c.requires.bound c.requires.rows c.requires.run in
    subst (λ x. IsSoundRun x c.make-rows.result.table.now) (sym is) (subst (λ x. IsSoundRun run x) (sym table) sound)

pub returns-clause-stalls : goal.returns-clause-stalls
returns-clause-stalls g c =
    let m : MachineMeaning = g.M.Machine.meaning c.args.machine.now in
    let run : Input = input m (map row_of c.args.body.now) c.args.iterations in
    let is : input (g.M.Machine.meaning c.make-rows.result.machine.now) (map row_of c.make-rows.result.body.now) c.make-rows.result.iterations ≡ run =
    λ i. input (g.M.Machine.meaning (c.make-rows.ensures.machine i)) (map row_of (c.make-rows.ensures.body i)) (c.make-rows.ensures.iterations i) in
    let table : c.make-rows.result.table.now ≡ c.args.run.now.rows = c.make-rows.ensures.table ∙ c.as_slice.ensures in
    let sound : IsSoundRun run c.args.run.now.rows = sound_run g.M.Machine.UNITS g.M.Mask.UnitMask.SIZE m c.args.body.now c.args.iterations c.args.run.now.rows (g.met.M.Machine.valid c.args.machine.now) c.requires.bound c.requires.rows c.requires.run in
    let counts : c.count.result ≡ sums_of run (times c.args.run.now.rows) run.rows = c.count.ensures ∙ (λ i. sums_of (is i) (times (table i)) (is i).rows) in
    c.listed.ensures ∙ ap listed counts ∙ listed_sums run (times c.args.run.now.rows) sound.run.each

pub returns-clause-sum : goal.returns-clause-sum
returns-clause-sum g c =
    let m : MachineMeaning = g.M.Machine.meaning c.args.machine.now in
    let run : Input = input m (map row_of c.args.body.now) c.args.iterations in
    let is : input (g.M.Machine.meaning c.make-rows.result.machine.now) (map row_of c.make-rows.result.body.now) c.make-rows.result.iterations ≡ run =
    λ i. input (g.M.Machine.meaning (c.make-rows.ensures.machine i)) (map row_of (c.make-rows.ensures.body i)) (c.make-rows.ensures.iterations i) in
    let table : c.make-rows.result.table.now ≡ c.args.run.now.rows = c.make-rows.ensures.table ∙ c.as_slice.ensures in
    let sound : IsSoundRun run c.args.run.now.rows = sound_run g.M.Machine.UNITS g.M.Mask.UnitMask.SIZE m c.args.body.now c.args.iterations c.args.run.now.rows (g.met.M.Machine.valid c.args.machine.now) c.requires.bound c.requires.rows c.requires.run in
    let counts : c.count.result ≡ sums_of run (times c.args.run.now.rows) run.rows = c.count.ensures ∙ (λ i. sums_of (is i) (times (table i)) (is i).rows) in
    ap sum (c.listed.ensures ∙ ap listed counts) ∙ listed_total (sums_of run (times c.args.run.now.rows) run.rows) ∙ total_sums run (times c.args.run.now.rows) run.rows sound.run.each (omega arith)
    ∙ ap (λ n. last_dispatch (times c.args.run.now.rows) (c.args.iterations * n)) (length-map c.args.body.now row_of)
