use Rattle.std.proofs.Common.{◌≡◌, ◌*◌, ◌%◌, ◌<◌, ℕ, List, length, map, arith, sym, ◌∙◌, ap, subst}
use Rattle.std.proofs.Math.Nat.{mod-lt}
use Rattle.std.proofs.lemmas.List.{length-map}
use Rattle.std.specs.Prelude.{IfOk}
use Rattle.dep_graph.specs.RunGraph.{IsGraphOf}
use Rattle.dep_graph.specs.Stalls.{stalls}
use Rattle.machine_model.specs.Meaning.{MachineMeaning}
use Rattle.cycle_rules.specs.Bind.{row_of}
use Rattle.cycle_rules.specs.Row.{Input, input, times}
use Rattle.cycle_rules.proofs.BoundRows.{body_is_bound}
use Rattle.cycle_rules.specs.declared.bound.Bound.{Bound}
use Rattle.dep_graph.specs.Peaks.{HaveLinks}
use Rattle.dep_graph.specs.WaitSums.{AreSums}
use Rattle.dep_graph.specs.Walk.{IsSoundRun}
use Rattle.dep_graph.proofs.Bodies.{sound_run}
use Rattle.dep_graph.proofs.graph.run_waits.Goals as goal

pub make-rows-requires-clause-bound : goal.make-rows-requires-clause-bound
make-rows-requires-clause-bound g c = body_is_bound g.M.Machine.UNITS g.M.Mask.UnitMask.SIZE (g.M.Machine.meaning c.args.machine.now) c.args.body.now (g.met.M.Machine.valid c.args.machine.now) c.requires.bound

pub all_links-requires-clause-bound : goal.all_links-requires-clause-bound
all_links-requires-clause-bound g c = body_is_bound g.M.Machine.UNITS g.M.Mask.UnitMask.SIZE (g.M.Machine.meaning c.args.machine.now) c.args.body.now (g.met.M.Machine.valid c.args.machine.now) c.requires.bound

pub waits_of-requires-clause-links : goal.waits_of-requires-clause-links
waits_of-requires-clause-links g c =
    let body : List Bound = c.args.body.now in
    let run : Input = input (g.M.Machine.meaning c.args.machine.now) (map row_of body) c.args.iterations in
    let is : input (g.M.Machine.meaning c.make-rows.result.machine.now) (map row_of c.make-rows.result.body.now) c.make-rows.result.iterations ≡ run =
    λ i. input (g.M.Machine.meaning (c.make-rows.ensures.machine i)) (map row_of (c.make-rows.ensures.body i)) (c.make-rows.ensures.iterations i) in
    let low : (j : ℕ) → j % length body < length body = λ j. mod-lt j c.requires.some in
    let links : HaveLinks run (length body) c.in_ok-links.links.items = record {
      within = λ j _. omega (arith, low j, c.in_ok-links.ensures.size);
      each = λ j _. c.in_ok-links.ensures.linked (j % length body) (low j) c.args.iterations j (ap (λ n. j % n) (length-map body row_of));
    } in
    subst (λ x. HaveLinks x (length c.make-rows.result.body.now) c.deref.result.now) (sym is)
    (subst (λ b. HaveLinks run (length b) c.deref.result.now) (sym c.make-rows.ensures.body)
    (subst (HaveLinks run (length body)) (sym c.deref.ensures.value) links))

pub waits_of-requires-clause-run : goal.waits_of-requires-clause-run
waits_of-requires-clause-run g c =
    let m : MachineMeaning = g.M.Machine.meaning c.args.machine.now in
    let run : Input = input m (map row_of c.args.body.now) c.args.iterations in
    let is : input (g.M.Machine.meaning c.make-rows.result.machine.now) (map row_of c.make-rows.result.body.now) c.make-rows.result.iterations ≡ run =
    λ i. input (g.M.Machine.meaning (c.make-rows.ensures.machine i)) (map row_of (c.make-rows.ensures.body i)) (c.make-rows.ensures.iterations i) in
    let table : c.make-rows.result.table.now ≡ c.args.run.now.rows = c.make-rows.ensures.table ∙ c.as_slice.ensures in
    let sound : IsSoundRun run c.args.run.now.rows = sound_run g.M.Machine.UNITS g.M.Mask.UnitMask.SIZE m c.args.body.now c.args.iterations c.args.run.now.rows (g.met.M.Machine.valid c.args.machine.now) c.requires.bound c.requires.rows c.requires.run in
    subst (λ x. IsSoundRun x c.make-rows.result.table.now) (sym is) (subst (λ x. IsSoundRun run x) (sym table) sound)

pub waits_of-requires-clause-machine : goal.waits_of-requires-clause-machine
waits_of-requires-clause-machine g c = ap g.M.Machine.meaning (sym c.make-rows.ensures.machine)

pub returns-clause-waits : goal.returns-clause-waits
returns-clause-waits g c =
    let m : MachineMeaning = g.M.Machine.meaning c.args.machine.now in
    let run : Input = input m (map row_of c.args.body.now) c.args.iterations in
    let is : input (g.M.Machine.meaning c.make-rows.result.machine.now) (map row_of c.make-rows.result.body.now) c.make-rows.result.iterations ≡ run =
    λ i. input (g.M.Machine.meaning (c.make-rows.ensures.machine i)) (map row_of (c.make-rows.ensures.body i)) (c.make-rows.ensures.iterations i) in
    let table : c.make-rows.result.table.now ≡ c.args.run.now.rows = c.make-rows.ensures.table ∙ c.as_slice.ensures in
    subst (λ x. IfOk c.waits_of.result (λ w. IsGraphOf run (times x) w.graph)) table
    (subst (λ x. IfOk c.waits_of.result (λ w. IsGraphOf x (times c.make-rows.result.table.now) w.graph)) is c.waits_of.ensures.waits)

pub returns-clause-sums : goal.returns-clause-sums
returns-clause-sums g c =
    let m : MachineMeaning = g.M.Machine.meaning c.args.machine.now in
    let run : Input = input m (map row_of c.args.body.now) c.args.iterations in
    let is : input (g.M.Machine.meaning c.make-rows.result.machine.now) (map row_of c.make-rows.result.body.now) c.make-rows.result.iterations ≡ run =
    λ i. input (g.M.Machine.meaning (c.make-rows.ensures.machine i)) (map row_of (c.make-rows.ensures.body i)) (c.make-rows.ensures.iterations i) in
    let table : c.make-rows.result.table.now ≡ c.args.run.now.rows = c.make-rows.ensures.table ∙ c.as_slice.ensures in
    subst (λ n. IfOk c.waits_of.result (λ w. AreSums run (times c.args.run.now.rows) (c.args.iterations * n) w.sums)) (length-map c.args.body.now row_of)
    (subst (λ x. IfOk c.waits_of.result (λ w. AreSums run (times x) run.rows w.sums)) table
    (subst (λ x. IfOk c.waits_of.result (λ w. AreSums x (times c.make-rows.result.table.now) x.rows w.sums)) is c.waits_of.ensures.sums))

pub returns-clause-stalls : goal.returns-clause-stalls
returns-clause-stalls g c =
    let m : MachineMeaning = g.M.Machine.meaning c.args.machine.now in
    let run : Input = input m (map row_of c.args.body.now) c.args.iterations in
    let is : input (g.M.Machine.meaning c.make-rows.result.machine.now) (map row_of c.make-rows.result.body.now) c.make-rows.result.iterations ≡ run =
    λ i. input (g.M.Machine.meaning (c.make-rows.ensures.machine i)) (map row_of (c.make-rows.ensures.body i)) (c.make-rows.ensures.iterations i) in
    let table : c.make-rows.result.table.now ≡ c.args.run.now.rows = c.make-rows.ensures.table ∙ c.as_slice.ensures in
    subst (λ x. IfOk c.waits_of.result (λ w. w.stalls ≡ stalls run (times x))) table
    (subst (λ x. IfOk c.waits_of.result (λ w. w.stalls ≡ stalls x (times c.make-rows.result.table.now))) is c.waits_of.ensures.stalls)
