use Rattle.std.proofs.Common.{◌≡◌, ◌<◌, true, arith, sym, ◌∙◌}
use Rattle.std.specs.Prelude.{slice_index, nat_lt}
use Rattle.std.proofs.lemmas.Bool.{and_parts}
use Rattle.std.proofs.lemmas.Bool.Decides.{nat_tests}
use Rattle.cycle_rules.specs.Row.{Input, Table, times}
use Rattle.dep_graph.specs.Taking.{asks_after}
use Rattle.dep_graph.proofs.Asking.{ready_taken, first_of}
use Rattle.dep_graph.proofs.Ordered.{asks_by_slot}
use Rattle.dep_graph.proofs.unit_waits.take_before.Goals as goal

pub bounds-slots-j : goal.bounds-slots-j
bounds-slots-j g c = let lt : slice_index c.args.order.now c.args.i < (g.R.Rows.input c.args.rows.now).rows = c.requires.order.all.below c.args.i (omega (arith, c.requires.place, c.requires.order.all.rows)) in omega (arith, lt, c.requires.slots.size)

pub overflow_sub-slot : goal.overflow_sub-slot
overflow_sub-slot g c =
    let lt : slice_index c.args.order.now c.args.i < (g.R.Rows.input c.args.rows.now).rows = c.requires.order.all.below c.args.i (omega (arith, c.requires.place, c.requires.order.all.rows)) in
    omega (arith, c.requires.slots.each (slice_index c.args.order.now c.args.i) lt, c.requires.some)

pub issues_before-requires : goal.issues_before-requires
issues_before-requires g c = λ q lt. (let low : slice_index c.args.order.now q < (g.R.Rows.input c.args.rows.now).rows = c.requires.order.all.below q (omega (arith, lt, c.requires.order.all.rows)) in omega (arith, low, c.requires.slots.size))

pub loop-units-preserved : goal.loop-units-preserved
loop-units-preserved g c =
    let run : Input = g.R.Rows.input c.args.rows.now in
    let t : Table = times (g.R.Rows.table c.args.rows.now) in
    let li : c.args.i < run.rows = omega (arith, c.requires.place, c.requires.order.all.rows) in
    let asks = asks_by_slot run t c.args.order.now c.args.slots.now c.loop-units.taken c.args.i c.requires.order c.requires.slots li c.requires.some in
    let test : (nat_lt c.loop-units.taken run.rows ≡ true) × (asks_after run t (slice_index c.args.order.now c.loop-units.taken) (slice_index c.args.order.now c.args.i) ≡ true) = and_parts _ _ (sym asks ∙ sym c.issues_before.ensures ∙ c.loop-units-test.true) in
    let low : c.loop-units.taken < run.rows = grind (arith, nat_tests, test.0) in
    record {
      cycle = (t (slice_index c.args.order.now c.loop-units.taken)).issue;
      ready = ready_taken run t c.args.order.now c.loop-units.taken c.args.i c.loop-units.invariant.cycle c.requires.order low li c.requires.some test.1 c.loop-units.invariant.ready;
      stands = c.take_row.ensures.units;
      holders = c.take_row.ensures.holders;
      machine = c.take_row.ensures.machine;
    }

pub returns-clause-first : goal.returns-clause-first
returns-clause-first g c =
    let run : Input = g.R.Rows.input c.args.rows.now in
    let t : Table = times (g.R.Rows.table c.args.rows.now) in
    let li : c.args.i < run.rows = omega (arith, c.requires.place, c.requires.order.all.rows) in
    let asks = asks_by_slot run t c.args.order.now c.args.slots.now c.loop-units.taken c.args.i c.requires.order c.requires.slots li c.requires.some in
    first_of run t c.args.order.now c.loop-units.taken c.args.i c.loop-units.invariant.cycle c.requires.order li (sym asks ∙ sym c.issues_before.ensures ∙ c.loop-units-test.false) c.loop-units.invariant.ready
