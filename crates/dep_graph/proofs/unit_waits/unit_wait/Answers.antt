use Rattle.std.proofs.Common.{◌≡◌, ◌<◌, ◌≤◌, ◌+◌, ◌-◌, ℕ, arith, sym, ◌∙◌, ap, subst}
use Rattle.std.specs.Prelude.{slice_index, if◌then◌else◌}
use Rattle.critical_chain.specs.declared.graph.EdgeKind.TheVariants.{Resource}
use Rattle.cycle_rules.specs.Row.{Input, Table, times}
use Rattle.cycle_rules.specs.Waits.{earliest, memory_at, resource_wait}
use Rattle.resource_units.specs.Stand.{StandsFor}
use Rattle.dep_graph.specs.Blamed.{edge_of, resource_blamed}
use Rattle.dep_graph.specs.Holders.{taken_along}
use Rattle.dep_graph.proofs.Asking.{ready_first, holders_later}
use Rattle.dep_graph.proofs.Timed.{waits_sum}
use Rattle.dep_graph.proofs.Walks.{issue_early}
use Rattle.dep_graph.proofs.unit_waits.unit_wait.Goals as goal

pub overflow_add-ordered : goal.overflow_add-ordered
overflow_add-ordered g c =
    let run : Input = g.R.Rows.input c.args.rows.now in
    let t : Table = times (g.R.Rows.table c.args.rows.now) in
    let j : ℕ = slice_index c.args.order.now c.args.i in
    let li : c.args.i < run.rows = omega (arith, c.requires.place, c.requires.order.all.rows) in
    let lj : j < run.rows = c.requires.order.all.below c.args.i li in
    let waits = waits_sum run t j c.requires.run.run.each lj in
    let early = issue_early run t j c.requires.run.run.each lj in
    let cycle : c.times-times.result.now.issue ≡ (t j).issue = ap (λ r. r.issue) c.times-times.ensures in
    let from : c.earliest-from.result ≡ earliest run t j = c.earliest-from.ensures (t j).issue (run.row j).reserved (c.requires.slots.each j lj) ∙ ap (λ r. if (run.row j).reserved then r.dispatch else r.dispatch + 1) c.times-times.ensures in
    let ordered : c.earliest-from.result + c.args.waits.register.cycles + c.args.waits.memory.cycles ≡ memory_at run t j = omega (arith, from, c.requires.waits.register.is, c.requires.waits.memory.is, waits.0, waits.1) in
    omega (arith, ordered, waits.2, early.1, early.2, c.requires.run.early j lj)

pub overflow_add-ordered-2 : goal.overflow_add-ordered-2
overflow_add-ordered-2 g c =
    let run : Input = g.R.Rows.input c.args.rows.now in
    let t : Table = times (g.R.Rows.table c.args.rows.now) in
    let j : ℕ = slice_index c.args.order.now c.args.i in
    let li : c.args.i < run.rows = omega (arith, c.requires.place, c.requires.order.all.rows) in
    let lj : j < run.rows = c.requires.order.all.below c.args.i li in
    let waits = waits_sum run t j c.requires.run.run.each lj in
    let early = issue_early run t j c.requires.run.run.each lj in
    let cycle : c.times-times.result.now.issue ≡ (t j).issue = ap (λ r. r.issue) c.times-times.ensures in
    let from : c.earliest-from.result ≡ earliest run t j = c.earliest-from.ensures (t j).issue (run.row j).reserved (c.requires.slots.each j lj) ∙ ap (λ r. if (run.row j).reserved then r.dispatch else r.dispatch + 1) c.times-times.ensures in
    let ordered : c.earliest-from.result + c.args.waits.register.cycles + c.args.waits.memory.cycles ≡ memory_at run t j = omega (arith, from, c.requires.waits.register.is, c.requires.waits.memory.is, waits.0, waits.1) in
    omega (arith, ordered, waits.2, early.1, early.2, c.requires.run.early j lj)

pub returns-then-ordered-issue-clause-wait : goal.returns-then-ordered-issue-clause-wait
returns-then-ordered-issue-clause-wait g c =
    let run : Input = g.R.Rows.input c.args.rows.now in
    let t : Table = times (g.R.Rows.table c.args.rows.now) in
    let j : ℕ = slice_index c.args.order.now c.args.i in
    let li : c.args.i < run.rows = omega (arith, c.requires.place, c.requires.order.all.rows) in
    let lj : j < run.rows = c.requires.order.all.below c.args.i li in
    let waits = waits_sum run t j c.requires.run.run.each lj in
    let early = issue_early run t j c.requires.run.run.each lj in
    let cycle : c.times-times.result.now.issue ≡ (t j).issue = ap (λ r. r.issue) c.times-times.ensures in
    let from : c.earliest-from.result ≡ earliest run t j = c.earliest-from.ensures (t j).issue (run.row j).reserved (c.requires.slots.each j lj) ∙ ap (λ r. if (run.row j).reserved then r.dispatch else r.dispatch + 1) c.times-times.ensures in
    let ordered : c.earliest-from.result + c.args.waits.register.cycles + c.args.waits.memory.cycles ≡ memory_at run t j = omega (arith, from, c.requires.waits.register.is, c.requires.waits.memory.is, waits.0, waits.1) in
    let none : resource_wait run t j ≡ 0 = omega (arith, c.if-ordered-issue.true, ordered, cycle) in
    ap (λ n. edge_of Resource n j (resource_blamed run t j)) none ∙ c.wait_for.ensures Resource j

pub returns-then-ordered-issue-clause-cycles : goal.returns-then-ordered-issue-clause-cycles
returns-then-ordered-issue-clause-cycles g c =
    let run : Input = g.R.Rows.input c.args.rows.now in
    let t : Table = times (g.R.Rows.table c.args.rows.now) in
    let j : ℕ = slice_index c.args.order.now c.args.i in
    let li : c.args.i < run.rows = omega (arith, c.requires.place, c.requires.order.all.rows) in
    let lj : j < run.rows = c.requires.order.all.below c.args.i li in
    let waits = waits_sum run t j c.requires.run.run.each lj in
    let early = issue_early run t j c.requires.run.run.each lj in
    let cycle : c.times-times.result.now.issue ≡ (t j).issue = ap (λ r. r.issue) c.times-times.ensures in
    let from : c.earliest-from.result ≡ earliest run t j = c.earliest-from.ensures (t j).issue (run.row j).reserved (c.requires.slots.each j lj) ∙ ap (λ r. if (run.row j).reserved then r.dispatch else r.dispatch + 1) c.times-times.ensures in
    let ordered : c.earliest-from.result + c.args.waits.register.cycles + c.args.waits.memory.cycles ≡ memory_at run t j = omega (arith, from, c.requires.waits.register.is, c.requires.waits.memory.is, waits.0, waits.1) in
    omega (arith, c.if-ordered-issue.true, ordered, cycle)

pub take_before-requires-clause-some : goal.take_before-requires-clause-some
take_before-requires-clause-some g c =
    let run : Input = g.R.Rows.input c.args.rows.now in
    let t : Table = times (g.R.Rows.table c.args.rows.now) in
    let j : ℕ = slice_index c.args.order.now c.args.i in
    let li : c.args.i < run.rows = omega (arith, c.requires.place, c.requires.order.all.rows) in
    let lj : j < run.rows = c.requires.order.all.below c.args.i li in
    let waits = waits_sum run t j c.requires.run.run.each lj in
    let early = issue_early run t j c.requires.run.run.each lj in
    let cycle : c.times-times.result.now.issue ≡ (t j).issue = ap (λ r. r.issue) c.times-times.ensures in
    let from : c.earliest-from.result ≡ earliest run t j = c.earliest-from.ensures (t j).issue (run.row j).reserved (c.requires.slots.each j lj) ∙ ap (λ r. if (run.row j).reserved then r.dispatch else r.dispatch + 1) c.times-times.ensures in
    let ordered : c.earliest-from.result + c.args.waits.register.cycles + c.args.waits.memory.cycles ≡ memory_at run t j = omega (arith, from, c.requires.waits.register.is, c.requires.waits.memory.is, waits.0, waits.1) in
    let some : 0 < (t j).issue = omega (arith, c.if-ordered-issue.false, ordered, cycle, waits.2) in
    some

pub overflow_sub-asks : goal.overflow_sub-asks
overflow_sub-asks g c =
    let run : Input = g.R.Rows.input c.args.rows.now in
    let t : Table = times (g.R.Rows.table c.args.rows.now) in
    let j : ℕ = slice_index c.args.order.now c.args.i in
    let li : c.args.i < run.rows = omega (arith, c.requires.place, c.requires.order.all.rows) in
    let lj : j < run.rows = c.requires.order.all.below c.args.i li in
    let waits = waits_sum run t j c.requires.run.run.each lj in
    let early = issue_early run t j c.requires.run.run.each lj in
    let cycle : c.times-times.result.now.issue ≡ (t j).issue = ap (λ r. r.issue) c.times-times.ensures in
    let from : c.earliest-from.result ≡ earliest run t j = c.earliest-from.ensures (t j).issue (run.row j).reserved (c.requires.slots.each j lj) ∙ ap (λ r. if (run.row j).reserved then r.dispatch else r.dispatch + 1) c.times-times.ensures in
    let ordered : c.earliest-from.result + c.args.waits.register.cycles + c.args.waits.memory.cycles ≡ memory_at run t j = omega (arith, from, c.requires.waits.register.is, c.requires.waits.memory.is, waits.0, waits.1) in
    let some : 0 < (t j).issue = omega (arith, c.if-ordered-issue.false, ordered, cycle, waits.2) in
    omega (arith, some, cycle)

pub release_until-requires : goal.release_until-requires
release_until-requires g c =
    let run : Input = g.R.Rows.input c.args.rows.now in
    let t : Table = times (g.R.Rows.table c.args.rows.now) in
    let j : ℕ = slice_index c.args.order.now c.args.i in
    let li : c.args.i < run.rows = omega (arith, c.requires.place, c.requires.order.all.rows) in
    let lj : j < run.rows = c.requires.order.all.below c.args.i li in
    let waits = waits_sum run t j c.requires.run.run.each lj in
    let early = issue_early run t j c.requires.run.run.each lj in
    let cycle : c.times-times.result.now.issue ≡ (t j).issue = ap (λ r. r.issue) c.times-times.ensures in
    let from : c.earliest-from.result ≡ earliest run t j = c.earliest-from.ensures (t j).issue (run.row j).reserved (c.requires.slots.each j lj) ∙ ap (λ r. if (run.row j).reserved then r.dispatch else r.dispatch + 1) c.times-times.ensures in
    let ordered : c.earliest-from.result + c.args.waits.register.cycles + c.args.waits.memory.cycles ≡ memory_at run t j = omega (arith, from, c.requires.waits.register.is, c.requires.waits.memory.is, waits.0, waits.1) in
    omega (arith, cycle, early.1, early.2, c.requires.run.early j lj)

pub overflow_sub-cycles : goal.overflow_sub-cycles
overflow_sub-cycles g c =
    let run : Input = g.R.Rows.input c.args.rows.now in
    let t : Table = times (g.R.Rows.table c.args.rows.now) in
    let j : ℕ = slice_index c.args.order.now c.args.i in
    let li : c.args.i < run.rows = omega (arith, c.requires.place, c.requires.order.all.rows) in
    let lj : j < run.rows = c.requires.order.all.below c.args.i li in
    let waits = waits_sum run t j c.requires.run.run.each lj in
    let early = issue_early run t j c.requires.run.run.each lj in
    let cycle : c.times-times.result.now.issue ≡ (t j).issue = ap (λ r. r.issue) c.times-times.ensures in
    let from : c.earliest-from.result ≡ earliest run t j = c.earliest-from.ensures (t j).issue (run.row j).reserved (c.requires.slots.each j lj) ∙ ap (λ r. if (run.row j).reserved then r.dispatch else r.dispatch + 1) c.times-times.ensures in
    let ordered : c.earliest-from.result + c.args.waits.register.cycles + c.args.waits.memory.cycles ≡ memory_at run t j = omega (arith, from, c.requires.waits.register.is, c.requires.waits.memory.is, waits.0, waits.1) in
    omega (arith, ordered, cycle, waits.2)

pub blamed-row-requires-clause-cycle : goal.blamed-row-requires-clause-cycle
blamed-row-requires-clause-cycle g c = ap (λ r. r.issue - 1) c.times-times.ensures

pub blamed-row-requires-clause-holders : goal.blamed-row-requires-clause-holders
blamed-row-requires-clause-holders g c =
    let run : Input = g.R.Rows.input c.args.rows.now in
    let t : Table = times (g.R.Rows.table c.args.rows.now) in
    let j : ℕ = slice_index c.args.order.now c.args.i in
    let li : c.args.i < run.rows = omega (arith, c.requires.place, c.requires.order.all.rows) in
    let lj : j < run.rows = c.requires.order.all.below c.args.i li in
    let waits = waits_sum run t j c.requires.run.run.each lj in
    let early = issue_early run t j c.requires.run.run.each lj in
    let cycle : c.times-times.result.now.issue ≡ (t j).issue = ap (λ r. r.issue) c.times-times.ensures in
    let from : c.earliest-from.result ≡ earliest run t j = c.earliest-from.ensures (t j).issue (run.row j).reserved (c.requires.slots.each j lj) ∙ ap (λ r. if (run.row j).reserved then r.dispatch else r.dispatch + 1) c.times-times.ensures in
    let ordered : c.earliest-from.result + c.args.waits.register.cycles + c.args.waits.memory.cycles ≡ memory_at run t j = omega (arith, from, c.requires.waits.register.is, c.requires.waits.memory.is, waits.0, waits.1) in
    let asks : c.take_before.ensures.taking.cycle ≤ (t j).issue - 1 = c.take_before.ensures.taking.ready.asks c.args.i (let e : c.args.i ≤ c.args.i = omega arith in e) li in
    holders_later run t c.args.order.now c.take_before.new.taken c.take_before.ensures.taking.cycle ((t j).issue - 1) c.take_before.new.last asks c.take_before.ensures.taking.holders

pub returns-clause-taking : goal.returns-clause-taking
returns-clause-taking g c =
    let run : Input = g.R.Rows.input c.args.rows.now in
    let t : Table = times (g.R.Rows.table c.args.rows.now) in
    let j : ℕ = slice_index c.args.order.now c.args.i in
    let li : c.args.i < run.rows = omega (arith, c.requires.place, c.requires.order.all.rows) in
    let lj : j < run.rows = c.requires.order.all.below c.args.i li in
    let waits = waits_sum run t j c.requires.run.run.each lj in
    let early = issue_early run t j c.requires.run.run.each lj in
    let cycle : c.times-times.result.now.issue ≡ (t j).issue = ap (λ r. r.issue) c.times-times.ensures in
    let from : c.earliest-from.result ≡ earliest run t j = c.earliest-from.ensures (t j).issue (run.row j).reserved (c.requires.slots.each j lj) ∙ ap (λ r. if (run.row j).reserved then r.dispatch else r.dispatch + 1) c.times-times.ensures in
    let ordered : c.earliest-from.result + c.args.waits.register.cycles + c.args.waits.memory.cycles ≡ memory_at run t j = omega (arith, from, c.requires.waits.register.is, c.requires.waits.memory.is, waits.0, waits.1) in
    let asks : c.take_before.ensures.taking.cycle ≤ (t j).issue - 1 = c.take_before.ensures.taking.ready.asks c.args.i (let e : c.args.i ≤ c.args.i = omega arith in e) li in
    record {
      cycle = (t j).issue - 1;
      ready = ready_first run t c.args.order.now c.take_before.new.taken c.args.i c.take_before.ensures.taking.cycle c.requires.order li c.take_before.ensures.first c.take_before.ensures.taking.ready;
      stands = subst (λ n. StandsFor g.M.Machine.meaning g.M.Mask.UnitMask.holds (n - 1) c.release_until.new.self (taken_along run t c.args.order.now c.take_before.new.taken)) cycle
          (c.release_until.ensures.stands (taken_along run t c.args.order.now c.take_before.new.taken) c.take_before.ensures.taking.cycle (omega (arith, asks, cycle)) c.take_before.ensures.taking.stands);
      holders = holders_later run t c.args.order.now c.take_before.new.taken c.take_before.ensures.taking.cycle ((t j).issue - 1) c.take_before.new.last asks c.take_before.ensures.taking.holders;
      machine = c.release_until.ensures.machine ∙ c.take_before.ensures.taking.machine;
    }

pub returns-clause-cycles : goal.returns-clause-cycles
returns-clause-cycles g c =
    let run : Input = g.R.Rows.input c.args.rows.now in
    let t : Table = times (g.R.Rows.table c.args.rows.now) in
    let j : ℕ = slice_index c.args.order.now c.args.i in
    let li : c.args.i < run.rows = omega (arith, c.requires.place, c.requires.order.all.rows) in
    let lj : j < run.rows = c.requires.order.all.below c.args.i li in
    let waits = waits_sum run t j c.requires.run.run.each lj in
    let early = issue_early run t j c.requires.run.run.each lj in
    let cycle : c.times-times.result.now.issue ≡ (t j).issue = ap (λ r. r.issue) c.times-times.ensures in
    let from : c.earliest-from.result ≡ earliest run t j = c.earliest-from.ensures (t j).issue (run.row j).reserved (c.requires.slots.each j lj) ∙ ap (λ r. if (run.row j).reserved then r.dispatch else r.dispatch + 1) c.times-times.ensures in
    let ordered : c.earliest-from.result + c.args.waits.register.cycles + c.args.waits.memory.cycles ≡ memory_at run t j = omega (arith, from, c.requires.waits.register.is, c.requires.waits.memory.is, waits.0, waits.1) in
    omega (arith, ordered, cycle)

pub returns-clause-wait : goal.returns-clause-wait
returns-clause-wait g c =
    let run : Input = g.R.Rows.input c.args.rows.now in
    let t : Table = times (g.R.Rows.table c.args.rows.now) in
    let j : ℕ = slice_index c.args.order.now c.args.i in
    let li : c.args.i < run.rows = omega (arith, c.requires.place, c.requires.order.all.rows) in
    let lj : j < run.rows = c.requires.order.all.below c.args.i li in
    let waits = waits_sum run t j c.requires.run.run.each lj in
    let early = issue_early run t j c.requires.run.run.each lj in
    let cycle : c.times-times.result.now.issue ≡ (t j).issue = ap (λ r. r.issue) c.times-times.ensures in
    let from : c.earliest-from.result ≡ earliest run t j = c.earliest-from.ensures (t j).issue (run.row j).reserved (c.requires.slots.each j lj) ∙ ap (λ r. if (run.row j).reserved then r.dispatch else r.dispatch + 1) c.times-times.ensures in
    let ordered : c.earliest-from.result + c.args.waits.register.cycles + c.args.waits.memory.cycles ≡ memory_at run t j = omega (arith, from, c.requires.waits.register.is, c.requires.waits.memory.is, waits.0, waits.1) in
    let cycles : resource_wait run t j ≡ c.times-times.result.now.issue - (c.earliest-from.result + c.args.waits.register.cycles + c.args.waits.memory.cycles) = omega (arith, ordered, cycle) in
    (λ i. edge_of Resource (cycles i) j (sym c.blamed-row.ensures i)) ∙ c.wait_for-2.ensures Resource j

pub bounds-slots-j : goal.bounds-slots-j
bounds-slots-j g c =
    let lt : slice_index c.args.order.now c.args.i < (g.R.Rows.input c.args.rows.now).rows = c.requires.order.all.below c.args.i (omega (arith, c.requires.place, c.requires.order.all.rows)) in
    omega (arith, lt, c.requires.slots.size)

pub earliest-from-requires : goal.earliest-from-requires
earliest-from-requires g c =
    let run : Input = g.R.Rows.input c.args.rows.now in
    let t : Table = times (g.R.Rows.table c.args.rows.now) in
    let j : ℕ = slice_index c.args.order.now c.args.i in
    let lj : j < run.rows = c.requires.order.all.below c.args.i (omega (arith, c.requires.place, c.requires.order.all.rows)) in
    let early = issue_early run t j c.requires.run.run.each lj in
    omega (arith, ap (λ r. r.dispatch) c.times-times.ensures, early.0, early.1, early.2, c.requires.run.early j lj)
