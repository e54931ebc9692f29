use Rattle.std.proofs.Common.{◌≡◌, ◌≤◌, ◌+◌, ℕ, arith, sym, ◌∙◌, ap, subst}
use Rattle.std.specs.Prelude.{nat_le}
use Rattle.cycle_rules.specs.Row.{Input, Table, times}
use Rattle.dep_graph.specs.Stalls.{condition}
use Rattle.dep_graph.specs.Thresholds.{start}
use Rattle.dep_graph.specs.RowCounts.{AreOfRow}
use Rattle.dep_graph.specs.Walk.{IsFilled, IsWindow, weight_of, is_enough}
use Rattle.dep_graph.specs.declared.counts.Marks.{Marks}
use Rattle.dep_graph.specs.declared.window.Limited.TheVariants.{Entries, Loads, Stores}
use Rattle.dep_graph.proofs.Reached.{mark_low}
use Rattle.dep_graph.proofs.Walks.{some_uops, reorder_enough, loads_enough, stores_enough, least_uops, next_start, row_stalls_are}
use Rattle.dep_graph.proofs.walk.Walk.pass_later.Goals as goal

pub take-requires-clause-fits : goal.take-requires-clause-fits
take-requires-clause-fits g c = λ some. omega (arith, least_uops (g.R.Rows.input c.args.rows.now) c.args.j, ap (λ l. l.reorder) c.limits-limits.ensures)

pub of_row-requires-clause-group : goal.of_row-requires-clause-group
of_row-requires-clause-group g c =
    let run : Input = g.R.Rows.input c.args.rows.now in
    let t : Table = times (g.R.Rows.table c.args.rows.now) in
    let end : c.times.result.now.dispatch ≡ (t c.args.j).dispatch = ap (λ r. r.dispatch) c.times.ensures in
    let h0 : (b : ℕ) → start t c.args.j ≤ b → condition run t c.args.j b 0 ≡ nat_le c.fill_group.result b = λ b le. c.fill_group.ensures.from b (omega (arith, le, c.requires.walk.begin)) in
    omega (arith, mark_low run t c.args.j 0 c.fill_group.result c.requires.run.run.each c.requires.row (omega arith) h0, end)

pub of_row-requires-clause-reorder : goal.of_row-requires-clause-reorder
of_row-requires-clause-reorder g c =
    let run : Input = g.R.Rows.input c.args.rows.now in
    let t : Table = times (g.R.Rows.table c.args.rows.now) in
    let end : c.times.result.now.dispatch ≡ (t c.args.j).dispatch = ap (λ r. r.dispatch) c.times.ensures in
    let h1 : (b : ℕ) → start t c.args.j ≤ b → condition run t c.args.j b 1 ≡ nat_le c.take.result b = λ b le.
    reorder_enough run t c.args.j b c.requires.run.limits.reorder_low (some_uops run c.args.j (c.requires.run.bound c.args.j c.requires.row).uops_low c.requires.run.limits.reorder_low)
    ∙ ap (λ l. is_enough (weight_of run Entries) l.reorder t c.args.j b) (sym c.limits-limits.ensures) ∙ c.take.ensures.from b in
    omega (arith, mark_low run t c.args.j 1 c.take.result c.requires.run.run.each c.requires.row (omega arith) h1, end)

pub of_row-requires-clause-registers : goal.of_row-requires-clause-registers
of_row-requires-clause-registers g c =
    let run : Input = g.R.Rows.input c.args.rows.now in
    let t : Table = times (g.R.Rows.table c.args.rows.now) in
    let end : c.times.result.now.dispatch ≡ (t c.args.j).dispatch = ap (λ r. r.dispatch) c.times.ensures in
    let h2 : (b : ℕ) → start t c.args.j ≤ b → condition run t c.args.j b 2 ≡ nat_le c.take_registers.result b = λ b le. c.take_registers.ensures.from b le in
    omega (arith, mark_low run t c.args.j 2 c.take_registers.result c.requires.run.run.each c.requires.row (omega arith) h2, end)

pub of_row-requires-clause-loads : goal.of_row-requires-clause-loads
of_row-requires-clause-loads g c =
    let run : Input = g.R.Rows.input c.args.rows.now in
    let t : Table = times (g.R.Rows.table c.args.rows.now) in
    let end : c.times.result.now.dispatch ≡ (t c.args.j).dispatch = ap (λ r. r.dispatch) c.times.ensures in
    let h3 : (b : ℕ) → start t c.args.j ≤ b → condition run t c.args.j b 3 ≡ nat_le c.take-2.result b = λ b le.
    loads_enough run t c.args.j b ∙ ap (λ l. is_enough (weight_of run Loads) l.loads t c.args.j b) (sym c.limits-limits.ensures) ∙ c.take-2.ensures.from b in
    omega (arith, mark_low run t c.args.j 3 c.take-2.result c.requires.run.run.each c.requires.row (omega arith) h3, end)

pub of_row-requires-clause-stores : goal.of_row-requires-clause-stores
of_row-requires-clause-stores g c =
    let run : Input = g.R.Rows.input c.args.rows.now in
    let t : Table = times (g.R.Rows.table c.args.rows.now) in
    let end : c.times.result.now.dispatch ≡ (t c.args.j).dispatch = ap (λ r. r.dispatch) c.times.ensures in
    let h4 : (b : ℕ) → start t c.args.j ≤ b → condition run t c.args.j b 4 ≡ nat_le c.take-3.result b = λ b le.
    stores_enough run t c.args.j b ∙ ap (λ l. is_enough (weight_of run Stores) l.stores t c.args.j b) (sym c.limits-limits.ensures) ∙ c.take-3.ensures.from b in
    omega (arith, mark_low run t c.args.j 4 c.take-3.result c.requires.run.run.each c.requires.row (omega arith) h4, end)

pub returns-clause-walk : goal.returns-clause-walk
returns-clause-walk g c =
    let run : Input = g.R.Rows.input c.args.rows.now in
    let t : Table = times (g.R.Rows.table c.args.rows.now) in
    let end : c.times.result.now.dispatch ≡ (t c.args.j).dispatch = ap (λ r. r.dispatch) c.times.ensures in
    record {
      begin = end ∙ next_start t c.args.j;
      fill = subst (λ e. IsFilled run t (c.args.j + 1) e c.fill_group.new.fill) (end ∙ next_start t c.args.j) c.fill_group.ensures.fill;
      entries = subst (λ l. IsWindow run Entries l.reorder (c.args.j + 1) c.take.new.self) c.limits-limits.ensures c.take.ensures.window;
      registers = c.take_registers.ensures.window;
      loads = subst (λ l. IsWindow run Loads l.loads (c.args.j + 1) c.take-2.new.self) c.limits-limits.ensures c.take-2.ensures.window;
      stores = subst (λ l. IsWindow run Stores l.stores (c.args.j + 1) c.take-3.new.self) c.limits-limits.ensures c.take-3.ensures.window;
      files = c.take_registers.ensures.files;
    }

pub returns-clause-counts : goal.returns-clause-counts
returns-clause-counts g c =
    let run : Input = g.R.Rows.input c.args.rows.now in
    let t : Table = times (g.R.Rows.table c.args.rows.now) in
    let end : c.times.result.now.dispatch ≡ (t c.args.j).dispatch = ap (λ r. r.dispatch) c.times.ensures in
    let h0 : (b : ℕ) → start t c.args.j ≤ b → condition run t c.args.j b 0 ≡ nat_le c.fill_group.result b = λ b le. c.fill_group.ensures.from b (omega (arith, le, c.requires.walk.begin)) in
    let h1 : (b : ℕ) → start t c.args.j ≤ b → condition run t c.args.j b 1 ≡ nat_le c.take.result b = λ b le.
    reorder_enough run t c.args.j b c.requires.run.limits.reorder_low (some_uops run c.args.j (c.requires.run.bound c.args.j c.requires.row).uops_low c.requires.run.limits.reorder_low)
    ∙ ap (λ l. is_enough (weight_of run Entries) l.reorder t c.args.j b) (sym c.limits-limits.ensures) ∙ c.take.ensures.from b in
    let h2 : (b : ℕ) → start t c.args.j ≤ b → condition run t c.args.j b 2 ≡ nat_le c.take_registers.result b = λ b le. c.take_registers.ensures.from b le in
    let h3 : (b : ℕ) → start t c.args.j ≤ b → condition run t c.args.j b 3 ≡ nat_le c.take-2.result b = λ b le.
    loads_enough run t c.args.j b ∙ ap (λ l. is_enough (weight_of run Loads) l.loads t c.args.j b) (sym c.limits-limits.ensures) ∙ c.take-2.ensures.from b in
    let h4 : (b : ℕ) → start t c.args.j ≤ b → condition run t c.args.j b 4 ≡ nat_le c.take-3.result b = λ b le.
    stores_enough run t c.args.j b ∙ ap (λ l. is_enough (weight_of run Stores) l.stores t c.args.j b) (sym c.limits-limits.ensures) ∙ c.take-3.ensures.from b in
    let from : Marks = record { group = c.fill_group.result; reorder = c.take.result; registers = c.take_registers.result; loads = c.take-2.result; stores = c.take-3.result } in
    let is : (run.row c.args.j).reserved ≡ c.instruction-b.result.now.reserved = ap (λ r. r.reserved) (sym c.instruction-b.ensures.row) in
    let at_start : AreOfRow (start t c.args.j) from c.times.result.now.dispatch c.instruction-b.result.now.reserved c.of_row.result =
    subst (λ s. AreOfRow s from c.times.result.now.dispatch c.instruction-b.result.now.reserved c.of_row.result) c.requires.walk.begin c.of_row.ensures in
    row_stalls_are run t c.args.j from c.instruction-b.result.now.reserved c.of_row.result c.requires.run.run.each c.requires.row is h0 h1 h2 h3 h4
    (subst (λ e. AreOfRow (start t c.args.j) from e c.instruction-b.result.now.reserved c.of_row.result) end at_start)
