use Rattle.std.proofs.Common.{◌≡◌, ◌≤◌, ◌+◌, arith, sym, ◌∙◌, ap, subst, true, refl}
use Rattle.cycle_rules.specs.Row.{Input, Table, times, uops_of}
use Rattle.cycle_rules.specs.Dispatch.{fits_group}
use Rattle.dep_graph.specs.Walk.{IsFilled, IsWindow}
use Rattle.dep_graph.specs.declared.window.Limited.TheVariants.{Entries, Loads, Stores}
use Rattle.dep_graph.proofs.Reached.{holds_at_dispatch}
use Rattle.dep_graph.proofs.Walks.{some_uops, least_uops, next_start}
use Rattle.dep_graph.proofs.walk.Walk.pass_at_once.Goals as goal

pub join-requires : goal.join-requires
join-requires g c = record { few = c.requires.walk.fill.few }

pub take-requires-clause-fits : goal.take-requires-clause-fits
take-requires-clause-fits g c = λ some. omega (arith, least_uops (g.R.Rows.input c.args.rows.now) c.args.j, ap (λ l. l.reorder) c.limits-limits.ensures)

pub returns : goal.returns
returns g c =
    let run : Input = g.R.Rows.input c.args.rows.now in
    let t : Table = times (g.R.Rows.table c.args.rows.now) in
    let filled : IsFilled run t c.args.j (t c.args.j).dispatch c.args.self.now.fill = subst (λ e. IsFilled run t c.args.j e c.args.self.now.fill) (sym c.requires.at_once) c.requires.walk.fill in
    let uops : uops_of run c.args.j ≡ c.uops.result = sym (c.uops.ensures run c.args.j c.instruction-b.ensures.row (ap (λ l. l.reorder) (sym c.limits-limits.ensures))) in
    let some : 1 ≤ c.uops.result = omega (arith, uops, some_uops run c.args.j (c.requires.run.bound c.args.j c.requires.row).uops_low c.requires.run.limits.reorder_low) in
    let fits : fits_group run t c.args.j (t c.args.j).dispatch ≡ true = holds_at_dispatch run t c.args.j 0 c.requires.run.run.each c.requires.row (omega arith) in
    let joined : IsFilled run t (c.args.j + 1) (t c.args.j).dispatch c.join.new.self =
    c.join.ensures run t c.args.j (t c.args.j).dispatch filled c.requires.run.limits some uops (ap (λ r. r.ends_group) (sym c.instruction-b.ensures.row)) refl fits in
    record {
      walk = record {
        begin = c.requires.walk.begin ∙ sym c.requires.at_once ∙ next_start t c.args.j;
        fill = subst (λ e. IsFilled run t (c.args.j + 1) e c.join.new.self) (next_start t c.args.j) joined;
        entries = subst (λ l. IsWindow run Entries l.reorder (c.args.j + 1) c.take.new.self) c.limits-limits.ensures c.take.ensures.window;
        registers = c.take_registers.ensures.window;
        loads = subst (λ l. IsWindow run Loads l.loads (c.args.j + 1) c.take-2.new.self) c.limits-limits.ensures c.take-2.ensures.window;
        stores = subst (λ l. IsWindow run Stores l.stores (c.args.j + 1) c.take-3.new.self) c.limits-limits.ensures c.take-3.ensures.window;
        files = c.take_registers.ensures.files;
      };
    }
