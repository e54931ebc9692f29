use Rattle.std.proofs.Common.{◌≡◌, ◌++◌, ◌<◌, ℕ, List, arith, sym, ◌∙◌, ap, subst}
use Rattle.std.specs.Prelude.{slice_index}
use Rattle.std.proofs.lemmas.List.{take_all}
use Rattle.critical_chain.specs.declared.graph.Edge.{Edge}
use Rattle.critical_chain.specs.declared.graph.EdgeKind.TheVariants.{Register, Memory, Resource}
use Rattle.cycle_rules.specs.Row.{Input, Table, times}
use Rattle.cycle_rules.specs.Waits.{register_wait, memory_wait}
use Rattle.dep_graph.specs.Blamed.{edges_along, edges_to, register_blamed, memory_blamed}
use Rattle.dep_graph.specs.Peaks.{AreWaits, IsWait}
use Rattle.dep_graph.specs.Taking.{wait_edge}
use Rattle.dep_graph.specs.declared.waits.Waits.{Waits}
use Rattle.dep_graph.proofs.Forward.{edge_wait, along_more, three_pushed}
use Rattle.dep_graph.proofs.graph.edges_in_order.Goals as goal

pub register_wait-requires-clause-slot : goal.register_wait-requires-clause-slot
register_wait-requires-clause-slot g c =
    let j : ℕ = slice_index c.args.order.now c.loop-i.i in
    let lj : j < (g.R.Rows.input c.args.rows.now).rows = c.requires.order.all.below c.loop-i.i (omega (arith, c.loop-i-test.true, c.requires.order.all.rows)) in
    c.requires.slots.each j lj

pub unit_wait-found-requires-clause-waits : goal.unit_wait-found-requires-clause-waits
unit_wait-found-requires-clause-waits g c =
    let run : Input = g.R.Rows.input c.args.rows.now in
    let t : Table = times (g.R.Rows.table c.args.rows.now) in
    let j : ℕ = slice_index c.args.order.now c.loop-i.i in
    let lj : j < run.rows = c.requires.order.all.below c.loop-i.i (omega (arith, c.loop-i-test.true, c.requires.order.all.rows)) in
    record {
      register = c.register_wait.ensures;
      memory = subst (IsWait (memory_wait run t j) (memory_blamed run t j)) (sym c.of.ensures) (c.requires.memory j lj);
    }

pub with_row-sums-requires-clause-waits : goal.with_row-sums-requires-clause-waits
with_row-sums-requires-clause-waits g c =
    let run : Input = g.R.Rows.input c.args.rows.now in
    let t : Table = times (g.R.Rows.table c.args.rows.now) in
    let j : ℕ = slice_index c.args.order.now c.loop-i.i in
    let lj : j < run.rows = c.requires.order.all.below c.loop-i.i (omega (arith, c.loop-i-test.true, c.requires.order.all.rows)) in
    record {
      before = record {
        register = c.register_wait.ensures;
        memory = subst (IsWait (memory_wait run t j) (memory_blamed run t j)) (sym c.of.ensures) (c.requires.memory j lj);
      };
      units = c.unit_wait-found.ensures.cycles;
    }

pub loop-i-preserved : goal.loop-i-preserved
loop-i-preserved g c =
    let run : Input = g.R.Rows.input c.args.rows.now in
    let t : Table = times (g.R.Rows.table c.args.rows.now) in
    let j : ℕ = slice_index c.args.order.now c.loop-i.i in
    let lj : j < run.rows = c.requires.order.all.below c.loop-i.i (omega (arith, c.loop-i-test.true, c.requires.order.all.rows)) in
    let before : Waits = record { register = c.register_wait.result; memory = c.of.result } in
    let waits : AreWaits run t j before = record {
      register = c.register_wait.ensures;
      memory = subst (IsWait (memory_wait run t j) (memory_blamed run t j)) (sym c.of.ensures) (c.requires.memory j lj);
    } in
    let old : List Edge = c.loop-i.edges.items in
    let a : List Edge = wait_edge Register j before.register in
    let b : List Edge = wait_edge Memory j before.memory in
    let e : List Edge = wait_edge Resource j c.unit_wait-found.result.wait in
    let one : c.push_wait.new.edges.items ≡ old ++ a = c.in_ok-push_wait.ensures in
    let two : c.push_wait-in-loop-i.new.edges.items ≡ c.push_wait.new.edges.items ++ b = c.in_ok-push_wait-2.ensures in
    let three : c.push_wait-in-loop-i-2.new.edges.items ≡ c.push_wait-in-loop-i.new.edges.items ++ e = c.in_ok-push_wait-3.ensures in
    record {
      taking = c.unit_wait-found.ensures.taking;
      sums = c.with_row-sums.ensures;
      edges = three ∙ ap (λ l. l ++ e) (two ∙ ap (λ l. l ++ b) one)
          ∙ three_pushed run t j old a b e (sym (edge_wait Register j (register_wait run t j) (register_blamed run t j) before.register waits.register)) (sym (edge_wait Memory j (memory_wait run t j) (memory_blamed run t j) before.memory waits.memory)) (sym c.unit_wait-found.ensures.wait)
          ∙ ap (λ l. l ++ edges_to run t j) c.loop-i.invariant.edges
          ∙ sym (along_more run t c.args.order.now c.loop-i.i c.loop-i-test.true);
    }

pub returns-clause-edges : goal.returns-clause-edges
returns-clause-edges g c = c.loop-i.invariant.edges ∙ ap (edges_along (g.R.Rows.input c.args.rows.now) (times (g.R.Rows.table c.args.rows.now))) (take_all c.loop-i.i c.args.order.now c.loop-i-test.false)
