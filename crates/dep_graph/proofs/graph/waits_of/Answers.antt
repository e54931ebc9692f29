use Rattle.std.proofs.Common.{◌≡◌, ◌<◌, ◌^◌, List, ℕ, length, sym, ◌∙◌, ap, subst}
use Rattle.critical_chain.specs.Graph.{place, AreForward, IsOrder, cost_of}
use Rattle.cycle_rules.specs.Row.{Input, Table, times}
use Rattle.dep_graph.specs.Blamed.{edges_along}
use Rattle.dep_graph.specs.RowCounts.{listed}
use Rattle.dep_graph.specs.RunGraph.{IsIssueOrder}
use Rattle.dep_graph.specs.WaitSums.{AreSumsAlong}
use Rattle.dep_graph.proofs.Forward.{edges_forward, edges_low}
use Rattle.dep_graph.proofs.Summed.{sums_ordered}
use Rattle.dep_graph.proofs.Walks.{listed_sums}
use Rattle.dep_graph.proofs.graph.waits_of.Goals as goal

pub returns-clause-graph : goal.returns-clause-graph
returns-clause-graph g c =
    let run : Input = g.R.Rows.input c.args.rows.now in
    let t : Table = times (g.R.Rows.table c.args.rows.now) in
    let order : List ℕ = c.in_ok-order.order.items in
    let is : IsIssueOrder run t order = c.in_ok-order.ensures in
    let edges : c.from_vec-2.result ≡ edges_along run t order = c.from_vec-2.ensures ∙ c.in_ok-edges.ensures.edges ∙ ap (edges_along run t) c.deref-2.ensures.value in
    let all : AreForward run.rows (place order) (edges_along run t order) = edges_forward run t order is c.requires.run.run.each in
    record {
      order = subst (λ n. IsOrder n c.from_vec.result) (sym c.count.ensures) (subst (IsOrder run.rows) (sym c.from_vec.ensures) is.all);
      edges = subst (λ n. AreForward n (place c.from_vec.result) c.from_vec-2.result) (sym c.count.ensures)
          (subst (λ o. AreForward run.rows (place o) c.from_vec-2.result) (sym c.from_vec.ensures) (subst (AreForward run.rows (place order)) (sym edges) all));
      low = subst (λ l. cost_of l < 2 ^ 64) (sym edges) (edges_low run (g.R.Rows.table c.args.rows.now) order is c.requires.run);
    }

pub returns-clause-sums : goal.returns-clause-sums
returns-clause-sums g c =
    let run : Input = g.R.Rows.input c.args.rows.now in
    let t : Table = times (g.R.Rows.table c.args.rows.now) in
    let order : List ℕ = c.in_ok-order.order.items in
    let is : IsIssueOrder run t order = c.in_ok-order.ensures in
    let along : AreSumsAlong run t order (length order) c.in_ok-edges.field-0.sums = subst (λ o. AreSumsAlong run t o (length o) c.in_ok-edges.field-0.sums) c.deref-2.ensures.value c.in_ok-edges.ensures.sums in
    sums_ordered run t run.rows order c.in_ok-edges.field-0.sums is.all (subst (λ n. AreSumsAlong run t order n c.in_ok-edges.field-0.sums) is.all.rows along)

pub returns-clause-stalls : goal.returns-clause-stalls
returns-clause-stalls g c =
    c.listed.ensures ∙ ap listed c.in_ok-slots.ensures.stalls ∙ listed_sums (g.R.Rows.input c.args.rows.now) (times (g.R.Rows.table c.args.rows.now)) c.requires.run.run.each
