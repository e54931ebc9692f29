use Rattle.std.proofs.Common.{◌≡◌, arith, sym, ◌∙◌, ap, subst}
use Rattle.std.specs.Prelude.{slice_index_or}
use Rattle.dep_graph.specs.Peaks.{IsWait, kept_at}
use Rattle.dep_graph.specs.declared.waits.Wait.{Wait}
use Rattle.dep_graph.proofs.Pushed.{past_end}
use Rattle.dep_graph.proofs.memory_waits.MemoryWaits.keep.Goals as goal

pub returns-then-wait-eq0-clause-kept : goal.returns-then-wait-eq0-clause-kept
returns-then-wait-eq0-clause-kept c = record {
  rows = omega (arith, c.requires.kept.rows);
  few = omega (arith, c.requires.kept.few);
  none = c.requires.kept.none;
  within = c.requires.kept.within;
}

pub returns-then-wait-eq0-clause-row : goal.returns-then-wait-eq0-clause-row
returns-then-wait-eq0-clause-row c = λ cycles blamed is.
    let none : Wait = record { cycles = 0; row = 0 } in
    let here : kept_at c.args.self.now c.args.j ≡ none = ap (λ n. slice_index_or c.args.self.now.waits.items n none) (past_end c.args.self.now.places.items 0 c.args.j c.requires.kept.rows) ∙ c.requires.kept.none in
    subst (IsWait cycles blamed) (sym here) (record { is = sym c.if-wait-eq0.true ∙ is.is; row_is = λ some. absurd (omega (arith, some)) })
