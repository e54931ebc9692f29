-- What the rows of a run take, along the issue order.
use Rattle.std.proofs.Common.{suc, ◌≡◌, ℕ, ◌+◌, ◌-◌, ◌<◌, ◌≤◌, arith, refl, sym, ◌∙◌, ap, subst, true, List, ◌++◌, length}
use Rattle.std.specs.Prelude.{slice_index, replicate, Option, Some, None, is_some}
use Rattle.std.proofs.lemmas.Bool.{and_parts, false≢true}
use Rattle.std.proofs.lemmas.Bool.Decides.{nat_tests}
use Rattle.machine_model.specs.declared.facts.Use.{Use}
use Rattle.cycle_rules.specs.Row.{Input, Table, phase}
use Rattle.cycle_rules.specs.Seen.{comes_before}
use Rattle.cycle_rules.specs.Issue.{can_start}
use Rattle.cycle_rules.specs.Waits.{at_issue}
use Rattle.cycle_rules.specs.Pick.{pick, pick_units, padded, no_unit, taken_by}
use Rattle.cycle_rules.specs.Held.{taken_of}
use Rattle.dep_graph.specs.Blamed.{is_before}
use Rattle.dep_graph.specs.Holders.{taken_along}
use Rattle.dep_graph.specs.RunGraph.{IsIssueOrder}
use Rattle.dep_graph.proofs.Along.{along_is, first_before}
use Rattle.dep_graph.proofs.Runs.{AreRows}
use Rattle.dep_graph.proofs.Takers.{ArePicked, are_picked}
use Rattle.dep_graph.proofs.Timed.{issued}

starts : (g : Input) (t : Table) (j c : ℕ) → can_start g t j c ≡ true → is_some (pick g t j c) ≡ true
unfolding can_start
starts g t j c h = (and_parts _ _ h).1

pick_along : (g : Input) (t : Table) (order : List ℕ) (q : ℕ) → IsIssueOrder g t order → q < g.rows
    → pick_units g.machine (taken_along g t order q) (t (slice_index order q)).issue (g.row (slice_index order q)).uses ≡ pick g (at_issue g t (slice_index order q) (t (slice_index order q)).issue) (slice_index order q) (t (slice_index order q)).issue
unfolding pick
pick_along g t order q is lt =
    let k : ℕ = slice_index order q in
    ap (λ l. pick_units g.machine l (t k).issue (g.row k).uses) (along_is g t order q (phase (g.row k)) k (t k).issue is (omega (arith, lt)) (first_before g t order q is lt))

pub found_at : (g : Input) (t : Table) (order : List ℕ) (q : ℕ) → IsIssueOrder g t order → AreRows g t → q < g.rows
    → is_some (pick_units g.machine (taken_along g t order q) (t (slice_index order q)).issue (g.row (slice_index order q)).uses) ≡ true
found_at g t order q is rows lt =
    let k : ℕ = slice_index order q in
    ap is_some (pick_along g t order q is lt) ∙ starts g (at_issue g t k (t k).issue) k (t k).issue (issued g t k (rows k (is.all.below q lt))).0

pub units_at : (g : Input) (t : Table) (order : List ℕ) (q : ℕ) → IsIssueOrder g t order → AreRows g t → q < g.rows
    → (t (slice_index order q)).units ≡ padded (pick_units g.machine (taken_along g t order q) (t (slice_index order q)).issue (g.row (slice_index order q)).uses)
units_at g t order q is rows lt = (rows (slice_index order q) (is.all.below q lt)).units ∙ ap padded (sym (pick_along g t order q is lt))

pub picked_at : (g : Input) (t : Table) (order : List ℕ) (q : ℕ) → IsIssueOrder g t order → AreRows g t → q < g.rows → ArePicked g.machine (taken_along g t order q) (t (slice_index order q)).issue (taken_of g t (slice_index order q))
unfolding padded
picked_at g t order q is rows lt = go (pick_units g.machine (taken_along g t order q) c uses) refl (found_at g t order q is rows lt) (units_at g t order q is rows lt)
  where
    k : ℕ
    k = slice_index order q

    c : ℕ
    c = (t k).issue

    uses : List Use
    uses = (g.row k).uses

    go : (o : Option (List ℕ)) → pick_units g.machine (taken_along g t order q) c uses ≡ o → is_some o ≡ true → (t k).units ≡ padded o → ArePicked g.machine (taken_along g t order q) c (taken_of g t k)
    go None e some units = absurd (false≢true some)
    go (Some us) e some units = subst (λ l. ArePicked g.machine (taken_along g t order q) c (taken_by c uses l)) (sym units) (are_picked g.machine (taken_along g t order q) c uses us (replicate (8 - length us) no_unit) e)

issue_le : (g : Input) (t : Table) (a b : ℕ) → is_before g t a b ≡ true → (t a).issue ≤ (t b).issue
unfolding comes_before
issue_le g t a b h = grind (arith, nat_tests, h)

pub along_early : (g : Input) (t : Table) (order : List ℕ) (i q : ℕ) → IsIssueOrder g t order → i < q → q < g.rows → (t (slice_index order i)).issue ≤ (t (slice_index order q)).issue
along_early g t order i q is lt le = issue_le g t (slice_index order i) (slice_index order q) (is.sorted i q lt le)

pub along_next : (g : Input) (t : Table) (order : List ℕ) (q : ℕ) → taken_along g t order q ++ taken_of g t (slice_index order q) ≡ taken_along g t order (q + 1)
along_next g t order q = let e : suc q ≡ q + 1 = omega arith in ap (taken_along g t order) e
